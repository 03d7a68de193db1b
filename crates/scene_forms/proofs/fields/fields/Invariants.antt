use Rattle.scene_forms.specs.Read.{SameSlices, changed}
use Rattle.scene_forms.proofs.FieldLaws.{FieldsGoing}
use Rattle.scene_forms.proofs.fields.fields.Given as goal

abbrev pub invariant-loop-j : goal.invariant-loop-j
invariant-loop-j l =
    SameSlices l.initial.tables l.tables
    × FieldsGoing l.text l.k l.initial.q (changed l.initial.tables l.tables) l.marks l.q l.j
