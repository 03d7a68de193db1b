use Rattle.scene_forms.specs.Read.{SameSlices, slices_in}
use Rattle.scene_forms.proofs.DocumentLaws.{DocumentGoing}
use Rattle.scene_forms.proofs.forms.document.Given as goal

abbrev pub invariant-loop-k : goal.invariant-loop-k
invariant-loop-k l =
    SameSlices l.initial.tables l.tables
    × DocumentGoing l.text l.initial.p (slices_in l.initial.tables) (slices_in l.tables) l.initial.counts l.counts
    l.reaches l.p l.k
