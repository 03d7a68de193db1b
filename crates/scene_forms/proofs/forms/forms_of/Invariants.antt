use Prim.Native.Nat.{◌-◌}
use lib.ListN.{length}
use Rattle.scene_forms.specs.Read.{SameSlices, slices_in}
use Rattle.scene_forms.proofs.FormLaws.{FormsGoing}
use Rattle.scene_forms.proofs.forms.forms_of.Given as goal

abbrev pub invariant-loop-count : goal.invariant-loop-count
invariant-loop-count l =
    SameSlices l.initial.tables l.tables
    × FormsGoing l.text l.k l.initial.q (slices_in l.initial.tables) (slices_in l.tables) l.q l.count
    (length l.text - l.count)
