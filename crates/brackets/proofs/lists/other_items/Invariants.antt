use Prim.Native.Nat.{◌-◌}
use lib.ListN.{length}
use Rattle.brackets.proofs.ListLaws.{ItemsGoing}
use Rattle.brackets.proofs.lists.other_items.Given as goal

abbrev pub invariant-loop-x : goal.invariant-loop-x
invariant-loop-x g l =
    ItemsGoing g.C.Cell.of g.C.Cell.sort l.text l.at l.n l.initial.m l.initial.t l.initial.cells l.cells l.i l.k l.m l.t

abbrev pub decreases-loop-x : goal.decreases-loop-x
decreases-loop-x g l = length l.text - l.i
