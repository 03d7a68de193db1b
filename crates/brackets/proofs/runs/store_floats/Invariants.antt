use Prim.Native.Nat.{◌-◌}
use lib.Ieee.{binary32, of_bits}
use lib.ListN.{length}
use Rattle.grammar.specs.Digits.{floats}
use Rattle.brackets.specs.Runs.{RunRead}
use Rattle.brackets.proofs.runs.store_floats.Given as goal

abbrev pub invariant-loop-next : goal.invariant-loop-next
invariant-loop-next l = RunRead (of_bits binary32) floats l.text l.at l.n l.initial.cells l.cells (record { count = l.count; next = l.next; cell = l.cell })

abbrev pub decreases-loop-next : goal.decreases-loop-next
decreases-loop-next l = length l.text - l.next
