use mathlib.Core.Path.{◌≡◌}
use Prim.Native.Nat.{◌≤◌}
use lib.ListN.{take}
use Rattle.deltas.specs.Betweens.{betweens_in, sharing}
use Rattle.deltas.proofs.betweens.sharing_weight.Given as goal

abbrev pub invariant-loop-k : goal.invariant-loop-k
invariant-loop-k l =
    (l.k ≤ l.betweens.count) × (l.n ≤ l.k) × (l.n ≡ sharing (take l.k (betweens_in l.lent.words.now l.lent.floats.now l.lent.header l.betweens)) l.w)
