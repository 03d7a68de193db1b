use mathlib.Core.Path.{◌≡◌}
use mathlib.Core.Bool.{Bool, false}
use Prim.Native.Nat.{◌≤◌}
use lib.ListN.{take}
use Rattle.model.specs.Lists.{any_of}
use Rattle.model.specs.Scene.{InBetween}
use Rattle.model.specs.Morph.{valid}
use Rattle.deltas.specs.Betweens.{betweens_in}
use Rattle.deltas.proofs.betweens.has_valid.Given as goal

abbrev pub is_valid : InBetween → Bool
is_valid b = valid b.weight

abbrev pub invariant-loop-k : goal.invariant-loop-k
invariant-loop-k l = (l.k ≤ l.betweens.count) × (any_of is_valid (take l.k (betweens_in l.lent.words.now l.lent.floats.now l.lent.header l.betweens)) ≡ false)
