use mathlib.Core.Path.{◌≡◌}
use Prim.Native.Nat.{◌≤◌}
use lib.ListN.{take}
use Rattle.model.specs.Lists.{foldl}
use Rattle.deltas.specs.Betweens.{betweens_in}
use Rattle.mesh.specs.Stations.{stations_in, widened_by}
use Rattle.mesh.proofs.blending.widened_by_all.Given as goal

abbrev pub invariant-loop-k : goal.invariant-loop-k
invariant-loop-k l =
    (l.k ≤ l.betweens.count) × (l.b ≡ foldl (widened_by l.lent.floats.now l.w (betweens_in l.lent.words.now l.lent.floats.now l.lent.header l.betweens)) l.initial.b (take l.k (stations_in l.lent.words.now l.lent.floats.now l.lent.header l.betweens)))
