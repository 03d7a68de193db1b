use mathlib.Core.Path.{◌≡◌}
use Prim.Native.Nat.{◌+◌, ◌≤◌, min}
use lib.ListN.{drop}
use Rattle.spelling.specs.Pushed.{farthest}
use Rattle.scene_text.specs.Scanned.{words_of_counts, words_for}
use Rattle.scene_text.proofs.tables_read.words_for.Given as goal

abbrev pub invariant-loop-k : goal.invariant-loop-k
invariant-loop-k l =
    (min (l.sum + words_of_counts l.k (drop l.k l.counts)) farthest ≡ words_for l.ids l.counts)
    × ((l.sum ≤ farthest) × (l.k ≤ 9))
