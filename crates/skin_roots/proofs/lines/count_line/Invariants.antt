use mathlib.Core.Path.{◌≡◌}
use Prim.Native.Nat.{◌<◌}
use lib.ListN.{length}
use Rattle.model.specs.Lists.{foldl}
use Rattle.skin_roots.specs.Lines.{line_in, count_one}
use Rattle.skin_roots.proofs.Upward.{rest_of}
use Rattle.skin_roots.proofs.lines.count_line.Given as goal

abbrev pub invariant-loop-code : goal.invariant-loop-code
invariant-loop-code l =
    (foldl (count_one l.t) l.initial.counts (line_in l.codes l.joint) ≡ foldl (count_one l.t) l.counts (rest_of l.codes l.left l.code)) × (2 < l.code → 0 < l.left) × (length l.counts ≡ length l.initial.counts)

abbrev pub decreases-loop-code : goal.decreases-loop-code
decreases-loop-code l = l.left
