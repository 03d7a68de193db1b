use mathlib.Core.Path.{◌≡◌}
use Prim.Native.Nat.{◌<◌}
use lib.Dec.{eqb}
use lib.ListN.{get_or}
use Rattle.model.specs.Lists.{first_that}
use Rattle.skin_roots.specs.Lines.{line_in}
use Rattle.skin_roots.proofs.Upward.{rest_of}
use Rattle.skin_roots.proofs.lines.first_counted.Given as goal

abbrev pub invariant-loop-code : goal.invariant-loop-code
invariant-loop-code l =
    (first_that (λ a. eqb (get_or l.counts a 0) l.m) (line_in l.codes l.joint) ≡ first_that (λ a. eqb (get_or l.counts a 0) l.m) (rest_of l.codes l.left l.code)) × (2 < l.code → 0 < l.left)

abbrev pub decreases-loop-code : goal.decreases-loop-code
decreases-loop-code l = l.left
