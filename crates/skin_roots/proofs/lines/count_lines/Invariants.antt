use mathlib.Core.Path.{◌≡◌}
use Prim.Native.Nat.{◌≤◌}
use lib.ListN.{length}
use Rattle.skin_roots.specs.Lines.{Leading}
use Rattle.skin_roots.proofs.lines.count_lines.Given as goal

abbrev pub invariant-loop-t : goal.invariant-loop-t
invariant-loop-t l = (l.t ≤ length l.joints) × Leading l.codes l.joints l.t l.counts × (length l.counts ≡ length l.initial.counts)
