use mathlib.Core.Path.{◌≡◌}
use Prim.Native.Nat.{◌≤◌, min}
use Rattle.checks.specs.Drawn.{entry_cap, sum_below, child_count}
use Rattle.checks.proofs.numbers.listed_entries.Given as goal

abbrev pub invariant-loop-i : goal.invariant-loop-i
invariant-loop-i g l = (l.count ≡ l.nodes.count) × (l.i ≤ l.count) × (l.sum ≡ min (sum_below l.i (child_count (g.W.Words.said l.words) l.nodes)) entry_cap)
