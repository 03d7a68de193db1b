use mathlib.Core.Path.{◌≡◌}
use Prim.Native.Nat.{◌≤◌}
use Rattle.refusals.specs.Drawn.{number_drawn}
use Rattle.checks.specs.Drawn.{ByCount, lowest_below, row_number}
use Rattle.checks.proofs.records.check_rows.Given as goal

abbrev pub invariant-loop-i : goal.invariant-loop-i
invariant-loop-i g l =
    (l.count ≡ l.t.count) × (l.i ≤ l.count) × ByCount l.s (number_drawn l.lowest) (λ floats. lowest_below l.i (row_number (g.W.Words.said l.words) floats l.s l.t l.k))
