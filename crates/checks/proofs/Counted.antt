-- A number that is told of floats by their count, with the sizes by another name. Assumes nothing.
use mathlib.Core.Path.{◌≡◌, sym, ap, ◌∙◌}
use mathlib.Core.List.{List}
use Prim.Native.Nat.{ℕ}
use lib.Ieee.{Float}
use Rattle.row_checks.specs.declared.Sizes.{Sizes}
use Rattle.checks.specs.Drawn.{ByCount}

pub by_count : (f : Sizes → List Float → ℕ) (told sizes : Sizes) (r : ℕ)
    → ByCount told r (f told) → told ≡ sizes → ByCount sizes r (f sizes)
by_count f told sizes r h e floats q =
    h floats (q ∙ sym (ap (λ (s : Sizes). s.floats) e)) ∙ ap (λ (s : Sizes). f s floats) e
