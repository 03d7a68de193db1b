use Rattle.std.proofs.Common.{◌≡◌, ℕ, ◌+◌, ◌-◌, ◌*◌, ◌^◌, ◌<◌, ◌≤◌, subst, lt_of_le_of_lt, le_of_lt, add-mul, mul-add, arith, lit<}
use Rattle.float.specs.Sqrt.{isqrt}
use Rattle.square_root.proofs.Squares.{is-isqrt, square-mono}
use Rattle.square_root.proofs.root.root48.Goals as goal

square-next : (h : ℕ) → (h + 1) * (h + 1) ≡ h * h + (2 * h + 1)
square-next h = simp (mul-add, add-mul) (omega arith)

at-guess : (n g : ℕ) → g * g ≤ n → n - g * g ≤ 2 * g → g ≡ isqrt n
at-guess n g a b = is-isqrt n g a (under (g * g) ((g + 1) * (g + 1)) a b (square-next g))
  where
    under : (s t : ℕ) → s ≤ n → n - s ≤ 2 * g → t ≡ s + (2 * g + 1) → n < t
    under s t a b e = omega arith

before : (n h : ℕ) → n < (h + 1) * (h + 1) → (h + 1) * (h + 1) - n < 2 * (h + 1) → h ≡ isqrt n
before n h a b = is-isqrt n h (over (h * h) ((h + 1) * (h + 1)) b (square-next h)) a
  where
    over : (s t : ℕ) → t - n < 2 * (h + 1) → t ≡ s + (2 * h + 1) → s ≤ n
    over s t b e = omega arith

below-guess : (n g : ℕ) → n < g * g → g * g - n < 2 * g → g - 1 ≡ isqrt n
below-guess n g a b = before n (g - 1) (subst (λ (x : ℕ). n < x * x) e a) (subst (λ (x : ℕ). x * x - n < 2 * x) e b)
  where
    some : (s : ℕ) → s - n < 2 * g → g ≡ g - 1 + 1
    some s b = omega arith

    e : g ≡ g - 1 + 1
    e = some (g * g) b

pub overflow_mul-s : goal.overflow_mul-s
overflow_mul-s c = record { fits = lt_of_le_of_lt (square-mono c.guess-g.result (2 ^ 25) (le_of_lt c.guess-g.ensures)) (lit< tt) }

pub returns-then-n-s : goal.returns-then-n-s
returns-then-n-s c = at-guess c.args.n c.guess-g.result c.if-s-n.true c.if-n-s.true

pub returns-then-s-n-2 : goal.returns-then-s-n-2
returns-then-s-n-2 c = below-guess c.args.n c.guess-g.result c.if-s-n.false c.if-s-n-2.true
