-- Errors over natural numbers. X stands for X / L and is near the fraction a / b: X * b and a * L are at most e * b apart. E bounds the error of one rounding, and Z is the rounded result.
-- Nothing here is about floats. Assumes nothing.
use mathlib.Core.Path.{◌≡◌, ap}
use Prim.Native.Nat.{ℕ, ◌+◌, ◌-◌, ◌*◌, ◌≤◌, ◌<◌}
use native.Mathlib.Nat.{mul_comm, mul-mul-mul_comm, mul-le-mul_left, mul-le-mul_right, le_of_mul-le-mul_right}
use native.Mathlib.Omega.{arith}

-- x and y are at most e apart
pub record Off (x y e : ℕ) : Type 0 where
  pub up : x ≤ y + e
  pub down : y ≤ x + e

-- a factor put on both, and taken off
pub times : (k : ℕ) {x y e : ℕ} → Off x y e → Off (x * k) (y * k) (e * k)
times k {x} {y} {e} h = omega (arith, mul-le-mul_right k h.up, mul-le-mul_right k h.down)

pub cancel : (k x y e : ℕ) → 0 < k → Off (x * k) (y * k) (e * k) → Off x y e
cancel k x y e p h = record { up = le_of_mul-le-mul_right (omega arith) p; down = le_of_mul-le-mul_right (omega arith) p }

-- ---- how large X / L is, where it is near a / b ≤ A
pub bound : (L X a b e A : ℕ) → 0 < b → Off (X * b) (a * L) (e * b) → a ≤ A * b → e ≤ L → X ≤ (A + 1) * L
bound L X a b e A p h ha he = le_of_mul-le-mul_right (omega (arith, mul-le-mul_right L ha, mul-le-mul_right b he)) p

-- ---- the product of X / K, near a / b, and Y / L, near a' / b'
chain : {w x y z e f g e' f' : ℕ} → Off w x g → Off x y e → Off y z f → e ≤ e' → f ≤ f' → Off w z (e' + f' + g)
chain h i j k l = omega arith

regroup : (K L E Z a b a' b' e' A F : ℕ) → Off (Z * K * (b * b')) (a' * L * (a * K)) (F * K * (b * b') + e' * b' * (A * b * K) + E * K * (b * b')) → Off (Z * (b * b') * K) (a * a' * L * K) ((F + A * e' + E) * (b * b') * K)
regroup K L E Z a b a' b' e' A F h = omega arith

pub mul-off : (K L E X Y Z a b e a' b' e' A F : ℕ) → 0 < K → Off (X * b) (a * K) (e * b) → Off (Y * b') (a' * L) (e' * b') → a ≤ A * b → e * Y ≤ F * K → Off (Z * K) (X * Y) (E * K)
    → Off (Z * (b * b')) (a * a' * L) ((F + A * e' + E) * (b * b'))
mul-off K L E X Y Z a b e a' b' e' A F p hx hy ha he hz =
    cancel K (Z * (b * b')) (a * a' * L) ((F + A * e' + E) * (b * b')) p
    (regroup K L E Z a b a' b' e' A F
    (chain (rw (mul-mul-mul_comm X Y b b') at (times (b * b') hz)) (rw (mul_comm (a * K) (Y * b')) at (times (Y * b') hx)) (times (a * K) hy)
    (rw (mul-mul-mul_comm e Y b b') at (mul-le-mul_right (b * b') he)) (mul-le-mul_left (e' * b') (mul-le-mul_right K ha))))

-- ---- the quotient of X / L by a whole number k
pub div-off : (L E X Z k a b e e' : ℕ) → Off (X * b) (a * L) (e * b) → e + E * k ≤ e' * k → Off (Z * k) (X * 1) (E * k) → Off (Z * (b * k)) (a * L) (e' * (b * k))
div-off L E X Z k a b e e' hx he hz = omega (arith, times b hz, mul-le-mul_right b he)

-- ---- the difference n - Y / L for a whole number n, where d / b is n - a / b
pub sub-off : (L E n Y Z a b e d : ℕ) → Off (Y * b) (a * L) (e * b) → d + a ≡ n * b → Y ≤ n * L → Off (Z * 1) (n * L - Y * 1) (E * 1) → Off (Z * b) (d * L) ((e + E) * b)
sub-off L E n Y Z a b e d hy hd h hz =
    let k : Off (Z + Y) (n * L) E = omega arith in
    let q : (d + a) * L ≡ n * b * L = ap (λ (x : ℕ). x * L) hd in
    omega (arith, times b k)

-- ---- the sum 1 + Y / L
pub one-off : (L E Y Z a b e : ℕ) → Off (Y * b) (a * L) (e * b) → Off (Z * 1) (1 * L + Y * 1) (E * 1) → Off (Z * b) ((b + a) * L) ((e + E) * b)
one-off L E Y Z a b e hy hz = omega (arith, times b hz)
