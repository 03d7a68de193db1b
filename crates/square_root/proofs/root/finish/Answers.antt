use Rattle.std.proofs.Common.{◌≡◌, ℕ, suc, ◌+◌, ◌*◌, ◌/◌, ◌%◌, ◌^◌, ◌<◌, ◌≤◌, sym, refl, ap, ◌∙◌, subst, lt_of_lt_of_le, lt_of_le_of_lt, le_of_lt, mod-eq_of_lt, mul-le-mul_left, mul-lt-mul_of_pos_right, mul-one, arith, lit<, lit≤, pow_pos, pow_mono}
use lib.Bits.{bit_and, and_mask, and_le_r}
use Rattle.float.specs.Sqrt.{isqrt}
use Rattle.float.specs.Patterns.{root_pattern}
use Rattle.square_root.proofs.Squares.{square-mono, stays, moves}
use Rattle.square_root.proofs.Rooting.{root-hi, rounded}
use Rattle.square_root.proofs.root.finish.Goals as goal

number_lt : (m f : ℕ) → m < 2 ^ 24 → m * 2 ^ (23 + f % 2) < 2 ^ 48
number_lt m f h = lt_of_lt_of_le (mul-lt-mul_of_pos_right h (pow_pos (23 + f % 2))) (mul-le-mul_left (2 ^ 24) (pow_mono (upto f)))
  where
    upto : (f : ℕ) → 23 + f % 2 ≤ 24
    upto f = omega arith

-- the shift loses nothing
number : (m f : ℕ) → m < 2 ^ 24 → m * 2 ^ (23 + bit_and f 1) % 2 ^ 64 ≡ m * 2 ^ (23 + f % 2)
number m f h = ap (λ (x : ℕ). m * 2 ^ (23 + x) % 2 ^ 64) (and_mask f 1) ∙ mod-eq_of_lt (lt_of_lt_of_le (number_lt m f h) (lit≤ tt))

root-lt : (n : ℕ) → n < 2 ^ 48 → isqrt n < 2 ^ 24
root-lt n h = subst (λ (x : ℕ). isqrt x < 2 ^ 24) (mul-one n) (root-hi n 24 0 h)

pattern-is : (m f : ℕ) → root_pattern m f ≡ f / 2 * 2 ^ 23 + rounded (m * 2 ^ (23 + f % 2))
unfolding root_pattern
pattern-is m f = refl

pub overflow_add-n : goal.overflow_add-n
overflow_add-n c = omega (arith, and_le_r c.args.f 1)

pub overflow_shl-n : goal.overflow_shl-n
overflow_shl-n c = omega (arith, and_le_r c.args.f 1)

pub root48-q-requires : goal.root48-q-requires
root48-q-requires c = subst (λ (x : ℕ). x < 2 ^ 48) (sym (number c.args.m c.args.f c.requires.1)) (number_lt c.args.m c.args.f c.requires.1)

-- what the call of `root48` gives
root_is : (c : goal.After-root48-q) → c.root48-q.result ≡ isqrt (c.args.m * 2 ^ (23 + c.args.f % 2))
root_is c = c.root48-q.ensures ∙ ap isqrt (number c.args.m c.args.f c.requires.1)

result-lt : (c : goal.After-root48-q) → c.root48-q.result < 2 ^ 24
result-lt c = subst (λ (x : ℕ). x < 2 ^ 24) (sym (root_is c)) (root-lt (c.args.m * 2 ^ (23 + c.args.f % 2)) (number_lt c.args.m c.args.f c.requires.1))

square-lt : (c : goal.After-root48-q) → c.root48-q.result * c.root48-q.result ≤ 2 ^ 48
square-lt c = square-mono c.root48-q.result (2 ^ 24) (le_of_lt (result-lt c))

pub overflow_add-p : goal.overflow_add-p
overflow_add-p c = omega (arith, result-lt c, c.requires.2)

pub overflow_mul-q : goal.overflow_mul-q
overflow_mul-q c = record { fits = lt_of_le_of_lt (square-lt c) (lit< tt) }

pub overflow_add-q : goal.overflow_add-q
overflow_add-q c = omega (arith, result-lt c, square-lt c)

pub overflow_add-result : goal.overflow_add-result
overflow_add-result c = omega (arith, result-lt c.before, c.requires.2)

pub returns-then-q-n : goal.returns-then-q-n
returns-then-q-n c =
    let m = c.args.m in
    let f = c.args.f in
    let q = c.root48-q.result in
    let n = m * 2 ^ (23 + f % 2) in
    let t : q * q + q < n = subst (λ (x : ℕ). q * q + q < x) (number m f c.requires.1) c.if-q-n.true in
    one (f / 2 * 2 ^ 23) q ∙ sym (pattern-is m f ∙ ap (λ (x : ℕ). f / 2 * 2 ^ 23 + x) (moves n (isqrt n) (subst (λ (x : ℕ). x * x + x < n) (root_is c.before) t) ∙ ap suc (sym (root_is c.before))))
  where
    one : (a b : ℕ) → a + b + 1 ≡ a + suc b
    one a b = omega arith

pub returns : goal.returns
returns c =
    let m = c.args.m in
    let f = c.args.f in
    let q = c.root48-q.result in
    let n = m * 2 ^ (23 + f % 2) in
    let t : n ≤ q * q + q = subst (λ (x : ℕ). x ≤ q * q + q) (number m f c.requires.1) c.if-q-n.false in
    sym (pattern-is m f ∙ ap (λ (x : ℕ). f / 2 * 2 ^ 23 + x) (stays n (isqrt n) (subst (λ (x : ℕ). n ≤ x * x + x) (root_is c.before) t) ∙ sym (root_is c.before)))
