-- The invariant: q is at most the root, q + d is above it, and d is a power of two. The measure is d.
use Rattle.std.proofs.Common.{◌≡◌, ℕ, zero, suc, ◌+◌, ◌*◌, ◌/◌, ◌^◌, ◌<◌, ◌≤◌, sym, refl, ap, ◌∙◌, subst, zero-le, lt_of_le_of_lt, add_assoc, arith, lit<, lit≤, pow_pos}
use native.Mathlib.Nat.{pow-succ'}
use Rattle.float.specs.Sqrt.{isqrt}
use Rattle.square_root.proofs.Squares.{is-isqrt, square-mono}
use Rattle.square_root.proofs.root.slow_root.Invariants.{Inv}
use Rattle.square_root.proofs.root.slow_root.Goals as goal

-- a power of two above 1 is twice a power of two
half : (d i : ℕ) → d ≡ 2 ^ i → 1 < d → ((j : ℕ) × (d / 2 ≡ 2 ^ j)) × (d ≡ d / 2 + d / 2)
half d zero e h = absurd (no h e)
  where
    no : 1 < d → d ≡ 1 → ⊥
    no h e = omega arith
half d (suc i) e h = ((i, by (2 ^ i) (e ∙ pow-succ' 2 i)), again (2 ^ i) (e ∙ pow-succ' 2 i))
  where
    by : (p : ℕ) → d ≡ 2 * p → d / 2 ≡ p
    by p e = omega arith

    again : (p : ℕ) → d ≡ 2 * p → d ≡ d / 2 + d / 2
    again p e = omega arith

up : (n q d : ℕ) → Inv n q d → 1 < d → (q + d / 2) * (q + d / 2) ≤ n → Inv n (q + d / 2) (d / 2)
up n q d v h l =
    let k = half d v.0.0 v.0.1 h in
    let e : q + d ≡ q + d / 2 + d / 2 = ap (λ (x : ℕ). q + x) k.1 ∙ sym (add_assoc q (d / 2) (d / 2)) in
    (k.0, l, subst (λ (x : ℕ). n < x * x) e v.2, subst (λ (x : ℕ). x ≤ 2 ^ 24) e v.3)

down : (n q d : ℕ) → Inv n q d → 1 < d → n < (q + d / 2) * (q + d / 2) → Inv n q (d / 2)
down n q d v h l = let k = half d v.0.0 v.0.1 h in (k.0, v.1, l, small v.3)
  where
    small : q + d ≤ 2 ^ 24 → q + d / 2 ≤ 2 ^ 24
    small h = omega arith

done : (n q d : ℕ) → Inv n q d → d ≤ 1 → q ≡ isqrt n
done n q d v h = is-isqrt n q v.1 (subst (λ (x : ℕ). n < (q + x) * (q + x)) (one (2 ^ v.0.0) v.0.1 (pow_pos v.0.0)) v.2)
  where
    one : (p : ℕ) → d ≡ p → 0 < p → d ≡ 1
    one p e g = omega arith

square-fits : (t : ℕ) → t ≤ 2 ^ 24 → t * t < 2 ^ 64
square-fits t h = lt_of_le_of_lt (square-mono t (2 ^ 24) h) (lit< tt)

pub loop-d-init : goal.loop-d-init
loop-d-init c = ((24, refl), zero-le, c.requires, lit≤ tt)

pub overflow_add-t : goal.overflow_add-t
overflow_add-t c = omega (arith, c.loop-d.invariant.3)

pub overflow_mul-t : goal.overflow_mul-t
overflow_mul-t c = record { fits = square-fits (c.loop-d.q + c.loop-d.d / 2) (omega (arith, c.loop-d.invariant.3)) }

pub loop-d-smaller-then-t-n : goal.loop-d-smaller-then-t-n
loop-d-smaller-then-t-n c = omega arith

pub loop-d-preserved-then-t-n : goal.loop-d-preserved-then-t-n
loop-d-preserved-then-t-n c = up c.args.n c.loop-d.q c.loop-d.d c.loop-d.invariant c.loop-d-test.true c.if-t-n.true

pub loop-d-smaller : goal.loop-d-smaller
loop-d-smaller c = omega arith

pub loop-d-preserved : goal.loop-d-preserved
loop-d-preserved c = down c.args.n c.loop-d.q c.loop-d.d c.loop-d.invariant c.loop-d-test.true c.if-t-n.false

pub returns : goal.returns
returns c = done c.args.n c.loop-d.q c.loop-d.d c.loop-d.invariant c.loop-d-test.false
