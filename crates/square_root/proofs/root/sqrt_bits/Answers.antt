use Rattle.std.proofs.Common.{◌≡◌, ℕ, suc, ◌+◌, ◌-◌, ◌*◌, ◌/◌, ◌%◌, ◌^◌, ◌<◌, ◌≤◌, sym, ap, ◌∙◌, subst, le_trans, le_of_eq, lt_of_lt_of_le, lt_of_le_of_lt, mul-le-mul_right, mod-eq_of_lt, mul-lt-mul_of_pos_right, lt_of_not-le, not-le_of_lt, arith, lit≤, pow_pos, pow_mono, pow-add}
use lib.Bits.{bit_and, and_mask, and_le_r}
use lib.Count.{count_leading_zeros, leading_top}
use Rattle.float.specs.Patterns.{root_pattern, Rooted}
use Rattle.square_root.proofs.Rooting.{at-normal, at-subnormal}
use Rattle.square_root.proofs.root.sqrt_bits.Goals as goal

-- t, above 0 and of fewer than 24 digits, moved up to 24 digits
abbrev Moved : ℕ → ℕ → Type 0
Moved t l = (8 ≤ l) × (l ≤ 32) × (2 ^ 23 ≤ t * 2 ^ (l - 8)) × (t * 2 ^ (l - 8) < 2 ^ 24)

moved : (t : ℕ) → 0 < t → t < 2 ^ 23 → Moved t (count_leading_zeros 32 t)
moved t p h =
    let k = leading_top 32 t p (lt_of_lt_of_le h (lit≤ tt)) in
    let l = count_leading_zeros 32 t in
    let j = k.0 in
    let j-lt : j < 23 = lt_of_not-le (λ (g : 23 ≤ j). not-le_of_lt (lt_of_le_of_lt k.2 h) (pow_mono g)) in (
      a l j k.1 j-lt,
      b l j k.1,
      le_trans (le_of_eq (ap (λ (x : ℕ). 2 ^ x) (d l j k.1 j-lt) ∙ pow-add 2 j (l - 8))) (mul-le-mul_right (2 ^ (l - 8)) k.2),
      lt_of_lt_of_le (mul-lt-mul_of_pos_right k.3 (pow_pos (l - 8))) (le_of_eq (sym (ap (λ (x : ℕ). 2 ^ x) (d24 l j k.1 j-lt) ∙ pow-add 2 (suc j) (l - 8)))),
    )
  where
    a : (l j : ℕ) → l + suc j ≡ 32 → j < 23 → 8 ≤ l
    a l j e h = omega arith

    b : (l j : ℕ) → l + suc j ≡ 32 → l ≤ 32
    b l j e = omega arith

    d : (l j : ℕ) → l + suc j ≡ 32 → j < 23 → 23 ≡ j + (l - 8)
    d l j e h = omega arith

    d24 : (l j : ℕ) → l + suc j ≡ 32 → j < 23 → 24 ≡ suc j + (l - 8)
    d24 l j e h = omega arith

digits : ℕ → ℕ
digits a = bit_and a 8388607

digits_are : (a : ℕ) → digits a ≡ a % 2 ^ 23
unfolding digits
digits_are a = and_mask a 23

at : (a : ℕ) → 0 < a → a / 2 ^ 23 ≡ 0 → Moved (a % 2 ^ 23) (count_leading_zeros 32 (a % 2 ^ 23))
at a p e = moved (a % 2 ^ 23) (some a p e) (few a)
  where
    some : (a : ℕ) → 0 < a → a / 2 ^ 23 ≡ 0 → 0 < a % 2 ^ 23
    some a p e = omega arith

    few : (a : ℕ) → a % 2 ^ 23 < 2 ^ 23
    few a = omega arith

-- the same of the digits as the code has them, with the shift
at_code : (a : ℕ) → 0 < a → a / 2 ^ 23 ≡ 0 → Moved (digits a) (count_leading_zeros 32 (digits a))
at_code a p e = subst (λ (t : ℕ). Moved t (count_leading_zeros 32 t)) (sym (digits_are a)) (at a p e)

shift_is : (t l : ℕ) → Moved t l → t * 2 ^ (l - 8) % 2 ^ 64 ≡ t * 2 ^ (l - 8)
shift_is t l v = mod-eq_of_lt (lt_of_lt_of_le v.3 (lit≤ tt))

fact : (c : goal.Then-x-eq0) → Moved (digits c.args.a) (count_leading_zeros 32 (digits c.args.a))
fact c = at_code c.args.a c.requires.0 c.if-x-eq0.true

pub overflow_cast-z : goal.overflow_cast-z
overflow_cast-z c = omega (arith, and_le_r c.args.a 8388607)

pub overflow_cast-z-then-x-eq0 : goal.overflow_cast-z-then-x-eq0
unfolding digits
overflow_cast-z-then-x-eq0 c = omega (arith, (fact c).1)

pub overflow_sub-z : goal.overflow_sub-z
unfolding digits
overflow_sub-z c = (fact c).0

pub overflow_shl-t : goal.overflow_shl-t
unfolding digits
overflow_shl-t c = omega (arith, (fact c).1)

pub overflow_sub-z-then-x-eq0 : goal.overflow_sub-z-then-x-eq0
unfolding digits
overflow_sub-z-then-x-eq0 c = omega (arith, (fact c).1)

pub finish-requires : goal.finish-requires
unfolding digits
finish-requires c =
    let l = count_leading_zeros 32 (digits c.args.a) in
    let t = digits c.args.a in
    (subst (λ (x : ℕ). 2 ^ 23 ≤ x) (sym (shift_is t l (fact c))) (fact c).2, subst (λ (x : ℕ). x < 2 ^ 24) (sym (shift_is t l (fact c))) (fact c).3, few l)
  where
    few : (l : ℕ) → 126 - (l - 8) < 400
    few l = omega arith

pub returns-then-x-eq0 : goal.returns-then-x-eq0
unfolding digits
returns-then-x-eq0 c =
    let a = c.args.a in
    let p = c.requires.0 in
    let e = c.if-x-eq0.true in
    let l = count_leading_zeros 32 (a % 2 ^ 23) in
    let v = at a p e in
    subst (λ (r : ℕ). Rooted a r)
    (sym (c.finish.ensures ∙ ap (λ (x : ℕ). root_pattern x (126 - (count_leading_zeros 32 (digits a) - 8))) (shift_is (digits a) (count_leading_zeros 32 (digits a)) (fact c.before)) ∙ ap (λ (t : ℕ). root_pattern (t * 2 ^ (count_leading_zeros 32 t - 8)) (126 - (count_leading_zeros 32 t - 8))) (digits_are a)))
    (at-subnormal a (l - 8) p e (upto l v.1) v.2 v.3)
  where
    upto : (l : ℕ) → l ≤ 32 → l - 8 ≤ 126
    upto l h = omega arith

pub overflow_add-t : goal.overflow_add-t
overflow_add-t c = omega (arith, and_le_r c.args.a 8388607)

pub finish-requires-2 : goal.finish-requires-2
finish-requires-2 c = omega (arith, and_le_r c.args.a 8388607, c.requires.1)

pub returns : goal.returns
returns c =
    let a = c.args.a in
    subst (λ (r : ℕ). Rooted a r)
    (sym (c.finish-2.ensures ∙ ap (λ (x : ℕ). root_pattern (x + 2 ^ 23) (a / 2 ^ 23 + 125)) (and_mask a 23)))
    (at-normal a c.if-x-eq0.false c.requires.1)
