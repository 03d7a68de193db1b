use Rattle.std.proofs.Common.{◌≡◌, ℕ, ◌+◌, ◌-◌, ◌*◌, ◌/◌, ◌%◌, ◌^◌, ◌≤◌, ap, ◌∙◌, mul-le-mul, arith}
use lib.Bits.{bit_and, and_le_r, and_mask}
use Rattle.float.specs.Patterns.{number_of}
use Rattle.square_root.proofs.root.number.Goals as goal

-- as the code has it
code : ℕ → ℕ
code a = (bit_and a 8388607 + 2 ^ 23) * (2 ^ 24 - bit_and (a / 2 ^ 23) 1 * 2 ^ 23)

code_is : (a : ℕ) → code a ≡ number_of a
unfolding code
code_is a = ap (λ (x : ℕ). (x + 2 ^ 23) * (2 ^ 24 - bit_and (a / 2 ^ 23) 1 * 2 ^ 23)) (and_mask a 23) ∙ ap (λ (x : ℕ). (a % 2 ^ 23 + 2 ^ 23) * (2 ^ 24 - x * 2 ^ 23)) (and_mask (a / 2 ^ 23) 1)

code-le : (a : ℕ) → code a ≤ 2 ^ 24 * 2 ^ 24
unfolding code
code-le a = mul-le-mul (few (bit_and a 8388607) (and_le_r a 8388607)) (less (bit_and (a / 2 ^ 23) 1))
  where
    few : (x : ℕ) → x ≤ 8388607 → x + 2 ^ 23 ≤ 2 ^ 24
    few x h = omega arith

    less : (x : ℕ) → 2 ^ 24 - x * 2 ^ 23 ≤ 2 ^ 24
    less x = omega arith

pub overflow_add-m : goal.overflow_add-m
overflow_add-m c = omega (arith, and_le_r c.args.a 8388607)

pub overflow_mul-f : goal.overflow_mul-f
overflow_mul-f c = omega (arith, and_le_r (c.args.a / 2 ^ 23) 1)

pub overflow_sub-f : goal.overflow_sub-f
overflow_sub-f c = omega (arith, and_le_r (c.args.a / 2 ^ 23) 1)

pub overflow_cast-result : goal.overflow_cast-result
overflow_cast-result c = omega (arith, and_le_r c.args.a 8388607)

pub overflow_mul-result : goal.overflow_mul-result
unfolding code
overflow_mul-result c = omega (arith, code-le c.args.a)

pub returns : goal.returns
unfolding code
returns c = (code_is c.args.a, code-le c.args.a)
