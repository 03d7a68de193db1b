use Rattle.std.proofs.Common.{◌*◌, ◌/◌, ◌^◌, ◌≤◌, le_of_lt, mul-le-mul, arith}
use lib.Bits.{bit_and, and_le_r}
use Rattle.square_root.proofs.root.near.Goals as goal

pub overflow_add-i : goal.overflow_add-i
overflow_add-i c = omega (arith, and_le_r (c.args.a / 2 ^ 16) 255)

rise : (c : goal.After-piece-p) → bit_and c.args.a 65535 * c.piece-p.result.1 ≤ 65535 * 2 ^ 39
rise c = mul-le-mul (and_le_r c.args.a 65535) (le_of_lt c.piece-p.ensures.1.0)

square : (c : goal.After-piece-p) → bit_and c.args.a 65535 * bit_and c.args.a 65535 ≤ 65535 * 65535
square c = mul-le-mul (and_le_r c.args.a 65535) (and_le_r c.args.a 65535)

fall : (c : goal.After-piece-p) → bit_and c.args.a 65535 * bit_and c.args.a 65535 * c.piece-p.result.2 ≤ 65535 * 65535 * 2 ^ 13
fall c = mul-le-mul (square c) (le_of_lt c.piece-p.ensures.1.1)

pub overflow_mul-result : goal.overflow_mul-result
overflow_mul-result c = omega (arith, rise c)

pub overflow_add-result : goal.overflow_add-result
overflow_add-result c = omega (arith, rise c, c.piece-p.ensures.0.1)

pub overflow_mul-result-2 : goal.overflow_mul-result-2
overflow_mul-result-2 c = omega (arith, square c)

pub overflow_mul-result-3 : goal.overflow_mul-result-3
overflow_mul-result-3 c = omega (arith, fall c)

pub overflow_sub-result : goal.overflow_sub-result
overflow_sub-result c = omega (arith, fall c, c.piece-p.ensures.0.0)

pub returns : goal.returns
returns c = omega (arith, rise c, c.piece-p.ensures.0.1)
