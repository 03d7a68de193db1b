use Rattle.std.proofs.Common.{ℕ, ◌+◌, ◌*◌, ◌^◌, ◌<◌, ◌≤◌, subst, le_of_lt, mul-le-mul, arith, rules}
use Rattle.square_root.proofs.Lanes.{within}
use Rattle.square_root.proofs.Normals.{normal-number}
use Rattle.square_root.proofs.block.near_root.Goals as goal

square : (c : goal.After-number-n) → c.args.q * c.args.q ≤ 2 ^ 24 * 2 ^ 24
square c = mul-le-mul (le_of_lt c.requires.1) (le_of_lt c.requires.1)

pub float_to_bits-a : goal.float_to_bits-a
float_to_bits-a c = normal-number c.args.x c.requires.0

pub overflow_mul-p : goal.overflow_mul-p
overflow_mul-p c = omega (arith, square c)

pub returns : goal.returns
returns c t =
    let k = c.before.before.before in
    let q = c.args.q in
    subst (λ (n : ℕ). (q * q < n + q) × (n ≤ q * q + q)) k.number-n.ensures.0
    (within (q * q) k.number-n.result q c.wrapping_sub_u64-e.result c.wrapping_sub_u64.result c.wrapping_add_u64.result (square k) k.number-n.ensures.1 c.requires.1 (search rules) (search rules) c.wrapping_sub_u64-e.ensures.value c.wrapping_sub_u64.ensures.value c.wrapping_add_u64.ensures.value t)
