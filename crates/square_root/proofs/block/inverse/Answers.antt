use Rattle.std.proofs.Common.{ℕ, ◌-◌, ◌*◌, ◌/◌, ◌^◌, ◌≤◌, arith}
use lib.Ieee.{binary32, to_bits}
use Rattle.float.proofs.Signs.{number_ok}
use Rattle.square_root.proofs.Normals.{normal-number, normal-bits}
use Rattle.square_root.proofs.block.inverse.Goals as goal

pub float_to_bits-b : goal.float_to_bits-b
float_to_bits-b c = normal-number c.args.y c.requires

pub overflow_sub-result : goal.overflow_sub-result
overflow_sub-result c = omega (arith, (normal-bits c.args.y c.requires).1)

pub float_from_bits-result : goal.float_from_bits-result
float_from_bits-result c = number_ok _ (less (to_bits binary32 c.args.y / 2))
  where
    less : (x : ℕ) → 1599995904 - x ≤ 255 * 2 ^ 23
    less x = omega arith
