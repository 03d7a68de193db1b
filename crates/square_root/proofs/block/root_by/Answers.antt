use Rattle.std.proofs.Common.{◌+◌, ◌*◌, ◌/◌, ◌^◌, ◌<◌, ◌≤◌, T, sym, ap, ◌∙◌, subst, arith}
use lib.Ieee.{binary32, to_bits}
use lib.Ieee.Bits.{of_bits-to_bits}
use Rattle.float.specs.Sqrt.{sqrt_of}
use Rattle.float.specs.Patterns.{Rooted}
use Rattle.float.proofs.Signs.{number_ok}
use Rattle.square_root.proofs.Quick.{quick}
use Rattle.square_root.proofs.Normals.{normal-number, normal-bits}
use Rattle.square_root.proofs.block.root_by.Goals as goal

bits : (c : goal.Start) → (2 ^ 23 ≤ to_bits binary32 c.args.x) × (to_bits binary32 c.args.x < 255 * 2 ^ 23)
bits c = normal-bits c.args.x c.requires.0

rooted : (c : goal.Start) → Rooted (to_bits binary32 c.args.x) ((to_bits binary32 c.args.x + 1048576000) / 2 ^ 24 * 2 ^ 23 + c.args.q)
rooted c = quick (to_bits binary32 c.args.x) c.args.q (bits c).0 (bits c).1 c.requires.1.0 c.requires.1.1

pub float_to_bits-a : goal.float_to_bits-a
float_to_bits-a c = normal-number c.args.x c.requires.0

pub overflow_add-result : goal.overflow_add-result
overflow_add-result c = omega (arith, (bits c).1)

pub overflow_mul-result : goal.overflow_mul-result
overflow_mul-result c = omega (arith, (bits c).1)

pub overflow_add-result-2 : goal.overflow_add-result-2
overflow_add-result-2 c = omega (arith, (rooted c).0)

pub float_from_bits-result : goal.float_from_bits-result
float_from_bits-result c = number_ok _ (rooted c).0

pub returns : goal.returns
returns c = (rooted c).1 ∙ ap (sqrt_of binary32) (of_bits-to_bits binary32 c.args.x (subst T (sym c.well_formed.0.1) tt))
