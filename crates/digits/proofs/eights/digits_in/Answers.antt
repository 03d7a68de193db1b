use mathlib.Core.Path.{refl}
use Prim.Native.Nat.{◌/◌}
use native.Mathlib.Omega.{arith}
use lib.Bits.{and_le_r}
use Rattle.digits.proofs.EightLaws.{turned-digits, digits-upto}
use Rattle.digits.proofs.eights.digits_in.Goals as goal

pub overflow_mul-result : goal.overflow_mul-result
overflow_mul-result c = omega (arith, and_le_r (c.args.w / 64) 0x0303_0303_0303_0303)

pub overflow_add-result : goal.overflow_add-result
overflow_add-result c =
    let w = c.args.w in
    omega (arith, and_le_r (w / 64) 0x0303_0303_0303_0303, and_le_r w 0x0f0f_0f0f_0f0f_0f0f)

pub returns : goal.returns
returns c = (turned-digits refl, digits-upto c.args.w 0x0f0f_0f0f_0f0f_0f0f 0x0303_0303_0303_0303)
