use mathlib.Core.Path.{refl}
use Prim.Native.Nat.{◌+◌, ◌/◌}
use native.Mathlib.Omega.{arith}
use lib.Bits.{and_le_r}
use Rattle.digits.proofs.EightLaws.{turned-letters}
use Rattle.digits.proofs.eights.letters_for.Goals as goal

pub overflow_mul-result : goal.overflow_mul-result
overflow_mul-result c =
    omega (arith, and_le_r ((c.args.d + 0x0606_0606_0606_0606) / 16) 0x0101_0101_0101_0101)

pub overflow_add-result-2 : goal.overflow_add-result-2
overflow_add-result-2 c =
    omega (arith, and_le_r ((c.args.d + 0x0606_0606_0606_0606) / 16) 0x0101_0101_0101_0101)

pub returns : goal.returns
returns c = turned-letters refl
