use mathlib.Core.Path.{refl}
use Prim.Native.Nat.{◌+◌, ◌/◌}
use native.Mathlib.Omega.{arith}
use lib.Bits.{and_le_r}
use Rattle.digits.proofs.EightLaws.{pairs_in, spelt}
use Rattle.digits.proofs.eights.number_of.Goals as goal

pub overflow_add-fours : goal.overflow_add-fours
overflow_add-fours c = let d = c.args.d in omega (arith, and_le_r (d + d / 16) 0x00ff_00ff_00ff_00ff)

pub overflow_add-result : goal.overflow_add-result
overflow_add-result c =
    let p = pairs_in c.args.d 0x00ff_00ff_00ff_00ff in
    omega (arith, and_le_r (p + p / 256) 0x0000_ffff_0000_ffff)

pub overflow_cast-result : goal.overflow_cast-result
overflow_cast-result c =
    let p = pairs_in c.args.d 0x00ff_00ff_00ff_00ff in
    omega (arith, and_le_r (p + p / 256) 0x0000_ffff_0000_ffff)

pub returns : goal.returns
returns c = spelt refl
