use Prim.Native.Nat.{◌-◌}
use native.Mathlib.Omega.{arith}
use lib.Bits.{bit_and}
use lib.Count.{trailing_le}
use Rattle.digits.proofs.decimals.digits_before.Goals as goal

pub returns : goal.returns
returns c =
    omega (arith, trailing_le 64 (bit_and (0xffff_ffff_ffff_ffff - c.args.w) 0x1010_1010_1010_1000))
