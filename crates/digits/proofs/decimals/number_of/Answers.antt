use mathlib.Core.Path.{refl}
use Prim.Native.Nat.{ℕ, ◌+◌, ◌*◌, ◌/◌, ◌≤◌}
use native.Mathlib.Omega.{arith}
use lib.Bits.{and_le_r}
use Rattle.digits.proofs.TensLaws.{tens_in, hundreds_in, tens}
use Rattle.digits.proofs.decimals.number_of.Goals as goal

pairs-upto : (d : ℕ) → tens_in d 0x00ff_00ff_00ff_00ff ≤ 0x00ff_00ff_00ff_00ff
pairs-upto d = and_le_r (d * 10 + d / 256) 0x00ff_00ff_00ff_00ff

fours-upto : (p : ℕ) → hundreds_in p 0x0000_ffff_0000_ffff ≤ 0x0000_ffff_0000_ffff
fours-upto p = and_le_r (p * 100 + p / 0x1_0000) 0x0000_ffff_0000_ffff

pub overflow_mul-fours : goal.overflow_mul-fours
overflow_mul-fours c = omega (arith, pairs-upto c.args.d)

pub overflow_add-fours : goal.overflow_add-fours
overflow_add-fours c = omega (arith, pairs-upto c.args.d)

pub overflow_add-result : goal.overflow_add-result
overflow_add-result c = omega (arith, fours-upto (tens_in c.args.d 0x00ff_00ff_00ff_00ff))

pub overflow_cast-result : goal.overflow_cast-result
overflow_cast-result c = omega (arith, fours-upto (tens_in c.args.d 0x00ff_00ff_00ff_00ff))

pub returns : goal.returns
returns c = tens refl
