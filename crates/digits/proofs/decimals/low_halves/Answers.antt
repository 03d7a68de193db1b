use mathlib.Core.Path.{refl}
use lib.Bits.{and_le_r}
use Rattle.digits.proofs.DecimalLaws.{turned-lows}
use Rattle.digits.proofs.decimals.low_halves.Goals as goal

pub returns : goal.returns
returns c = (turned-lows refl, and_le_r c.args.w 0x0f0f_0f0f_0f0f_0f0f)
