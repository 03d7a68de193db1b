use Rattle.std.proofs.Common.{lit<}
use lib.Bits.{mask_lt}
use lib.Ieee.{binary64, to_bits}
use Rattle.float.proofs.Classes.{no_nan}
use Rattle.square_root.proofs.root.last_digits.Goals as goal

pub returns-then-z : goal.returns-then-z
returns-then-z c = lit< tt

pub float_to_bits-result : goal.float_to_bits-result
float_to_bits-result c = no_nan c.args.z c.if-z.false

pub returns : goal.returns
returns c = mask_lt (to_bits binary64 c.args.z) 25
