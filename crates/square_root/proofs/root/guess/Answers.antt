-- It says only that the guess is small.
use Rattle.std.proofs.Common.{◌^◌, arith, le→leb}
use lib.Ieee.{in_float}
use Rattle.square_root.proofs.root.guess.Goals as goal

pub int_to_float-x : goal.int_to_float-x
unfolding in_float
int_to_float-x c = le→leb c.args.n (2 ^ 53) (omega arith)

pub last_digits-requires : goal.last_digits-requires
last_digits-requires c = tt

pub returns : goal.returns
returns c = c.last_digits.ensures
