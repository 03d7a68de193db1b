use Rattle.std.proofs.Common.{arith}
use lib.Bits.{and_le_r}
use lib.Ieee.{binary32, to_bits}
use Rattle.square_root.proofs.block.guess.Goals as goal

pub overflow_add-result : goal.overflow_add-result
overflow_add-result c = omega (arith, and_le_r (to_bits binary32 c.below-z.result) 8388607)

pub returns : goal.returns
returns c = omega (arith, and_le_r (to_bits binary32 c.below-z.result) 8388607)
