use mathlib.Core.Path.{refl}
use native.Mathlib.Omega.{arith}
use Rattle.digits.proofs.PaddedLaws.{shifted_fits, pads}
use Rattle.digits.proofs.decimals.padded.Goals as goal

pub overflow_sub-result : goal.overflow_sub-result
overflow_sub-result c = (shifted_fits c.args.w c.args.count c.requires.0 c.requires.1).0

pub overflow_add-result : goal.overflow_add-result
overflow_add-result c = omega (arith, (shifted_fits c.args.w c.args.count c.requires.0 c.requires.1).1)

pub returns : goal.returns
returns c = pads c.args.w c.args.count c.requires.0 c.requires.1 refl
