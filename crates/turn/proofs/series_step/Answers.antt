-- The two products are small, and 1.0 is the whole number 1.
use borrow.Author.Rules.{rules}
use native.Mathlib.Nat.{mul-le-mul}
use native.Mathlib.Omega.{arith}
use lib.Ieee.{add, of_bits, of_int}
use Rattle.turn.specs.Weight.{step}
use Rattle.turn.proofs.series_step.Goals as goal

pub overflow_mul-square : goal.overflow_mul-square
overflow_mul-square c = omega (arith, mul-le-mul c.requires c.requires)

pub overflow_mul-k-2 : goal.overflow_mul-k-2
overflow_mul-k-2 c = omega (arith, mul-le-mul c.requires c.requires)

pub returns : goal.returns
unfolding add step of_bits of_int
returns c = search rules
