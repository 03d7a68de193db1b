use borrow.Author.Rules.{rules}
use Rattle.inverse.proofs.Inverted.{is_inverse, no-inverse}
use Rattle.inverse.proofs.mat4_affine_inverse.Goals as goal

pub returns-then-is_affine-is_invertible_f64 : goal.returns-then-is_affine-is_invertible_f64
returns-then-is_affine-is_invertible_f64 c = search (rules, is_inverse)

pub returns : goal.returns
returns c = search (rules, no-inverse)
