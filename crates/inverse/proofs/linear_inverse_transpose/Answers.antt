use borrow.Author.Rules.{rules}
use Rattle.inverse.proofs.Inverted.{is-transposed, not-transposed}
use Rattle.inverse.proofs.linear_inverse_transpose.Goals as goal

pub returns-then-is_invertible-mat3_is_finite : goal.returns-then-is_invertible-mat3_is_finite
returns-then-is_invertible-mat3_is_finite c = search (rules, is-transposed)

pub returns : goal.returns
returns c = search (rules, not-transposed)
