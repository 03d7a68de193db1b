use borrow.Author.Rules.{rules}
use Rattle.inverse.proofs.Inverted.{is_normal, no-normal}
use Rattle.inverse.proofs.normal_matrix.Goals as goal

pub returns-in_err-n : goal.returns-in_err-n
returns-in_err-n c = search (rules, no-normal)

pub returns : goal.returns
returns c = search (rules, is_normal)
