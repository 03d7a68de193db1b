use borrow.Author.Rules.{rules}
use Rattle.transform.proofs.Handed.{normals-turned, normals-left}
use Rattle.transform.proofs.rigid.transform_normals.Goals as goal

pub returns-in-Some : goal.returns-in-Some
returns-in-Some c = search (rules, normals-turned)

pub returns-in_default : goal.returns-in_default
returns-in_default c = search (rules, normals-left)
