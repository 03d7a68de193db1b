use Rattle.vertex_rows.proofs.Blended.{by-joints, by-none}
use borrow.Author.Rules.{rules}
use Rattle.vertex_rows.proofs.vertices.skin_vertex.Goals as goal

pub returns-in-Some : goal.returns-in-Some
returns-in-Some c = search (rules, by-joints)

pub returns-in_default : goal.returns-in_default
returns-in_default c = search (rules, by-none)
