use mathlib.Core.Path.{sym}
use mathlib.Core.Bool.{true, ◌&&◌}
use borrow.Author.Tests.{eq-eqb, ne_eqb}
use lib.Dec.{eqb}
use Rattle.model.specs.Lists.{pick}
use Rattle.brackets.specs.Met.{met_at}
use Rattle.brackets.proofs.lists.met_behind.Goals as goal

pub returns-then-met-at : goal.returns-then-met-at
returns-then-met-at c = simp (c.if-met.true, eq-eqb _ _ c.if-met-at.true)

pub returns-else-met-at : goal.returns-else-met-at
returns-else-met-at c =
    let a = c.args in
    let other = ne_eqb a.met.at a.at c.if-met-at.false in
    λ j. pick (sym c.if-met.true j && sym other j) (met_at a.next true) a.met

pub returns-else-met : goal.returns-else-met
returns-else-met c =
    let a = c.args in
    λ j. pick (sym c.if-met.false j && eqb a.met.at a.at) (met_at a.next true) a.met
