use mathlib.Core.Path.{sym, ◌∙◌}
use mathlib.Core.Bool.{◌||◌}
use borrow.Author.Tests.{lt-ltb, le-ltb}
use lib.Dec.{ltb}
use Rattle.worlds.proofs.numbers.is_short_for.Goals as goal

pub returns-then-walk_is_short : goal.returns-then-walk_is_short
returns-then-walk_is_short c =
    let a = c.args in
    let n = a.graph.nodes.count in
    sym (λ j. (sym c.walk_is_short.ensures ∙ c.if-walk_is_short.true) j || ltb a.space.poses n || ltb a.space.worlds n)

pub returns-then-space-n : goal.returns-then-space-n
returns-then-space-n c =
    let a = c.args in
    let n = a.graph.nodes.count in
    sym (λ j. (sym c.walk_is_short.ensures ∙ c.if-walk_is_short.false) j || lt-ltb a.space.poses n c.if-space-n.true j
    || ltb a.space.worlds n)

pub returns : goal.returns
returns c =
    let a = c.args in
    let n = a.graph.nodes.count in
    sym (λ j. (sym c.walk_is_short.ensures ∙ c.if-walk_is_short.false) j || le-ltb a.space.poses n c.if-space-n.false j
    || ltb a.space.worlds n)
