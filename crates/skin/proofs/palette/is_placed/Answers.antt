use mathlib.Core.Path.{sym, ap, ◌∙◌}
use mathlib.Core.Bool.{Bool, ◌&&◌}
use borrow.Author.Tests.{lt-ltb, le-ltb}
use lib.ListN.{get_or, get_or-eq_default}
use Rattle.tables.specs.Tags.{is_marked}
use Rattle.skin.proofs.palette.is_placed.Goals as goal

pub returns-then-i-places : goal.returns-then-i-places
returns-then-i-places c =
    let a = c.args in
    c.is_marked.ensures
    ∙ sym (ap (λ (b : Bool). b && is_marked (get_or a.places.now a.j 0)) (lt-ltb a.j a.n c.if-i-n.true))

pub returns-else-i-places : goal.returns-else-i-places
returns-else-i-places c =
    let a = c.args in
    sym (λ k. lt-ltb a.j a.n c.if-i-n.true k && is_marked (get_or-eq_default a.places.now 0 c.if-i-places.false k))

pub returns-else-i-n : goal.returns-else-i-n
returns-else-i-n c =
    let a = c.args in
    sym (ap (λ (b : Bool). b && is_marked (get_or a.places.now a.j 0)) (le-ltb a.j a.n c.if-i-n.false))
