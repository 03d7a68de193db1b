use mathlib.Core.Path.{sym, ap, ◌∙◌}
use mathlib.Core.Bool.{Bool}
use borrow.Author.Tests.{lt-ltb, le-ltb}
use lib.ListN.{length}
use Rattle.model.specs.Lists.{pick}
use Rattle.model.specs.Matrix.{identity}
use Rattle.scene.specs.Slots.{matrix_in}
use Rattle.skin.proofs.palette.bind_at.Goals as goal

pub returns-then-binds-lt16 : goal.returns-then-binds-lt16
returns-then-binds-lt16 c =
    let a = c.args in
    c.identity.ensures ∙ ap (λ (b : Bool). pick b identity (matrix_in a.binds.now a.at)) (sym (lt-ltb (length a.binds.now) 16 c.if-binds-lt16.true))

pub returns : goal.returns
returns c =
    let a = c.args in
    c.load.ensures ∙ ap (λ (b : Bool). pick b identity (matrix_in a.binds.now a.at)) (sym (le-ltb (length a.binds.now) 16 c.if-binds-lt16.false))
