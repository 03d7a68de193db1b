use mathlib.Core.Path.{sym, ap, ◌∙◌}
use mathlib.Core.Bool.{Bool}
use Prim.Native.Nat.{◌-◌, ◌*◌}
use borrow.Author.Tests.{lt-ltb, le-ltb}
use Rattle.model.specs.Lists.{pick}
use Rattle.model.specs.Matrix.{Matrix, identity, mul}
use Rattle.scene.specs.Slots.{matrix_in}
use Rattle.worlds.proofs.slots.world_at.Goals as goal

pub returns-then-code-lt3 : goal.returns-then-code-lt3
returns-then-code-lt3 c =
    let a = c.args in
    c.mat4_mul.ensures
    ∙ ap (λ (u : Matrix). mul u a.local.m) c.identity.ensures
    ∙ ap (λ (b : Bool). mul (pick b identity (matrix_in a.worlds.now ((a.code - 3) * 16))) a.local.m) (sym (lt-ltb a.code 3 c.if-code-lt3.true))

pub returns : goal.returns
returns c =
    let a = c.args in
    c.mat4_mul-2.ensures
    ∙ ap (λ (u : Matrix). mul u a.local.m) c.load.ensures
    ∙ ap (λ (b : Bool). mul (pick b identity (matrix_in a.worlds.now ((a.code - 3) * 16))) a.local.m) (sym (le-ltb a.code 3 c.if-code-lt3.false))
