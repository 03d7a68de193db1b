use mathlib.Core.Path.{◌≡◌, ◌∙◌}
use mathlib.Core.List.{List, []}
use native.Mathlib.Omega.{arith}
use lib.Ieee.{Float}
use Rattle.model.specs.Vertices.{Shape}
use Rattle.model.specs.Attributes.{Reshaped}
use Rattle.checks.specs.Drawn.{lent_as}
use Rattle.shapes.specs.Rest.{palette_in}
use Rattle.shapes.proofs.Baking.{baked}
use Rattle.shapes.proofs.primitives.bake_primitive.Goals as goal

ended : (s : Shape) (lp ln lt p n t p' n' t' : List Float) → Reshaped s lp p ln n lt t → p' ≡ p → n' ≡ n → t' ≡ t → Reshaped s lp p' ln n' lt t'
ended s lp ln lt p n t p' n' t' h a b c = record { positions = a ∙ h.positions; normals = b ∙ h.normals; tangents = c ∙ h.tangents }

pub returns : goal.returns
returns c =
    let a = c.args in
    ended _ _ _ _ _ _ _ _ _ _
    (baked (lent_as a.lent.words.now a.lent.floats.now [] [] a.lent.header) a.row a.weights.now a.world.m (palette_in a.palette)
    _ _ _ _ _ _ c.blend_primitive.ensures.shaped c.place_shape.ensures.moved)
    (grind arith) (grind arith) (grind arith)
