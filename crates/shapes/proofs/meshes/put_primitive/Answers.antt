use mathlib.Core.Path.{ap, ◌∙◌}
use mathlib.Core.List.{[]}
use Rattle.checks.specs.Drawn.{lent_as}
use Rattle.shapes.specs.declared.Lengths.{Lengths}
use Rattle.shapes.specs.Rest.{palette_in}
use Rattle.shapes.proofs.Putting.{sized, part_length, put-at}
use Rattle.shapes.proofs.meshes.put_primitive.Goals as goal

pub bake_primitive-requires : goal.bake_primitive-requires
bake_primitive-requires c =
    let a = c.args in
    let e = c.requires.0 in
    sized a.lent.floats.now a.row c.requires.1 _ _ _
    (part_length a.positions.now a.at.positions a.n.positions c.requires.2.position-room ∙ ap (λ (k : Lengths). k.positions) e)
    (part_length a.normals.now a.at.normals a.n.normals c.requires.2.normal-room ∙ ap (λ (k : Lengths). k.normals) e)
    (part_length a.tangents.now a.at.tangents a.n.tangents c.requires.2.tangent-room ∙ ap (λ (k : Lengths). k.tangents) e)

pub returns : goal.returns
returns c =
    let a = c.args in
    put-at (lent_as a.lent.words.now a.lent.floats.now [] [] a.lent.header) a.row c.requires.1 a.weights.now a.world.m (palette_in a.palette)
    a.at a.n c.requires.0 _ _ _ _ _ _ c.bake_primitive.ensures
