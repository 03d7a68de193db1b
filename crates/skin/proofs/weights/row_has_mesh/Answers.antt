use mathlib.Core.Path.{sym, ◌∙◌}
use mathlib.Core.Bool.{◌&&◌}
use lib.Dec.{ltb}
use Rattle.skin.proofs.weights.row_has_mesh.Goals as goal

pub returns-then-is_marked : goal.returns-then-is_marked
returns-then-is_marked c =
    let n = c.args.h.meshes.meshes.count in
    λ j. (sym c.if-is_marked.true ∙ c.is_marked.ensures) j && ltb c.args.row.mesh.id n

pub returns : goal.returns
returns c =
    let a = c.args in
    let n = a.h.meshes.meshes.count in
    sym (λ j. (sym c.is_marked.ensures ∙ c.if-is_marked.false) j && ltb a.row.mesh.id n)
