use mathlib.Core.Path.{ap, ◌∙◌}
use mathlib.Core.List.{List}
use lib.Ieee.{Float}
use Rattle.model.specs.Lists.{rows_in}
use Rattle.model.specs.Vector.{◌⊙◌, ◌⊞◌}
use Rattle.model.specs.Morph.{with_deltas}
use Rattle.model.specs.Attributes.{over_rows}
use Rattle.mesh.proofs.targets.add_plain.Goals as goal

pub returns : goal.returns
returns c =
    let a = c.args in
    let added : List Float → List Float → List Float = λ lent ds. over_rows 3 (with_deltas (λ v d. v ⊞ a.w ⊙ d) (rows_in 3 lent) (rows_in 3 ds)) lent in
    record {
      positions = c.add_scaled.ensures ∙ ap (added a.positions.now) c.deltas_in.ensures;
      normals = c.add_scaled-2.ensures ∙ ap (added a.normals.now) c.deltas_in-2.ensures;
    }
