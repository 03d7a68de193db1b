use mathlib.Core.Path.{sym, ap, ◌∙◌}
use mathlib.Core.List.{List}
use lib.Ieee.{Float}
use Rattle.model.specs.Lists.{rows_in}
use Rattle.model.specs.Vector.{Vector, ◌⊞◌}
use Rattle.model.specs.Morph.{with_deltas}
use Rattle.model.specs.Attributes.{over_rows}
use Rattle.tables.specs.Decoded.{target_of}
use Rattle.deltas.specs.Deltas.{lent_in}
use Rattle.mesh.proofs.StationLaws.{position-deltas, normal-deltas}
use Rattle.mesh.proofs.blending.add_stations.Goals as goal

pub returns : goal.returns
returns c =
    let a = c.args in
    let b = c.blend_of-b in
    let t = target_of (lent_in a.lent.words.now a.lent.floats.now a.lent.header) a.row in
    let added : List Float → List Vector → List Float = λ lent ds. over_rows 3 (with_deltas ◌⊞◌ (rows_in 3 lent) ds) lent in
    record {
      positions = c.add_blended.ensures ∙ ap (added a.positions.now) (sym (position-deltas a.lent.floats.now t a.row.positions a.w b.result b.ensures));
      normals = c.add_blended-2.ensures ∙ ap (added a.normals.now) (sym (normal-deltas a.lent.floats.now t a.row.normals a.w b.result b.ensures));
    }
