use mathlib.Core.Path.{ap, ◌∙◌}
use lib.ListN.{get_or}
use Rattle.float.specs.F32.{zero32}
use Rattle.tables.specs.declared.InBetweenRow.{InBetweenRow}
use Rattle.deltas.proofs.betweens.station_at.Goals as goal

pub returns : goal.returns
returns c =
    let row = c.between_at-row.ensures in
    let floats = c.args.lent.floats.now in
    (λ j. record {
      weight = (c.weight_of-weight.ensures ∙ ap (λ (r : InBetweenRow). get_or floats r.weight zero32) row) j;
      positions = (row j).positions;
      normals = (row j).normals;
    })
