use mathlib.Core.Path.{ap, ◌∙◌}
use Rattle.refusals.specs.Drawn.{number_of}
use Rattle.checks.specs.declared.Table.TheVariants as table
use Rattle.faults.proofs.Finding.{found-either, four-lists}
use Rattle.faults.specs.Faults.{table_spots, mesh_spots, first_with}
use Rattle.faults.proofs.spots.mesh_spot.Goals as goal

pub returns : goal.returns
unfolding mesh_spots
returns c =
    let a = c.args in
    let spots = table_spots a.words.now a.s a.h in
    let two = found-either a.n _ _ _ _ _ c.table_spot.ensures c.table_spot-2.ensures c.or.ensures in
    let three = found-either a.n _ _ _ _ _ two c.table_spot-3.ensures c.or-2.ensures in
    found-either a.n _ _ _ _ _ three c.table_spot-4.ensures c.or-3.ensures
    ∙ ap (first_with (number_of a.n))
    (four-lists (spots table.Meshes) (spots table.Primitives) (spots table.Targets) (spots table.InBetweens))
