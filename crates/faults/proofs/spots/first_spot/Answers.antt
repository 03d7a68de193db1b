use mathlib.Core.Path.{ap, ◌∙◌}
use lib.ListN.{length}
use Rattle.refusals.specs.Drawn.{number_of}
use Rattle.checks.specs.declared.Table.TheVariants as table
use Rattle.faults.proofs.Finding.{found-either, five-lists}
use Rattle.faults.specs.Faults.{table_spots, roots_spots, mesh_spots, skin_spots, spots_for, first_with}
use Rattle.faults.proofs.spots.first_spot.Goals as goal

pub returns : goal.returns
unfolding spots_for
returns c =
    let a = c.args in
    let words = a.words.now in
    let two = found-either a.n _ _ _ _ _ c.table_spot.ensures c.roots_spot.ensures c.or.ensures in
    let three = found-either a.n _ _ _ _ _ two c.table_spot-2.ensures c.or-2.ensures in
    let four = found-either a.n _ _ _ _ _ three c.mesh_spot.ensures c.or-3.ensures in
    found-either a.n _ _ _ _ _ four c.skin_spot.ensures c.or-4.ensures
    ∙ ap (first_with (number_of a.n))
    (five-lists (table_spots words a.s a.h table.Nodes) (roots_spots (length words) a.h.graph.roots)
    (table_spots words a.s a.h table.Channels) (mesh_spots words a.s a.h) (skin_spots words a.s a.h))
