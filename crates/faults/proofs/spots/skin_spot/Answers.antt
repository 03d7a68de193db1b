use Rattle.faults.proofs.Finding.{found-either}
use Rattle.faults.specs.Faults.{skin_spots}
use Rattle.faults.proofs.spots.skin_spot.Goals as goal

pub returns : goal.returns
unfolding skin_spots
returns c = found-either c.args.n _ _ _ _ _ c.table_spot.ensures c.table_spot-2.ensures c.or.ensures
