use Rattle.vertex_rows.proofs.Turned.{by-direction}
use Rattle.vertex_rows.proofs.directions.turned_unit.Goals as goal

pub returns : goal.returns
returns c = rw c.unwrap_or.ensures (by-direction _ c.args.v _ _ c.mul3.ensures c.normalize3.ensures)
