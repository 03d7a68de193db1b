use Rattle.vertex_rows.proofs.RowAccess.{written3}
use Rattle.vertex_rows.proofs.rows.store3.Goals as goal

pub returns : goal.returns
returns c = written3 c.args.s.now c.args.at c.args.v.x c.args.v.y c.args.v.z c.requires
