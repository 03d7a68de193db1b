use native.Mathlib.Omega.{arith}
use Rattle.printing.proofs.LineLaws.{vertex-next, vertices-done}
use Rattle.printing.proofs.put_vertices.Goals as goal

pub loop-left-preserved : goal.loop-left-preserved
loop-left-preserved c =
    vertex-next _ _ _ c.in-len3-up.len_at_least (omega arith) c.put_vertex-k.ensures c.loop-left.invariant

pub returns : goal.returns
returns c = vertices-done _ _ _ (omega (arith, c.in_default.len_below)) c.loop-left.invariant
