use mathlib.Core.Path.{refl}
use native.Mathlib.Omega.{arith}
use Rattle.model.specs.Lists.{rows_in}
use Rattle.model.specs.Vertices.{influences}
use Rattle.vertex_rows.proofs.Blended.{next-influence}
use Rattle.vertex_rows.proofs.influences.blend_row.Goals as goal

pub loop-e-init : goal.loop-e-init
unfolding influences
loop-e-init c = (omega arith, refl)

pub loop-e-preserved : goal.loop-e-preserved
loop-e-preserved c =
    let a = c.args in
    let l = c.loop-e in (
      omega arith,
      next-influence (rows_in 16 a.by.palette.now) a.by.joints.now a.by.weights.now a.v c.requires.0 c.requires.1 l.e _ l.sum _ (omega arith) l.invariant.1 refl c.add_influence-sum.ensures,
    )
