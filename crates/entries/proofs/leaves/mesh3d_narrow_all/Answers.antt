use Rattle.float.specs.Narrow.{narrow_of}
use Rattle.model.proofs.Filling.{same_length, inside, done}
use Rattle.entries.proofs.Filling.{start-map, inside-map, step_map}
use Rattle.entries.proofs.leaves.mesh3d_narrow_all.Goals as goal

pub loop-i-init : goal.loop-i-init
loop-i-init c = start-map narrow_of c.args.xs.now _ _ c.min-n.ensures

pub bounds-xs-i : goal.bounds-xs-i
bounds-xs-i c = inside-map narrow_of c.args.xs.now _ _ _ _ c.loop-i.invariant c.loop-i-test.true

pub bounds-out-i : goal.bounds-out-i
bounds-out-i c = (inside _ _ _ _ _ c.loop-i.invariant c.loop-i-test.true).1

pub loop-i-preserved : goal.loop-i-preserved
loop-i-preserved c = step_map narrow_of c.args.xs.now _ _ _ _ _ _ c.loop-i.invariant c.loop-i-test.true c.narrow.ensures

pub shape_of-out : goal.shape_of-out
shape_of-out c = same_length _ _ _ _ _ c.loop-i.invariant

pub returns : goal.returns
returns c = done _ _ _ _ _ c.loop-i.invariant c.loop-i-test.false
