use Rattle.turn.specs.Weight.{weight}
use Rattle.model.proofs.Filling.{same_length, inside, done}
use Rattle.entries.proofs.Filling.{start-zip, inside-zip, step-zip}
use Rattle.entries.proofs.leaves.mesh3d_turn_weight_all.Goals as goal

pub loop-i-init : goal.loop-i-init
loop-i-init c = start-zip weight c.args.vs.now c.args.cs.now _ _ _ c.min.ensures c.min-n.ensures

pub bounds-vs-i : goal.bounds-vs-i
bounds-vs-i c = (inside-zip weight c.args.vs.now c.args.cs.now _ _ _ _ c.loop-i.invariant c.loop-i-test.true).0

pub bounds-cs-i : goal.bounds-cs-i
bounds-cs-i c = (inside-zip weight c.args.vs.now c.args.cs.now _ _ _ _ c.loop-i.invariant c.loop-i-test.true).1

pub bounds-out-i : goal.bounds-out-i
bounds-out-i c = (inside _ _ _ _ _ c.loop-i.invariant c.loop-i-test.true).1

pub loop-i-preserved : goal.loop-i-preserved
loop-i-preserved c = step-zip weight c.args.vs.now c.args.cs.now _ _ _ _ _ _ _ c.loop-i.invariant c.loop-i-test.true c.turn_weight.ensures

pub shape_of-out : goal.shape_of-out
shape_of-out c = same_length _ _ _ _ _ c.loop-i.invariant

pub returns : goal.returns
returns c = done _ _ _ _ _ c.loop-i.invariant c.loop-i-test.false
