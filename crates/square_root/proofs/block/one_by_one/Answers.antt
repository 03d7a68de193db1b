use Rattle.std.proofs.Common.{refl, rules, below_none}
use Rattle.square_root.proofs.Lanes.{taken_next, taken-all}
use Rattle.square_root.proofs.block.one_by_one.Goals as goal

pub loop-i-init : goal.loop-i-init
loop-i-init c = (search rules, refl, search rules, below_none _)

pub loop-i-preserved : goal.loop-i-preserved
loop-i-preserved c = let l = c.loop-i in taken_next c.args.a l.out l.i _ c.loop-i-test.true l.invariant c.sqrt.ensures

pub returns : goal.returns
returns c = let l = c.loop-i in taken-all c.args.a l.out l.i c.loop-i-test.false l.invariant
