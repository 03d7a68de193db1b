use Rattle.square_root.proofs.Normals.{below-not-nan, large-number}
use Rattle.square_root.proofs.block.below.Goals as goal

pub returns-then-x : goal.returns-then-x
returns-then-x c = below-not-nan c.args.x _ c.if-x.true

pub returns : goal.returns
returns c = large-number
