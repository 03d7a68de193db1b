use Rattle.std.proofs.Common.{◌&&◌, sym}
use lib.Ieee.{lt}
use Rattle.square_root.specs.Normal.{ten_to37, one_unless}
use Rattle.square_root.proofs.block.outside.Goals as goal

pub returns-then-x-2 : goal.returns-then-x-2
returns-then-x-2 c = λ i. one_unless (sym c.if-x.true i && sym c.if-x-2.true i)

pub returns-else-x-2 : goal.returns-else-x-2
returns-else-x-2 c = λ i. one_unless (sym c.if-x.true i && sym c.if-x-2.false i)

pub returns-else-x : goal.returns-else-x
returns-else-x c = λ i. one_unless (sym c.if-x.false i && lt c.args.x ten_to37)
