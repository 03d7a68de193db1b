use native.Mathlib.Omega.{arith}
use Rattle.scene.proofs.Slotted.{stored, not-stored}
use Rattle.scene.proofs.matrices.store.Goals as goal

pub returns-then-at-s : goal.returns-then-at-s
returns-then-at-s c = stored c.args.s.now c.args.at c.args.m.m _ (omega arith) c.put.ensures

pub returns-else-at-s : goal.returns-else-at-s
returns-else-at-s c = not-stored c.args.s.now c.args.at c.args.m.m (omega arith)

pub returns-else-s-ge16 : goal.returns-else-s-ge16
returns-else-s-ge16 c = not-stored c.args.s.now c.args.at c.args.m.m (omega arith)
