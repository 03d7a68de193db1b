use mathlib.Core.Path.{◌∙◌}
use native.Mathlib.Omega.{arith}
use Rattle.scene.proofs.Slotted.{lies_in, lies_out}
use Rattle.scene.proofs.matrices.load.Goals as goal

pub returns-then-at-s : goal.returns-then-at-s
returns-then-at-s c = c.matrix_at.ensures ∙ lies_in c.args.s.now c.args.at (omega arith)

pub returns-else-at-s : goal.returns-else-at-s
returns-else-at-s c = lies_out c.args.s.now c.args.at (omega arith)

pub returns-else-s-ge16 : goal.returns-else-s-ge16
returns-else-s-ge16 c = lies_out c.args.s.now c.args.at (omega arith)
