use Rattle.blend.proofs.nearer.Goals as goal

pub returns-then-d : goal.returns-then-d
returns-then-d c = rw c.if-d.true

pub returns : goal.returns
returns c = rw c.if-d.false
