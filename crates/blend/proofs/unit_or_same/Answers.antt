use Rattle.blend.proofs.unit_or_same.Goals as goal

pub returns-then-len : goal.returns-then-len
returns-then-len c = rw (← c.length4-len.ensures, c.if-len.true)

pub returns : goal.returns
returns c = rw (← c.length4-len.ensures, c.if-len.false)
