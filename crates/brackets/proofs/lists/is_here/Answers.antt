use Rattle.brackets.proofs.lists.is_here.Goals as goal

pub returns-then-not-met : goal.returns-then-not-met
returns-then-not-met c = simp c.if-not-met.true

pub returns-else-not-met : goal.returns-else-not-met
returns-else-not-met c = simp c.if-not-met.false
