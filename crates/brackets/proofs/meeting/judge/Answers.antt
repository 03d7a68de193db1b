use Rattle.brackets.proofs.meeting.judge.Goals as goal

pub returns-then-not-holds : goal.returns-then-not-holds
returns-then-not-holds c = simp (c.if-m.true, c.if-not-holds.true)
