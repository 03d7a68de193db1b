use mathlib.Core.Path.{refl}
use Rattle.brackets.proofs.MeetingLaws.{meets-more, meets-done}
use Rattle.brackets.proofs.meeting.meet_bytes.Goals as goal

pub loop-b-init : goal.loop-b-init
loop-b-init c = record { still = refl }

pub loop-b-preserved : goal.loop-b-preserved
loop-b-preserved c =
    meets-more c.loop-b.invariant _ c.loop-b-test.true c.meet-n.ensures

pub returns : goal.returns
returns c = meets-done c.loop-b.invariant c.loop-b-test.false
