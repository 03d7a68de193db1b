use Rattle.brackets.proofs.MeetingLaws.{Expecting}
use Rattle.brackets.proofs.meeting.meet_bytes.Given as goal

abbrev pub invariant-loop-b : goal.invariant-loop-b
invariant-loop-b l = Expecting l.text l.bytes l.initial.n l.n l.b-index
