use mathlib.Core.Path.{◌≡◌}
use lib.ListN.{drop}
use Rattle.pose_slots.specs.Channels.{channels_in}
use Rattle.passed_over.specs.Reasons.{reason_for}
use Rattle.passed_over.specs.Passed.{first_with}
use Rattle.passed_over.proofs.calls.first_from.Given as goal

-- what is still to be searched gives what all of it gives
abbrev pub invariant-loop-k : goal.invariant-loop-k
invariant-loop-k l =
    let h = l.lent.header in
    let reason = reason_for l.time h.graph.nodes.count in
    let all = channels_in l.lent.words.now l.lent.floats.now h.channels in
    first_with reason l.k (drop l.k all) ≡ first_with reason l.from (drop l.from all)
