use Rattle.placing.specs.Walk.{listing_in}
use Rattle.placing.specs.WalkRoom.{pending, marks_in, SameSlices, SameLengths}
use Rattle.placing.proofs.Going.{Going}
use Rattle.placing.proofs.drain.Given as goal

abbrev pub invariant-loop-h : goal.invariant-loop-h
invariant-loop-h l =
    let old = l.initial.walk in
    Going (listing_in l.l.words.now l.l.graph) old.stack.now l.top (marks_in old 0) l.walk.stack.now l.h.top (marks_in l.walk l.h.placed) l.taken
    × SameSlices old l.walk × SameLengths old l.walk

abbrev pub decreases-loop-h : goal.decreases-loop-h
decreases-loop-h l = pending (listing_in l.l.words.now l.l.graph) l.h.top l.walk.places.now
