use mathlib.Core.Path.{sym, ◌∙◌}
use Prim.Native.Nat.{◌*◌, ◌-◌}
use lib.ListN.{get_or}
use Rattle.model.proofs.ListLaws.{same-entry}
use Rattle.placing.specs.Walk.{listing_in}
use Rattle.placing.proofs.Unplaced.{out_of_range}
use Rattle.placing.proofs.Stepping.{few-placed, room_for, stepped, passed}
use Rattle.placing.proofs.step.Goals as goal

pub bounds-walk-n : goal.bounds-walk-n
bounds-walk-n c =
    few-placed _ _ _ _ _ _ _ c.requires.ready c.requires.top_nonzero c.if-i-walk.true c.if-walk-i-eq0.true

pub push-top-requires : goal.push-top-requires
push-top-requires c =
    room_for _ _ _ _ _ _ _ c.requires.ready c.requires.top_nonzero c.if-i-walk.true c.if-walk-i-eq0.true _ c.children_of.ensures

pub returns-then-walk-i-eq0-clause-steps : goal.returns-then-walk-i-eq0-clause-steps
returns-then-walk-i-eq0-clause-steps c =
    stepped _ _ _ _ _ _ _ c.requires.ready c.requires.top_nonzero c.if-i-walk.true c.if-walk-i-eq0.true _ _ _ c.children_of.ensures c.push-top.ensures

pub returns-else-walk-i-eq0-clause-steps : goal.returns-else-walk-i-eq0-clause-steps
returns-else-walk-i-eq0-clause-steps c =
    let s = c.args in
    passed (listing_in s.l.words.now s.l.graph) _ _ _ (λ z. c.if-walk-i-eq0.false (sym (same-entry s.walk.now.places.now (get_or s.walk.now.stack.now (2 * (s.h.top - 1)) 0) 1 0 c.if-i-walk.true) ∙ z))

pub returns-else-i-walk-clause-steps : goal.returns-else-i-walk-clause-steps
returns-else-i-walk-clause-steps c =
    let s = c.args in
    passed (listing_in s.l.words.now s.l.graph) _ _ _ (out_of_range s.walk.now.places.now (get_or s.walk.now.stack.now (2 * (s.h.top - 1)) 0) c.if-i-walk.false)
