use mathlib.Core.Path.{sym, ap, ◌∙◌}
use mathlib.Core.Bool.{Bool}
use mathlib.Core.List.{List, ◌∷◌}
use Prim.Native.Nat.{ℕ}
use lib.Seq.{length-take-le}
use Rattle.grammar.specs.Digits.{digits_of, sort_for}
use Rattle.spelling.proofs.Pushing.{Filled, item-put}
use Rattle.brackets.specs.Met.{met_at, meets}
use Rattle.brackets.proofs.MeetingLaws.{departed}
use Rattle.brackets.proofs.meeting.meet_item.Lts
use Rattle.brackets.proofs.meeting.meet_item.Reads
use Rattle.brackets.proofs.meeting.meet_item.Tie
use Rattle.brackets.proofs.meeting.meet_item.Goals as goal

abbrev After-put_item-end : Type 0
After-put_item-end = Lts.After-put_item Tie.the-claims Reads.Pre Reads.Post

item : (c : After-put_item-end)
    → let a = c.args in
    Filled (32 ∷ digits_of (sort_for a.float) a.n) c.put_item-end.new.out c.put_item-end.result
item c =
    let a = c.args in
    item-put (sort_for a.float) a.n _ _ c.put_item-end.ensures

pub slice_bounds-item-end : goal.slice_bounds-item-end
slice_bounds-item-end c = (item c.before.before).inside

pub slice_bounds-meet_bytes-end : goal.slice_bounds-meet_bytes-end
slice_bounds-meet_bytes-end c = sym (length-take-le _ _ (item c.before.before.before).inside)

pub returns-then-m : goal.returns-then-m
returns-then-m c = rw (item c.before.before.before.before).taken at c.meet_bytes.ensures

pub returns : goal.returns
returns c =
    let a = c.args in
    let bs : List ℕ = 32 ∷ digits_of (sort_for a.float) a.n in
    sym (departed a.text.now bs a.m.at)
    ∙ ap (λ (t : Bool). meets a.text.now bs (met_at a.m.at t)) (sym c.if-m.false)
