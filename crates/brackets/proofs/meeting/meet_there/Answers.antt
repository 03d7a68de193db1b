use mathlib.Core.Path.{sym, ◌∙◌}
use mathlib.Core.List.{List, ◌∷◌}
use Prim.Native.Nat.{ℕ}
use Rattle.grammar.specs.Digits.{digits_of, sort_for}
use Rattle.brackets.specs.Met.{met_at, meets}
use Rattle.brackets.proofs.MeetingLaws.{stands-met}
use Rattle.brackets.proofs.meeting.meet_there.Goals as goal

pub returns-then-m-at : goal.returns-then-m-at
returns-then-m-at c =
    let a = c.args in
    let bs : List ℕ = 32 ∷ digits_of (sort_for a.float) a.n in
    sym (stands-met a.text.now bs a.at a.next c.requires)
    ∙ (λ j. meets a.text.now bs (met_at (sym c.if-m-at.true j) (sym c.if-m.true j)))
