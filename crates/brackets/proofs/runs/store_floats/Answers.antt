use mathlib.Core.Path.{sym, ◌∙◌}
use Rattle.brackets.proofs.RunLaws.{plain-sorts, stored-start, stored_more}
use Rattle.brackets.proofs.runs.store_floats.Goals as goal

pub loop-next-init : goal.loop-next-init
loop-next-init c = stored-start _ _ _ _ _ _

pub loop-next-preserved : goal.loop-next-preserved
loop-next-preserved c =
    let there = c.in-Some.ensures in
    stored_more c.loop-next.invariant (sym c.byte_at.ensures ∙ c.loop-next-test.true) there.0 (plain-sorts _ there.1)
    c.store-cell.ensures
