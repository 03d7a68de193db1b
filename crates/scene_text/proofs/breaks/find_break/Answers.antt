use mathlib.Core.Path.{sym, ap, ◌∙◌}
use mathlib.Core.Bool.{true, false}
use Prim.Native.Nat.{ℕ}
use Rattle.model.specs.Refusals.{number, bad_form}
use Rattle.scene_text.specs.Breaks.{break_as}
use Rattle.scene_text.proofs.BreakLaws.{break-told}
use Rattle.scene_text.proofs.breaks.find_break.Goals as goal

pub returns-then-is_reading : goal.returns-then-is_reading
returns-then-is_reading c =
    break-told c.scan-f.ensures true (sym c.is_reading.ensures ∙ c.if-is_reading.true)

pub returns : goal.returns
returns c =
    ap (λ (at : ℕ). break_as (number bad_form) at) c.place_from.ensures
    ∙ break-told c.scan-f.ensures false (sym c.is_reading.ensures ∙ c.if-is_reading.false)
