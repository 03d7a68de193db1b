use mathlib.Core.Path.{sym, ap, ◌∙◌}
use Prim.Native.Nat.{ℕ, ◌/◌}
use native.Mathlib.Nat.{div-zero}
use Rattle.scene_schema.specs.declared.Rule.{Rule}
use Rattle.scene_marks.proofs.entries.Goals as goal

pub returns-then-width-eq0 : goal.returns-then-width-eq0
returns-then-width-eq0 c =
    let count = c.args.count in
    let width = ap (λ (rule : Rule). rule.width) c.slot_rule-rule.ensures in
    sym (ap (λ (n : ℕ). count / n) (sym width ∙ c.if-width-eq0.true) ∙ div-zero count)

pub returns : goal.returns
returns c = ap (λ (rule : Rule). c.args.count / rule.width) c.slot_rule-rule.ensures
