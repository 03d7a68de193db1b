use native.Mathlib.Nat.{mod-zero}
use Rattle.scene_forms.proofs.fields.is_sized.Goals as goal

pub returns-then-rule : goal.returns-then-rule
returns-then-rule c = simp c.if-rule.true

pub returns-then-width-eq0 : goal.returns-then-width-eq0
returns-then-width-eq0 c = simp (c.if-rule.false, c.if-width-eq0.true, mod-zero)

pub returns : goal.returns
returns c = simp c.if-rule.false
