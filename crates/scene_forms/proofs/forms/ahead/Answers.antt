use Rattle.scene_forms.proofs.FormLaws.{goes_on, stands}
use Rattle.scene_forms.proofs.forms.ahead.Goals as goal

pub returns-then-at-lt9223372036854775808 : goal.returns-then-at-lt9223372036854775808
returns-then-at-lt9223372036854775808 c = goes_on _ _ c.if-at-lt9223372036854775808.true

pub returns : goal.returns
returns c = stands _ _ c.if-at-lt9223372036854775808.false
