use mathlib.Core.Path.{◌≡◌}
use native.Mathlib.Omega.{arith}
use borrow.Author.Tests.{ne_eqb}
use Rattle.grammar.specs.Digits.{floats}
use Rattle.spelling.proofs.Pushing.{put-append}
use Rattle.scene_spelling.proofs.FieldLaws.{put-absent}
use Rattle.scene_spelling.proofs.forms.put_values.Goals as goal

pub returns-in_default : goal.returns-in_default
returns-in_default c =
    put-append _ _ _
    (put-append _ _ _
    (put-absent 41 floats _ _ (ne_eqb c.args.kind 0 (λ e. omega (arith, e))))
    (put-absent 42 floats _ _ (ne_eqb c.args.kind 1 (λ e. omega (arith, e)))))
    (put-absent 43 floats _ _ (ne_eqb c.args.kind 2 (λ e. omega (arith, e))))
