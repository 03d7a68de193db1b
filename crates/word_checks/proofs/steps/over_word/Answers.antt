use mathlib.Core.Path.{◌≡◌, sym, ap, ◌∙◌}
use Rattle.std.proofs.Common.{rules}
use Rattle.refusals.specs.declared.Refusal.TheVariants as code
use Rattle.refusals.specs.Drawn.{number_of}
use Rattle.refusals.proofs.Told.{not-none}
use Rattle.checks.specs.Drawn.{drawn}
use Rattle.word_checks.specs.Words.{over}
use Rattle.word_checks.proofs.ByNumber.{same-number}
use Rattle.word_checks.proofs.Firsts.{met, not_met}
use Rattle.word_checks.proofs.steps.over_word.Goals as goal
use Rattle.word_checks.proofs.steps.over_word.Goals.{else-not-within-via-then-not-within+else-eq, else-not-within-via-else-not-within}

pub returns-then-eq : goal.returns-then-eq
unfolding drawn
returns-then-eq c =
    let e : c.args.n ≡ code.OverLimit = search rules in
    met _ _ _ _ (ap over c.if-not-within.true ∙ sym (ap number_of e))

pub returns : goal.returns
unfolding drawn
returns c = elim c.else-not-within.branch [
  | else-not-within-via-then-not-within+else-eq w ↦
      let other : (c.args.n ≡ code.OverLimit → ⊥) = search rules in
      not_met _ _ _ _ (λ e. other (same-number _ _ (sym e ∙ ap over w.if-not-within.true)))
  | else-not-within-via-else-not-within w ↦ not_met _ _ _ _ (λ e. not-none c.args.n (sym e ∙ ap over w.if-not-within.false))
]
