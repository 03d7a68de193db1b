use mathlib.Core.Path.{◌≡◌, sym, ap, ◌∙◌}
use Rattle.std.proofs.Common.{rules}
use Rattle.refusals.specs.declared.Refusal.TheVariants as code
use Rattle.refusals.specs.Drawn.{number_of}
use Rattle.refusals.proofs.Told.{not-none}
use Rattle.checks.specs.Drawn.{drawn}
use Rattle.word_checks.specs.Words.{leaves}
use Rattle.word_checks.proofs.ByNumber.{same-number}
use Rattle.word_checks.proofs.Firsts.{met, not_met}
use Rattle.word_checks.proofs.steps.leaves_word.Goals as goal
use Rattle.word_checks.proofs.steps.leaves_word.Goals.{else-not-fits-via-then-not-fits+else-eq, else-not-fits-via-else-not-fits}

pub returns-then-eq : goal.returns-then-eq
unfolding drawn
returns-then-eq c =
    let e : c.args.n ≡ code.OutOfTable = search rules in
    met _ _ _ _ (ap leaves c.if-not-fits.true ∙ sym (ap number_of e))

pub returns : goal.returns
unfolding drawn
returns c = elim c.else-not-fits.branch [
  | else-not-fits-via-then-not-fits+else-eq w ↦
      let other : (c.args.n ≡ code.OutOfTable → ⊥) = search rules in
      not_met _ _ _ _ (λ e. other (same-number _ _ (sym e ∙ ap leaves w.if-not-fits.true)))
  | else-not-fits-via-else-not-fits w ↦ not_met _ _ _ _ (λ e. not-none c.args.n (sym e ∙ ap leaves w.if-not-fits.false))
]
