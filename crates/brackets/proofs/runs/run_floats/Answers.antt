use mathlib.Core.Path.{refl, sym, subst, ◌∙◌}
use lib.Dec.{T}
use Rattle.brackets.proofs.RunLaws.{stored-start}
use Rattle.brackets.proofs.runs.run_floats.Goals as goal

pub returns-then-not-any : goal.returns-then-not-any
returns-then-not-any c = (stored-start _ _ _ _ _ _, λ e. refl)

pub returns : goal.returns
returns c =
    let any = c.if-not-any.false in
    (c.store_floats.ensures, λ e. absurd (subst T (sym any ∙ e) tt))
