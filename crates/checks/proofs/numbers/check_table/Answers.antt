use mathlib.Core.Path.{◌∙◌, ap}
use Prim.Native.Nat.{ℕ}
use Rattle.row_checks.specs.Places.{fits_in}
use Rattle.checks.specs.Drawn.{drawn}
use Rattle.checks.proofs.numbers.check_table.Goals as goal

pub returns : goal.returns
returns c =
    let a = c.args in
    let fits = c.fits.ensures ∙ ap (λ (w : ℕ). fits_in a.t w a.len) c.record_words.ensures in
    c.check.ensures ∙ (λ j. drawn (fits j) (c.count_within.ensures j))
