use mathlib.Core.Path.{◌≡◌, refl, ◌∙◌, ap}
use Prim.Native.Nat.{ℕ}
use borrow.Author.Rules.{rules}
use native.Mathlib.Omega.{arith}
use Rattle.checks.proofs.Lowest.{lowest-more}
use Rattle.checks.specs.Drawn.{lowest_below, row_number}
use Rattle.checks.proofs.records.check_rows.Goals as goal

pub loop-i-init : goal.loop-i-init
unfolding lowest_below
loop-i-init g c = (refl, search rules, λ floats e. refl)

pub loop-i-preserved : goal.loop-i-preserved
loop-i-preserved g c = (
  refl,
  omega arith,
  λ floats e.
      lowest-more _ _ _ _ _ (c.loop-i.invariant.2 floats e) (c.check_row.ensures floats e)
      c.lower-lowest.ensures,
)

pub returns : goal.returns
returns g c floats e =
    let l = c.loop-i in
    let a = c.args in
    let all : l.i ≡ a.t.count = omega (arith, l.invariant.0, l.invariant.1, c.loop-i-test.false) in
    l.invariant.2 floats e ∙ ap (λ (n : ℕ). lowest_below n (row_number (g.W.Words.said a.words) floats a.s a.t a.k)) all

pub check_row-requires : goal.check_row-requires
check_row-requires g c = (c.requires, omega arith)
