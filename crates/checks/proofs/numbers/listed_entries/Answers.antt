use mathlib.Core.Path.{◌≡◌, refl, ◌∙◌, ap}
use Prim.Native.Nat.{ℕ, min}
use borrow.Author.Rules.{rules}
use native.Mathlib.Omega.{arith}
use Rattle.checks.proofs.Lowest.{sum_more}
use Rattle.checks.specs.Drawn.{entry_cap, sum_below, child_count}
use Rattle.checks.proofs.numbers.listed_entries.Goals as goal

pub loop-i-init : goal.loop-i-init
unfolding sum_below
loop-i-init g c = (refl, search rules, refl)

pub loop-i-preserved : goal.loop-i-preserved
loop-i-preserved g c = (
  refl,
  omega arith,
  sum_more (child_count _ _) _ _ _ _ c.loop-i.invariant.2 c.child_count.ensures c.capped-sum.ensures,
)

pub returns : goal.returns
returns g c =
    let l = c.loop-i in
    let a = c.args in
    let e : l.i ≡ a.nodes.count = omega (arith, l.invariant.0, l.invariant.1, c.loop-i-test.false) in
    l.invariant.2 ∙ ap (λ (n : ℕ). min (sum_below n (child_count (g.W.Words.said a.words) a.nodes)) entry_cap) e

pub child_count-requires : goal.child_count-requires
child_count-requires g c = (c.requires, omega arith)
