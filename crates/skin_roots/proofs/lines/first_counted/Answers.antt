-- What is left of the line is still to search.
use mathlib.Core.Path.{refl, sym, ap, ◌∙◌}
use mathlib.Core.Bool.{Bool}
use mathlib.Core.List.{List}
use Prim.Native.Nat.{ℕ, ◌-◌}
use native.Mathlib.Omega.{arith}
use lib.Dec.{eqb}
use lib.ListN.{get_or}
use Rattle.model.specs.Lists.{first_that}
use Rattle.skin_roots.proofs.Upward.{line-start, goes_on, first_found, first-passed, first-none}
use Rattle.skin_roots.proofs.lines.first_counted.Goals as goal

-- the test of a node
passes : List ℕ → ℕ → ℕ → Bool
passes counts m a = eqb (get_or counts a 0) m

pub loop-code-init : goal.loop-code-init
unfolding passes
loop-code-init c =
    (ap (first_that (passes c.args.counts.now c.args.m)) (line-start c.args.codes.now c.args.joint), (λ h. omega arith))

pub returns-then-stands_at : goal.returns-then-stands_at
unfolding passes
returns-then-stands_at c =
    let l = c.loop-code in
    let h = c.loop-code-test.true in
    sym (l.invariant.0 ∙ first_found c.args.codes.now (passes c.args.counts.now c.args.m) l.left l.code (l.code - 3) (l.invariant.1 h) h refl (sym c.stands_at.ensures ∙ c.if-stands_at.true))

pub overflow_sub-left : goal.overflow_sub-left
overflow_sub-left c = omega (arith, c.loop-code.invariant.1 c.loop-code-test.true)

pub loop-code-smaller : goal.loop-code-smaller
loop-code-smaller c = omega (arith, c.loop-code.invariant.1 c.loop-code-test.true)

pub loop-code-preserved : goal.loop-code-preserved
unfolding passes
loop-code-preserved c =
    let l = c.loop-code in
    let h = c.loop-code-test.true in
    let codes = c.args.codes.now in (
      l.invariant.0
          ∙ first-passed codes (passes c.args.counts.now c.args.m) l.left l.code (l.code - 3) _ (l.invariant.1 h) h refl c.above-code.ensures (sym c.stands_at.ensures ∙ c.if-stands_at.false),
      goes_on codes _ _ _ c.above-code.ensures,
    )

pub returns : goal.returns
unfolding passes
returns c =
    let l = c.loop-code in
    sym (l.invariant.0 ∙ first-none c.args.codes.now (passes c.args.counts.now c.args.m) l.left l.code (omega (arith, c.loop-code-test.false)))
