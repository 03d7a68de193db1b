-- What is left of the line is still to count.
use mathlib.Core.Path.{refl, sym, ap, ◌∙◌}
use native.Mathlib.Omega.{arith}
use borrow.Author.Rules.{rules}
use Rattle.model.specs.Lists.{foldl}
use Rattle.skin_roots.specs.Lines.{count_one}
use Rattle.skin_roots.proofs.Upward.{line-start, goes_on, fold_step, fold_end}
use Rattle.skin_roots.proofs.lines.count_line.Goals as goal

pub loop-code-init : goal.loop-code-init
loop-code-init c =
    let a = c.args in
    (ap (foldl (count_one a.t) a.counts.now) (line-start a.codes.now a.joint), (λ h. omega arith), refl)

pub count_one-requires : goal.count_one-requires
count_one-requires c = c.requires.2

pub overflow_sub-left : goal.overflow_sub-left
overflow_sub-left c = omega (arith, c.loop-code.invariant.1 c.loop-code-test.true)

pub loop-code-smaller : goal.loop-code-smaller
loop-code-smaller c = omega (arith, c.loop-code.invariant.1 c.loop-code-test.true)

pub loop-code-preserved : goal.loop-code-preserved
loop-code-preserved c =
    let a = c.args in
    let l = c.loop-code in
    let h = c.loop-code-test.true in
    let codes = a.codes.now in (
      l.invariant.0
          ∙ fold_step codes (count_one a.t) l.left l.code _ _ l.counts _ (l.invariant.1 h) h refl c.above-code.ensures c.count_one.ensures,
      goes_on codes _ _ _ c.above-code.ensures,
      search rules,
    )

pub returns : goal.returns
returns c =
    let a = c.args in
    let l = c.loop-code in
    sym (l.invariant.0 ∙ fold_end a.codes.now (count_one a.t) l.left l.code l.counts (omega (arith, c.loop-code-test.false)))
