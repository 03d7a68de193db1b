-- The lines of the first t joints are counted.
use mathlib.Core.Path.{◌≡◌, refl, subst}
use Prim.Native.Nat.{ℕ}
use native.Mathlib.Omega.{arith}
use borrow.Author.Rules.{rules}
use lib.ListN.{length}
use Rattle.skin_roots.specs.Lines.{Leading}
use Rattle.skin_roots.proofs.Leads.{leading-next, joint-inside}
use Rattle.skin_roots.proofs.lines.count_lines.Goals as goal

pub loop-t-init : goal.loop-t-init
loop-t-init c = (omega arith, c.requires.1, refl)

pub count_line-requires : goal.count_line-requires
count_line-requires c =
    let l = c.loop-t in
    let j = joint-inside (length c.args.codes.now) c.args.joints.now l.t l.invariant.1.nodes c.loop-t-test.true in
    (c.requires.0, omega (arith, j, c.requires.0), omega (arith, c.loop-t-test.true))

pub loop-t-preserved : goal.loop-t-preserved
loop-t-preserved c =
    let a = c.args in
    let l = c.loop-t in
    (omega arith, leading-next a.codes.now a.joints.now l.t l.counts _ c.loop-t-test.true l.invariant.1 c.count_line.ensures, search rules)

pub returns : goal.returns
returns c =
    let a = c.args in
    let l = c.loop-t in
    let e : l.t ≡ length a.joints.now = omega (arith, l.invariant.0, c.loop-t-test.false) in
    subst (λ (t : ℕ). Leading a.codes.now a.joints.now t l.counts) e l.invariant.1
