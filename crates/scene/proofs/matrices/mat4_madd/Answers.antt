use mathlib.Core.Path.{refl, sym}
use native.Mathlib.Omega.{arith}
use borrow.Author.Rules.{rules}
use lib.Ieee.{nan}
use Rattle.model.specs.Vector.{◌⊙◌, ◌⊞◌}
use Rattle.scene.proofs.Arrays.{next, full}
use Rattle.scene.proofs.Products.{length-madd, madd-entry}
use Rattle.scene.proofs.matrices.mat4_madd.Goals as goal

pub loop-k-preserved : goal.loop-k-preserved
loop-k-preserved c =
    let l = c.loop-k in
    let s = c.args in
    let i = l.invariant in (
      search rules,
      search rules,
      i.2,
      i.3,
      next (s.m.m ⊞ s.w ⊙ s.n.m) l.out l.k _ nan (omega arith) (omega (arith, length-madd s.m.m s.w s.n.m i.2 i.3)) i.4
          (sym (madd-entry s.m.m s.w s.n.m i.2 i.3 l.k (omega arith))),
    )

pub returns : goal.returns
returns c =
    let l = c.loop-k in
    let s = c.args in
    let i = l.invariant in
    full (s.m.m ⊞ s.w ⊙ s.n.m) l.out l.k (omega arith) (omega (arith, length-madd s.m.m s.w s.n.m i.2 i.3)) i.4

pub loop-k-init : goal.loop-k-init
loop-k-init c = (search rules, search rules, search rules, search rules, refl)
