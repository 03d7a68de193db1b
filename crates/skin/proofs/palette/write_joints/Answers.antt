-- The matrices of the first t joints are written.
use mathlib.Core.Path.{refl, sym, ap, ◌∙◌, subst}
use mathlib.Core.List.{List, ◌++◌}
use Prim.Native.Nat.{ℕ, ◌+◌, ◌*◌}
use native.Mathlib.Omega.{arith}
use borrow.Author.Rules.{rules}
use lib.Ieee.{Float}
use lib.ListN.{drop}
use Rattle.model.proofs.RowLaws.{flat}
use Rattle.skin.specs.Palette.{palette_in}
use Rattle.skin.proofs.Rows.{Written, start, next, all, palette-length, palette-rows, joint-at}
use Rattle.skin.proofs.palette.write_joints.Goals as goal

pub loop-t-init : goal.loop-t-init
loop-t-init c =
    let a = c.args in
    (start _ a.out.now (palette-rows a.joints.now a.binds.now a.worlds.now) (omega (arith, palette-length a.joints.now a.binds.now a.worlds.now, c.requires)), refl)

pub loop-t-preserved : goal.loop-t-preserved
loop-t-preserved c =
    let a = c.args in
    let l = c.loop-t in
    let p = palette_in a.joints.now a.binds.now a.worlds.now in
    let n = palette-length a.joints.now a.binds.now a.worlds.now in
    let t = c.loop-t-test.true in
    let m = c.joint_matrix-m.ensures ∙ sym (joint-at a.joints.now a.binds.now a.worlds.now l.t t) in
    let k = c.store in (
      subst (λ (o : List Float). Written p a.out.now o (l.t + 1)) (sym k.ensures.slice)
          (next p a.out.now (palette-rows _ _ _) (omega (arith, n, c.requires)) l.out l.t _ l.invariant.0 (omega (arith, n, t)) m),
      search rules,
    )

pub returns : goal.returns
returns c =
    let a = c.args in
    let l = c.loop-t in
    let p = palette_in a.joints.now a.binds.now a.worlds.now in
    let n = palette-length a.joints.now a.binds.now a.worlds.now in
    all p a.out.now (palette-rows _ _ _) (omega (arith, n, c.requires)) l.out l.t l.invariant.0 (omega (arith, n, c.loop-t-test.false))
    ∙ ap (λ (k : ℕ). flat p ++ drop (k * 16) a.out.now) n
