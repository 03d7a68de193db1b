-- The first k targets are added.
use mathlib.Core.Path.{◌≡◌, sym, ap, ◌∙◌, subst}
use Prim.Native.Nat.{ℕ, ◌+◌}
use native.Mathlib.Omega.{arith}
use borrow.Author.Rules.{rules}
use lib.Ieee.{nan}
use lib.ListN.{length, get_or, take}
use Rattle.model.specs.Scene.{Target, Primitive}
use Rattle.model.specs.Morph.{with_target, with_targets}
use Rattle.model.specs.Attributes.{attributes_in, shape_of, Reshaped}
use Rattle.model.proofs.ListLaws.{length-tabulate, get_d_tabulate}
use Rattle.tables.specs.Records.{target_row}
use Rattle.tables.specs.Decoded.{target_of}
use Rattle.deltas.specs.Deltas.{lent_in}
use Rattle.mesh.specs.Lent.{targets_in}
use Rattle.mesh.proofs.Sizes.{lent_rows}
use Rattle.mesh.proofs.Morphing.{Morphed, more-targets, all-targets, morphed-start, morphed-more, morphed-end}
use Rattle.mesh.proofs.morphed.Goals as goal

pub loop-k-init : goal.loop-k-init
unfolding with_targets
loop-k-init c = let a = c.args in (omega arith, search rules, morphed-start a.out.now.positions.now a.out.now.normals.now a.out.now.tangents.now)

pub loop-k-preserved : goal.loop-k-preserved
loop-k-preserved c =
    let a = c.args in
    let l = c.loop-k in
    let m = c.min-n.ensures in
    let lent = attributes_in a.out.now.positions.now a.out.now.normals.now a.out.now.tangents.now in
    let ts = targets_in a.lent.words.now a.lent.floats.now a.lent.header a.targets in
    let t : ℕ → Target = λ k. target_of (lent_in a.lent.words.now a.lent.floats.now a.lent.header) (target_row a.lent.words.now a.lent.header.meshes.targets (a.targets.at + k)) in
    let w = get_or a.weights.now l.k nan in
    let n : length ts ≡ a.targets.count = length-tabulate a.targets.count t in
    let p = with_targets (take l.k ts) (take l.k a.weights.now) lent in
    let e : with_target p (t l.k) w ≡ with_targets (take (l.k + 1) ts) (take (l.k + 1) a.weights.now) lent
    = ap (λ (x : Target). with_target p x w) (sym (get_d_tabulate a.targets.count t l.k (t 0) (omega arith))) ∙ sym (more-targets (t 0) nan ts a.weights.now l.k lent (omega arith) (omega arith)) in (
      omega arith,
      search rules,
      subst (λ (q : Primitive). Morphed q a.out.now.positions.now c.add_numbered.new.out.positions.now a.out.now.normals.now c.add_numbered.new.out.normals.now a.out.now.tangents.now c.add_numbered.new.out.tangents.now) e
          (morphed-more p a.out.now.positions.now l.out.positions.now c.add_numbered.new.out.positions.now a.out.now.normals.now l.out.normals.now c.add_numbered.new.out.normals.now a.out.now.tangents.now l.out.tangents.now c.add_numbered.new.out.tangents.now (t l.k) w
          (lent_rows (lent_in a.lent.words.now a.lent.floats.now a.lent.header) (target_row a.lent.words.now a.lent.header.meshes.targets (a.targets.at + l.k))) l.invariant.2 c.add_numbered.ensures.moved),
    )

pub returns-clause-moved : goal.returns-clause-moved
returns-clause-moved c =
    let a = c.args in
    let l = c.loop-k in
    let m = c.min-n.ensures in
    let lent = attributes_in a.out.now.positions.now a.out.now.normals.now a.out.now.tangents.now in
    let ts = targets_in a.lent.words.now a.lent.floats.now a.lent.header a.targets in
    let n : length ts ≡ a.targets.count = length-tabulate a.targets.count _ in
    subst (λ (q : Primitive). Reshaped (shape_of q) a.out.now.positions.now l.out.positions.now a.out.now.normals.now l.out.normals.now a.out.now.tangents.now l.out.tangents.now)
    (all-targets ts a.weights.now l.k lent (omega arith))
    (morphed-end _ a.out.now.positions.now l.out.positions.now a.out.now.normals.now l.out.normals.now a.out.now.tangents.now l.out.tangents.now l.invariant.2)
