use mathlib.Core.Path.{◌≡◌, refl, ap, ◌∙◌}
use Prim.Native.Nat.{ℕ}
use native.Mathlib.Omega.{arith}
use borrow.Author.Rules.{rules}
use Rattle.pose_slots.specs.Slots.{pose_of}
use Rattle.pose.specs.Encoded.{rows_of, cleared_words, cleared_floats}
use Rattle.pose.proofs.ClearLaws.{clear-words, clear-floats}
use Rattle.pose.proofs.sampler.clear.Goals as goal

pub loop-i-init : goal.loop-i-init
unfolding rows_of
loop-i-init c = (search rules, refl, refl, refl, refl)

pub store_pose-requires : goal.store_pose-requires
store_pose-requires c = omega arith

pub loop-i-preserved : goal.loop-i-preserved
loop-i-preserved c =
    let a = c.args in (
      omega arith,
      search rules,
      search rules,
      clear-words c.loop-i.i _ (ap pose_of c.at_rest.ensures) a.marks.now _ _ c.loop-i.invariant.3 c.store_pose.ensures.0,
      clear-floats c.loop-i.i _ (ap pose_of c.at_rest.ensures) a.slots.now _ _ c.loop-i.invariant.4 c.store_pose.ensures.1,
    )

pub returns : goal.returns
returns c =
    let l = c.loop-i in
    let a = c.args in
    let e : l.i ≡ a.n = omega arith in
    (l.invariant.3 ∙ ap (λ (n : ℕ). cleared_words n a.marks.now) e, l.invariant.4 ∙ ap (λ (n : ℕ). cleared_floats n a.slots.now) e)
