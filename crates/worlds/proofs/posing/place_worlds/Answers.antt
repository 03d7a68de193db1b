-- The worlds of the first k nodes of the order are written.
use mathlib.Core.Path.{refl, sym, ap, ◌∙◌}
use mathlib.Core.List.{List}
use Prim.Native.Nat.{ℕ, ◌*◌}
use native.Mathlib.Omega.{arith}
use lib.ListN.{get_or}
use lib.Seq.{paste, take_all}
use Rattle.model.specs.Lists.{pick, foldl}
use Rattle.model.specs.Matrix.{mul}
use Rattle.model.proofs.ListLaws.{foldl-more}
use Rattle.scene.specs.Slots.{fits_at}
use Rattle.worlds.specs.Slots.{above_in, placed_in}
use Rattle.tables.specs.Decoded.{lent_of}
use Rattle.worlds.specs.Posed.{local_of}
use Rattle.worlds.proofs.posing.place_worlds.Goals as goal

pub loop-k-init : goal.loop-k-init
unfolding foldl
loop-k-init c = (omega arith, (refl, refl, refl), (refl, refl, refl))

pub loop-k-preserved : goal.loop-k-preserved
loop-k-preserved c =
    let a = c.args in
    let l = c.loop-k in
    let local = local_of (lent_of a.lent) a.marks.now a.slots.now in
    let id = get_or a.order.now l.k 0 in
    let w = l.room.worlds.now in
    let kept = l.invariant.2 in
    let code = c.code_at-code.ensures ∙ ap (λ (p : List ℕ). get_or p id 0) kept.1 in
    let one = c.place_one.ensures ∙ (λ j. pick (fits_at w (id * 16)) (paste w (id * 16) (mul (above_in w (code j)) (c.local_matrix-local.ensures j)) 16) w) in
    let all = one ∙ ap (λ v. placed_in local a.room.now.places.now v id) kept.2 ∙ sym (foldl-more (placed_in local a.room.now.places.now) _ a.order.now l.k 0 (omega arith)) in
    (omega arith, l.invariant.1, (kept.0, kept.1, all))

pub returns-clause-worlds_alone : goal.returns-clause-worlds_alone
returns-clause-worlds_alone c =
    let a = c.args in
    let l = c.loop-k in
    let local = local_of (lent_of a.lent) a.marks.now a.slots.now in
    let kept = l.invariant.2 in (
      kept.0,
      kept.1,
      kept.2 ∙ ap (foldl (placed_in local a.room.now.places.now) a.room.now.worlds.now) (take_all l.k a.order.now (omega (arith, c.loop-k-test.false))),
    )
