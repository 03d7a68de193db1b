use mathlib.Core.Path.{sym, ap, ◌∙◌, subst}
use Prim.Native.Nat.{ℕ}
use Rattle.std.proofs.Common.{Result}
use Rattle.refusals.specs.declared.Refusal.{Refusal}
use Rattle.refusals.proofs.Told.{not-none, passed-on}
use Rattle.tables.specs.Decoded.{lent_of}
use Rattle.worlds.specs.Placed.{place_number_for, answer_of, Placed}
use Rattle.worlds.proofs.Delivering.{refused, few, walk-room, world-room, accepted}
use Rattle.worlds.proofs.posed_node_transforms.Goals as goal

pub returns-in_err-check_place-clause-placed : goal.returns-in_err-check_place-clause-placed
returns-in_err-check_place-clause-placed c =
    let a = c.args in
    let l = lent_of a.lent in
    let r = a.room.now in
    let e = c.in_err-check_place.field-0.0 in
    subst (λ (o : Result ℕ Refusal). Placed l a.marks.now a.slots.now r.walk.now r.walk.now r.places.now r.places.now r.worlds.now r.worlds.now (answer_of o))
    (sym (passed-on _ e c.from_residual.ensures.1))
    (refused l a.marks.now a.slots.now r.walk.now r.places.now r.worlds.now _ (c.in_err-check_place.ensures ∙ ap (place_number_for l) c.space_in.ensures) (not-none e))

pub place_all-taken-requires : goal.place_all-taken-requires
place_all-taken-requires c =
    let a = c.args in
    let l = lent_of a.lent in
    let r = a.room.now in
    let z = sym (c.in_ok-check_place.ensures ∙ ap (place_number_for l) c.space_in.ensures) in
    let n = few l a.marks.now a.slots.now r.walk.now r.places.now r.worlds.now z in
    record {
      few = n.0;
      codes = n.1;
      walk = walk-room l a.marks.now a.slots.now r.walk.now r.places.now r.worlds.now z;
      worlds = world-room l a.marks.now a.slots.now r.walk.now r.places.now r.worlds.now z;
    }

pub returns-clause-placed : goal.returns-clause-placed
returns-clause-placed c =
    let a = c.args in
    let r = a.room.now in
    let l = lent_of a.lent in
    let z = sym (c.in_ok-check_place.ensures ∙ ap (place_number_for l) c.space_in.ensures) in
    accepted l a.marks.now a.slots.now r.walk.now r.places.now r.worlds.now z _ _ _ _ c.place_all-taken.ensures.run
