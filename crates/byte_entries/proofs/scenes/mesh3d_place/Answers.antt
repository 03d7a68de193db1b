use mathlib.Core.Path.{◌≡◌, refl, ◌∙◌}
use Prim.Native.Nat.{◌/◌, min}
use lib.ListN.{length}
use Rattle.refusals.specs.Drawn.{number_drawn}
use Rattle.refusals.proofs.Told.{not-none}
use Rattle.lent_bytes.specs.Bytes.{SceneBytes, Decoding, room_number, lent_by, drawn_by}
use Rattle.byte_checks.specs.Numbers.{place_in}
use Rattle.byte_checks.proofs.JudgedLaws.{place-number}
use Rattle.byte_placing.specs.Placed.{Room, scratch_in}
use Rattle.byte_entries.proofs.BytesLaws.{refused-bytes, long-enough, placed-bytes}
use Rattle.byte_entries.proofs.scenes.mesh3d_place.Goals as goal

pub returns-in-Err : goal.returns-in-Err
returns-in-Err c =
    let a = c.args in
    let b : SceneBytes = record { words = a.words.now; floats = a.floats.now; node_weights = a.node_weights.now; mesh_weights = a.mesh_weights.now } in
    let d : Decoding = record { words = a.word_room.now; floats = a.float_room.now } in
    let r : Room = record { walk = a.walk.now; codes = a.codes.now; matrices = a.matrices.now; places = a.places.now; worlds = a.worlds.now } in
    let drawn : number_drawn c.check_room-drawn.result ≡ drawn_by b d
    = c.check_room-drawn.ensures ∙ (λ j. room_number (length b.words / 4) (c.count_of-count.ensures j) d) in
    let n = place-number _ _ _ _ c.in-Err.ensures ∙ (λ j. place_in (drawn j) (lent_by b a.header) (record {
      walk_room = length r.walk / 2;
      pose_slots = c.min.ensures j;
      world_slots = (c.min-2.ensures ∙ (λ k. min (c.min-number_slots.ensures k) (c.min-world_slots.ensures k / 16))) j;
    })) in
    rw c.from.ensures (refused-bytes b a.header a.marks.now a.slots.now d _ r n (not-none c.in-Err.e))

pub place_decoded-requires : goal.place_decoded-requires
place_decoded-requires c =
    let a = c.args in
    let b : SceneBytes = record { words = a.words.now; floats = a.floats.now; node_weights = a.node_weights.now; mesh_weights = a.mesh_weights.now } in
    let d : Decoding = record { words = a.word_room.now; floats = a.float_room.now } in
    let r : Room = record { walk = a.walk.now; codes = a.codes.now; matrices = a.matrices.now; places = a.places.now; worlds = a.worlds.now } in
    let drawn : number_drawn c.check_room-drawn.result ≡ drawn_by b d
    = c.check_room-drawn.ensures ∙ (λ j. room_number (length b.words / 4) (c.count_of-count.ensures j) d) in
    let n : 0 ≡ place_in (drawn_by b d) (lent_by b a.header) (scratch_in a.marks.now a.slots.now r)
    = place-number _ _ _ _ c.in_default.ensures ∙ (λ j. place_in (drawn j) (lent_by b a.header) (record {
      walk_room = length r.walk / 2;
      pose_slots = c.min.ensures j;
      world_slots = (c.min-2.ensures ∙ (λ k. min (c.min-number_slots.ensures k) (c.min-world_slots.ensures k / 16))) j;
    })) in
    long-enough b a.header a.marks.now a.slots.now d 0 (record { from = r; to = r }) n refl

pub returns : goal.returns
returns c =
    let a = c.args in
    let b : SceneBytes = record { words = a.words.now; floats = a.floats.now; node_weights = a.node_weights.now; mesh_weights = a.mesh_weights.now } in
    let d : Decoding = record { words = a.word_room.now; floats = a.float_room.now } in
    let r : Room = record { walk = a.walk.now; codes = a.codes.now; matrices = a.matrices.now; places = a.places.now; worlds = a.worlds.now } in
    let drawn : number_drawn c.check_room-drawn.result ≡ drawn_by b d
    = c.check_room-drawn.ensures ∙ (λ j. room_number (length b.words / 4) (c.count_of-count.ensures j) d) in
    let n : 0 ≡ place_in (drawn_by b d) (lent_by b a.header) (scratch_in a.marks.now a.slots.now r)
    = place-number _ _ _ _ c.in_default.ensures ∙ (λ j. place_in (drawn j) (lent_by b a.header) (record {
      walk_room = length r.walk / 2;
      pose_slots = c.min.ensures j;
      world_slots = (c.min-2.ensures ∙ (λ k. min (c.min-number_slots.ensures k) (c.min-world_slots.ensures k / 16))) j;
    })) in
    rw c.from-2.ensures (placed-bytes b a.header a.marks.now a.slots.now d 0 _ n refl _ _ c.place_decoded.ensures.float_room_value
    c.place_decoded.ensures.placed_in)
