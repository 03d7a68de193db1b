use mathlib.Core.Path.{◌≡◌, refl, ◌∙◌}
use Prim.Native.Nat.{◌/◌}
use lib.Ieee.{binary32, of_bits}
use lib.ListN.{length}
use Rattle.refusals.specs.Drawn.{number_drawn}
use Rattle.refusals.proofs.Told.{not-none, passed-on}
use Rattle.bake_stages.specs.Scratch.{slices_in, room_of}
use Rattle.bake.specs.Baked.{Room}
use Rattle.lent_bytes.specs.Bytes.{slices_of, Decoding, room_number, lent_by, drawn_by}
use Rattle.byte_checks.specs.Numbers.{first_in}
use Rattle.byte_checks.proofs.JudgedLaws.{first-number}
use Rattle.byte_baking.specs.Output.{output_of}
use Rattle.byte_bake.proofs.BytesLaws.{refused-bytes, long-enough, baked-bytes, same-time}
use Rattle.byte_bake.proofs.scenes.bake_bytes.Goals as goal

pub returns-in_err-check_first-clause-baked : goal.returns-in_err-check_first-clause-baked
returns-in_err-check_first-clause-baked c =
    let a = c.args in
    let l = a.lent in
    let t = of_bits binary32 a.time in
    let b = slices_of l in
    let d : Decoding = record { words = a.word_room.now; floats = a.float_room.now } in
    let r : Room = record {
      scratch = slices_in a.marks.now a.slots.now a.room.now;
      output = record { positions = a.positions.now; normals = a.normals.now; tangents = a.tangents.now };
    } in
    let o = output_of a.bytes.now in
    let drawn : number_drawn c.check_room-drawn.result ≡ drawn_by b d
    = c.check_room-drawn.ensures ∙ (λ j. room_number (length b.words / 4) (c.count_of-count.ensures j) d) in
    let e = c.in_err-check_first.field-0.0 in
    let n = first-number _ _ _ _ a.node _ c.in_err-check_first.ensures
    ∙ (λ j. first_in (drawn j) (lent_by b l.header) a.node (c.from_bits-time.ensures j) (c.space_in-space.ensures j)) in
    rw (passed-on _ e c.from_residual.ensures.1) (refused-bytes b l.header a.node t d r o _ n (not-none e))

pub bake_decoded-requires : goal.bake_decoded-requires
bake_decoded-requires c =
    let a = c.args in
    let l = a.lent in
    let t = of_bits binary32 a.time in
    let b = slices_of l in
    let d : Decoding = record { words = a.word_room.now; floats = a.float_room.now } in
    let r : Room = record {
      scratch = slices_in a.marks.now a.slots.now a.room.now;
      output = record { positions = a.positions.now; normals = a.normals.now; tangents = a.tangents.now };
    } in
    let o = output_of a.bytes.now in
    let drawn : number_drawn c.check_room-drawn.result ≡ drawn_by b d
    = c.check_room-drawn.ensures ∙ (λ j. room_number (length b.words / 4) (c.count_of-count.ensures j) d) in
    let n : 0 ≡ first_in (drawn_by b d) (lent_by b l.header) a.node t (room_of r.scratch)
    = first-number _ _ _ _ a.node _ c.in_ok-check_first.ensures
    ∙ (λ j. first_in (drawn j) (lent_by b l.header) a.node (c.from_bits-time.ensures j) (c.space_in-space.ensures j)) in
    long-enough b l.header a.node t d (record { from = r; to = r }) (record { from = o; to = o }) 0 n refl

pub returns-clause-baked : goal.returns-clause-baked
returns-clause-baked c =
    let a = c.args in
    let l = a.lent in
    let t = of_bits binary32 a.time in
    let b = slices_of l in
    let d : Decoding = record { words = a.word_room.now; floats = a.float_room.now } in
    let r : Room = record {
      scratch = slices_in a.marks.now a.slots.now a.room.now;
      output = record { positions = a.positions.now; normals = a.normals.now; tangents = a.tangents.now };
    } in
    let o = output_of a.bytes.now in
    let drawn : number_drawn c.check_room-drawn.result ≡ drawn_by b d
    = c.check_room-drawn.ensures ∙ (λ j. room_number (length b.words / 4) (c.count_of-count.ensures j) d) in
    let n : 0 ≡ first_in (drawn_by b d) (lent_by b l.header) a.node t (room_of r.scratch)
    = first-number _ _ _ _ a.node _ c.in_ok-check_first.ensures
    ∙ (λ j. first_in (drawn j) (lent_by b l.header) a.node (c.from_bits-time.ensures j) (c.space_in-space.ensures j)) in
    baked-bytes b l.header a.node t d _ _ 0 n refl _ _ c.bake_decoded.ensures.float_room_value
    (same-time c.from_bits-time.ensures c.bake_decoded.ensures.baked_in)
