use mathlib.Core.Path.{◌≡◌, refl, ap, ◌∙◌}
use mathlib.Core.List.{List}
use Prim.Native.Nat.{ℕ, ◌+◌, ◌*◌, ◌≤◌, ◌<◌}
use lib.Ieee.{Float}
use lib.ListN.{length}
use Rattle.model.specs.Vector.{Vector}
use Rattle.model.specs.Scene as scene
use Rattle.model.specs.Scene.{vec3s, quats, scalars}
use Rattle.model.specs.Sampling.{centre, rows, stride, row_width, locate, value_at}
use Rattle.model.specs.Refusals.{sample_number}
use Rattle.model.specs.Calls.{delivered, sampled}
use Rattle.animation.specs.declared.Blend.{Blend}
use Rattle.tracks.specs.declared.Track.{Track}
use Rattle.tracks.specs.Values.{kind_of}
use Rattle.tracks.specs.Tracks.{track_in, table_number, stride_in}
use Rattle.animation.specs.SourceRows.{frames_from, from_rows, last_row, Gives}
use Rattle.animation.proofs.SampleCalls.{refused, accepted, stride-is, rows-there, frame-there}
use Rattle.animation.proofs.SampleCalls.{rows_inside, answered, room, weights-answered}
use Rattle.refusals.proofs.Told.{not-none, passed-on}
use Rattle.animation.specs.Values.{answer_of}
use Rattle.animation.proofs.sampler.sample.Goals as goal

pub returns-in_err-check_sample : goal.returns-in_err-check_sample
returns-in_err-check_sample c =
    let a = c.args in
    let r = c.in_err-check_sample.field-0.0 in
    ap (λ d. answer_of d a.out.now) (passed-on c.from_residual.result r c.from_residual.ensures.1)
    ∙ refused a.floats.now a.t a.time a.out.now _ c.in_err-check_sample.ensures (not-none r)

pub source_at-source-requires : goal.source_at-source-requires
source_at-source-requires c =
    let a = c.args in
    let h = accepted a.floats.now a.t a.time a.out.now _ c.in_ok-check_sample.ensures refl in
    (h.0, h.1, h.2, h.3)

-- the frame is found, and how its rows blend
module _ (floats : List Float) (t : Track) (time : Float) (lent : List Float)
    (numbered : 0 ≡ sample_number (table_number floats t) (track_in floats t) time (length lent))
    (frame : ℕ) (blend : Blend)
    (gives : Gives (track_in floats t) frame blend (value_at (track_in floats t) time (locate (track_in floats t).keys time)))
    (row : ℕ) (centred : row ≡ centre (track_in floats t).interpolation) where
  abbrev tr : scene.Track
  tr = track_in floats t

  nothing-drawn : table_number floats t ≡ 0
  nothing-drawn = (accepted floats t time lent 0 numbered refl).0

  -- a track of any kind, in rows of w numbers
  module _ (κ : scene.Kind) (told : tr.kind ≡ κ) (w : ℕ) (wide : w ≡ row_width κ (stride tr)) where
    there : (table_number floats t ≡ 0) × (frame < length tr.keys) × (rows tr * w ≤ length tr.values)
    there = (
      nothing-drawn,
      frame-there floats t time lent 0 numbered refl κ told w wide frame blend gives,
      rows-there floats t time lent 0 numbered refl κ told w wide,
    )

    module _ (frames : List Float) (same : frames ≡ frames_from tr w frame) where
      inside : last_row row blend * w + w ≤ length frames
      inside =
          rows_inside floats t time lent 0 numbered refl κ told w wide frame blend gives
          row centred frames same

      answer : (v : Vector) → v ≡ from_rows κ w row frames blend
          → delivered κ (stride tr) v lent ≡ sampled (table_number floats t) tr time lent
      answer =
          answered floats t time lent 0 numbered refl κ told w wide frame blend gives
          row centred frames same

  -- a scalar track, in the stride of the code
  wide-as : (m : ℕ) → m ≡ stride_in tr → m ≡ stride tr
  wide-as = stride-is floats t time lent 0 numbered refl

pub frames_from-requires : goal.frames_from-requires
frames_from-requires c =
    let a = c.args in
    there a.floats.now a.t a.time a.out.now c.in_ok-check_sample.ensures _ _ c.source_at-source.ensures _ c.centre-value_row.ensures.0 vec3s (ap kind_of c.in-Vec3.is) 3 refl

pub vec3_from-requires : goal.vec3_from-requires
vec3_from-requires c =
    let a = c.args in
    inside a.floats.now a.t a.time a.out.now c.in_ok-check_sample.ensures _ _ c.source_at-source.ensures _ c.centre-value_row.ensures.0 vec3s (ap kind_of c.in-Vec3.is) 3 refl _ c.frames_from.ensures

pub frames_from-requires-in-Quat : goal.frames_from-requires-in-Quat
frames_from-requires-in-Quat c =
    let a = c.args in
    there a.floats.now a.t a.time a.out.now c.in_ok-check_sample.ensures _ _ c.source_at-source.ensures _ c.centre-value_row.ensures.0 quats (ap kind_of c.in-Quat.is) 4 refl

pub quat_from-requires : goal.quat_from-requires
quat_from-requires c =
    let a = c.args in
    inside a.floats.now a.t a.time a.out.now c.in_ok-check_sample.ensures _ _ c.source_at-source.ensures _ c.centre-value_row.ensures.0 quats (ap kind_of c.in-Quat.is) 4 refl _ c.frames_from-in-Quat.ensures

pub stride_in-n-requires : goal.stride_in-n-requires
stride_in-n-requires c =
    let a = c.args in
    nothing-drawn a.floats.now a.t a.time a.out.now c.in_ok-check_sample.ensures _ _ c.source_at-source.ensures _ c.centre-value_row.ensures.0

pub frames_from-requires-in-Scalar : goal.frames_from-requires-in-Scalar
frames_from-requires-in-Scalar c =
    let a = c.args in
    there a.floats.now a.t a.time a.out.now c.in_ok-check_sample.ensures _ _ c.source_at-source.ensures _ c.centre-value_row.ensures.0 scalars (ap kind_of c.in-Scalar.is) _ (wide-as a.floats.now a.t a.time a.out.now c.in_ok-check_sample.ensures _ _ c.source_at-source.ensures _ c.centre-value_row.ensures.0 _ c.stride_in-n.ensures)

pub write_weights-requires : goal.write_weights-requires
write_weights-requires c =
    let a = c.args in
    let told = ap kind_of c.in-Scalar.is in
    let counted = c.stride_in-n.ensures in (
      inside a.floats.now a.t a.time a.out.now c.in_ok-check_sample.ensures _ _ c.source_at-source.ensures _ c.centre-value_row.ensures.0 scalars told _ (wide-as a.floats.now a.t a.time a.out.now c.in_ok-check_sample.ensures _ _ c.source_at-source.ensures _ c.centre-value_row.ensures.0 _ counted) _ c.frames_from-in-Scalar.ensures,
      room a.floats.now a.t a.time a.out.now _ c.in_ok-check_sample.ensures refl told _ counted,
    )

pub returns-in-Vec3 : goal.returns-in-Vec3
returns-in-Vec3 c =
    let a = c.args in
    answer a.floats.now a.t a.time a.out.now c.in_ok-check_sample.ensures _ _ c.source_at-source.ensures _ c.centre-value_row.ensures.0 vec3s (ap kind_of c.in-Vec3.is) 3 refl _ c.frames_from.ensures _ c.vec3_from.ensures

pub returns-in-Quat : goal.returns-in-Quat
returns-in-Quat c =
    let a = c.args in
    answer a.floats.now a.t a.time a.out.now c.in_ok-check_sample.ensures _ _ c.source_at-source.ensures _ c.centre-value_row.ensures.0 quats (ap kind_of c.in-Quat.is) 4 refl _ c.frames_from-in-Quat.ensures _ c.quat_from.ensures

pub returns-in-Scalar : goal.returns-in-Scalar
returns-in-Scalar c =
    let a = c.args in
    weights-answered a.floats.now a.t a.time a.out.now _ c.in_ok-check_sample.ensures refl (ap kind_of c.in-Scalar.is) _ c.stride_in-n.ensures _ _ c.source_at-source.ensures _
    c.centre-value_row.ensures.0 _ c.frames_from-in-Scalar.ensures _ c.write_weights.ensures
