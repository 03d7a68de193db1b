-- What is written of an answer to lent bytes. Assumes nothing.
use mathlib.Core.Path.{◌≡◌, refl, sym, ap, ◌∙◌, subst}
use mathlib.Core.Bool.{Bool, true, false, not, ◌&&◌}
use mathlib.Core.List.{List, ◌++◌}
use Prim.Native.Nat.{ℕ, ◌*◌, ◌/◌, ◌≤◌, min}
use native.Mathlib.Omega.{arith}
use lib.Ieee.{Float, binary32, of_bits}
use lib.ListN.{length, take, drop}
use lib.Seq.{length-take-le}
use Rattle.model.specs.Limits.{weight_limit}
use Rattle.model.specs.Scene as scene
use Rattle.model.specs.Refusals.{track_over_limit}
use Rattle.model.specs.Calls.{Sampled, sampled}
use Rattle.wire.specs.Bytes.{floats_in, bytes_of, written_as, WroteBytes}
use Rattle.wire.proofs.Reading.{count}
use Rattle.wire.proofs.Writing.{all-written}
use Rattle.scene.specs.Values.{vec3, quat}
use Rattle.scene.specs.declared.Vec3.{Vec3}
use Rattle.scene.specs.declared.Quat.{Quat}
use Rattle.animation.specs.Values.{answer_of}
use Rattle.tracks.specs.Tracks.{keys_fit, values_fit}
use Rattle.tracks.specs.declared.Track.{Track}
use Rattle.std.proofs.Common.{Result, Ok, Err}
use Rattle.refusals.specs.declared.Refusal.{Refusal}
use Rattle.refusals.specs.declared.Refusal.TheVariants.{OverLimit}
use Rattle.refusals.specs.Drawn.{number_of, number_drawn}
use Rattle.animation.specs.declared.SampledValue.{SampledValue}
use Rattle.animation.specs.declared.SampledValue.TheVariants as sampled_value
use Rattle.tables.specs.declared.ChannelRow.{ChannelRow}
use Rattle.tables.specs.Tags.{track_for}
use Rattle.row_checks.specs.Bounds.{tags_known}
use Rattle.track_entries.specs.declared.floats.Told.{Told}
use Rattle.track_entries.specs.Bytes.{Decoded, sampled_with, sampled_in_bytes, sampled_for_bytes}
use Rattle.track_entries.specs.Bytes.{DeliveredBytes, DeliveredWithRoom}
use Rattle.track_entries.proofs.Decoding.{two-stands, bytes-draw, refused}
use Rattle.track_entries.proofs.Naming.{by_name, without-name}
use Rattle.track_entries.proofs.Rooms.{Alike, weights-fit, sampled-alike}

-- ---- an answer, by its variant

counted : (weights : List Float) (a : Result SampledValue Refusal) (m : ℕ) → a ≡ Ok (sampled_value.Scalar m)
    → (answer_of a weights).weights ≡ m
counted weights a m e = ap (λ (x : Result SampledValue Refusal). (answer_of x weights).weights) e

pub weights-inside : (weights : List Float) (a : Result SampledValue Refusal) (m : ℕ) → a ≡ Ok (sampled_value.Scalar m)
    → (answer_of a weights).weights ≤ length weights → m ≤ length weights
weights-inside weights a m e h = omega (arith, counted weights a m e)

module _ (weights : List Float) (a : Result SampledValue Refusal) (lent_value lent_out : List ℕ) where
  from : (b : Result SampledValue Refusal) (left_value left_out : List ℕ) (told : Told) → a ≡ b
      → DeliveredBytes (answer_of b weights) lent_value left_value lent_out left_out told
      → DeliveredBytes (answer_of a weights) lent_value left_value lent_out left_out told
  from b left_value left_out told e d =
      subst (λ (x : Result SampledValue Refusal). DeliveredBytes (answer_of x weights) lent_value left_value lent_out left_out told)
      (sym e) d

  module _ (left : List ℕ) (n : ℕ) where
    pub wrote-vec3 : (v : Vec3) → a ≡ Ok (sampled_value.Vec3 v) → length lent_value ≡ 16
        → WroteBytes (vec3 v) lent_value left n
        → DeliveredBytes (answer_of a weights) lent_value left lent_out lent_out (record { number = 0; count = 0 })
    unfolding written_as
    wrote-vec3 v e l w =
        from (Ok (sampled_value.Vec3 v)) left lent_out _ e
        (record {
          number = refl;
          count = refl;
          value = (all-written (vec3 v) lent_value left n w (omega arith)).1;
          weights = refl;
        })

    pub wrote-quat : (q : Quat) → a ≡ Ok (sampled_value.Quat q) → length lent_value ≡ 16
        → WroteBytes (quat q) lent_value left n
        → DeliveredBytes (answer_of a weights) lent_value left lent_out lent_out (record { number = 0; count = 0 })
    unfolding written_as
    wrote-quat q e l w =
        from (Ok (sampled_value.Quat q)) left lent_out _ e
        (record {
          number = refl;
          count = refl;
          value = (all-written (quat q) lent_value left n w (omega arith)).1;
          weights = refl;
        })

    pub wrote-weights : (m : ℕ) → a ≡ Ok (sampled_value.Scalar m)
        → ((answer_of a weights).weights ≤ length weights) × (4 * (answer_of a weights).weights ≤ length lent_out)
        → WroteBytes (take m weights) lent_out left n
        → DeliveredBytes (answer_of a weights) lent_value lent_value lent_out left (record { number = 0; count = n })
    unfolding written_as
    wrote-weights m e fit w =
        let k = length-take-le m weights (weights-inside weights a m e fit.0) in
        let all = all-written (take m weights) lent_out left n w (omega (arith, counted weights a m e, fit.1, k)) in
        from (Ok (sampled_value.Scalar m)) lent_value left _ e
        (record {
          number = refl;
          count = all.0 ∙ k;
          value = refl;
          weights = all.1 ∙ ap (λ (i : ℕ). bytes_of (take m weights) ++ drop (4 * i) lent_out) k;
        })

  pub wrote_nothing : (r : Refusal) → a ≡ Err r
      → DeliveredBytes (answer_of a weights) lent_value lent_value lent_out lent_out (record { number = number_of r; count = 0 })
  unfolding written_as
  wrote_nothing r e =
      from (Err r) lent_value lent_out _ e
      (record { number = refl; count = refl; value = refl; weights = refl })

-- ---- the answer of a call

delivered-alike : (s r : Sampled) (lent_value left_value lent_out left_out : List ℕ) (told : Told) → Alike s r
    → DeliveredBytes r lent_value left_value lent_out left_out told
    → DeliveredBytes s lent_value left_value lent_out left_out told
delivered-alike s r lent_value left_value lent_out left_out told a d = record {
  number = d.number ∙ sym a.number;
  count = d.count ∙ sym a.weights;
  value = d.value ∙ ap (λ (v : List Float). bytes_of v ++ drop (4 * length v) lent_value) (sym a.value);
  weights = d.weights ∙ (λ j. bytes_of (sym a.written j) ++ drop (4 * sym a.weights j) lent_out);
}

-- a track that draws `first` before 10, sampled in a slice for as many weights as `out` has room for or a frame can
-- have
module _ (t : scene.Track) (time : Float) (first : ℕ) (within : first ≡ 0 → track_over_limit t ≡ false)
    (weights : List Float) (lent_out : List ℕ) (fits : length weights ≡ min (length lent_out / 4) weight_limit)
    (a : Result SampledValue Refusal) (left : List Float) (e : answer_of a left ≡ sampled first t time weights) where
  pub enough : length left ≡ length weights
      → ((answer_of a left).weights ≤ length left) × (4 * (answer_of a left).weights ≤ length lent_out)
  enough l =
      let told = ap (λ (s : Sampled). s.weights) e in
      let fit = weights-fit t time first weights in
      (omega (arith, told, fit), omega (arith, told, fit))

  pub as-sampled : (lent_value left_value left_out : List ℕ) (told : Told)
      → DeliveredBytes (answer_of a left) lent_value left_value lent_out left_out told
      → DeliveredBytes (sampled first t time (floats_in lent_out)) lent_value left_value lent_out left_out told
  as-sampled lent_value left_value left_out told d =
      delivered-alike _ _ lent_value left_value lent_out left_out told
      (sampled-alike t time first (floats_in lent_out) weights within
      (fits ∙ ap (λ (n : ℕ). min n weight_limit) (sym (count (of_bits binary32) lent_out))))
      (subst (λ (s : Sampled). DeliveredBytes s lent_value left_value lent_out left_out told) e d)

-- a track that was handed in as u, and is `row`, at a time that was handed in as a bit pattern
module _ (table : List ℕ) (row u : ChannelRow) (e : row ≡ u) (at : Float) (room : List Float)
    (lent_value lent_out : List ℕ) where
  abbrev inside : Bool
  inside = keys_fit (length table / 4) (track_for row) && values_fit (length table / 4) (track_for row)

  abbrev call : ℕ → scene.Track → Decoded
  call g tr = sampled_with g tr at (floats_in table) room (floats_in lent_out)

  pub as-handed : (not (tags_known row) && inside) ≡ false → (t : Track) → t ≡ track_for row
      → (time : Float) → time ≡ at → (left : List Float) (left_value left_out : List ℕ) (told : Told)
      → DeliveredWithRoom (sampled_in_bytes table t time room (floats_in lent_out)) left
      lent_value left_value lent_out left_out told
      → DeliveredWithRoom (sampled_for_bytes table u at room (floats_in lent_out)) left
      lent_value left_value lent_out left_out told
  as-handed h t f time p left left_value left_out told d =
      subst (λ (s : Decoded). DeliveredWithRoom s left lent_value left_value lent_out left_out told)
      (by_name call (floats_in table) row u e inside (bytes-draw table (track_for row)) h t f _
      (λ j. sampled_in_bytes table t (p j) room (floats_in lent_out)))
      d

  abbrev two : Told
  two = record { number = 2; count = 0 }

  pub not-handed : (not (tags_known row) && inside) ≡ true
      → DeliveredWithRoom (sampled_for_bytes table u at room (floats_in lent_out)) room lent_value lent_value lent_out lent_out
      two
  not-handed h =
      subst (λ (s : Decoded). DeliveredWithRoom s room lent_value lent_value lent_out lent_out two)
      (without-name call (floats_in table) row u e inside (bytes-draw table (track_for row)) h _
      (λ tr. refused tr at (floats_in table) room (floats_in lent_out) _ OverLimit (two-stands tr at _)))
      (record {
        answer = wrote_nothing (floats_in lent_out) (Err OverLimit) lent_value lent_out OverLimit refl;
        room = refl;
      })
