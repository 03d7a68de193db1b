-- Tracks that are handed in by numbers, and what the calls on them answer. Assumes nothing.
use mathlib.Core.Path.{◌≡◌, refl, sym, ap, ◌∙◌}
use mathlib.Core.Bool.{Bool, true, false, not, ◌&&◌}
use mathlib.Core.List.{List, [], ◌∷◌, ◌++◌}
use Prim.Native.Nat.{ℕ}
use native.Mathlib.Omega.{arith}
use lib.Ieee.{Float, nan}
use lib.ListN.{length, set, drop}
use Rattle.model.specs.Scene as scene
use Rattle.model.specs.Refusals.{frame_number}
use Rattle.model.specs.Calls.{Sampled, frame_of, stride_of}
use Rattle.model.proofs.ListLaws.{entries_from, by_entries}
use Rattle.model.proofs.Numbers.{frame-drawn}
use Rattle.outputs.specs.Output.{CopiedOut}
use Rattle.outputs.proofs.Copying.{refused, copied-as}
use Rattle.scene.specs.Values.{vec3, quat}
use Rattle.scene.specs.declared.Vec3.{Vec3}
use Rattle.scene.specs.declared.Quat.{Quat}
use Rattle.animation.specs.Values.{answer_of}
use Rattle.tracks.specs.Tracks.{keys_fit, values_fit, track_in, table_number}
use Rattle.tracks.specs.declared.Track.{Track}
use Rattle.std.proofs.Common.{Result, Ok, Err}
use Rattle.refusals.specs.declared.Refusal.{Refusal}
use Rattle.refusals.specs.Drawn.{number_of, number_drawn}
use Rattle.animation.specs.declared.SampledValue.{SampledValue}
use Rattle.animation.specs.declared.SampledValue.TheVariants as sampled_value
use Rattle.tables.specs.declared.ChannelRow.{ChannelRow}
use Rattle.tables.specs.Tags.{track_for}
use Rattle.row_checks.specs.Bounds.{tags_known}
use Rattle.track_entries.specs.Tracks.{number_for, sampled_for, frame_in, frame_for, Delivered, Framed}
use Rattle.track_entries.proofs.Naming.{table-draws, by_name, without-name}

-- ---- an array of four with a value at its start
module _ (lent : List Float) (h : length lent ≡ 4) (x y z : Float) where
  pub over-three : set (set (set lent 0 x) 1 y) 2 z ≡ x ∷ y ∷ z ∷ drop 3 lent
  unfolding entries_from
  over-three =
      ap (λ (l : List Float). set (set (set l 0 x) 1 y) 2 z) (by_entries nan lent 4 h)
      ∙ ap (λ (l : List Float). x ∷ y ∷ z ∷ drop 3 l) (sym (by_entries nan lent 4 h))

  pub over-four : (w : Float) → set (set (set (set lent 0 x) 1 y) 2 z) 3 w ≡ x ∷ y ∷ z ∷ w ∷ drop 4 lent
  unfolding entries_from
  over-four w =
      ap (λ (l : List Float). set (set (set (set l 0 x) 1 y) 2 z) 3 w) (by_entries nan lent 4 h)
      ∙ ap (λ (l : List Float). x ∷ y ∷ z ∷ w ∷ drop 4 l) (sym (by_entries nan lent 4 h))

-- what is told and left is what was sampled
module _ (s : Sampled) (lent slice : List Float) (a : Result SampledValue Refusal) (e : answer_of a slice ≡ s) where
  left : (b : Result SampledValue Refusal) (array : List Float) → a ≡ b
      → array ≡ (answer_of b slice).value ++ drop (length (answer_of b slice).value) lent
      → Delivered s lent array (answer_of b slice).slice
      (record { number = (answer_of b slice).number; count = (answer_of b slice).weights })
  left b array f p =
      let g : answer_of b slice ≡ s = ap (λ (x : Result SampledValue Refusal). answer_of x slice) (sym f) ∙ e in
      record {
        number = ap (λ (x : Sampled). x.number) g;
        count = ap (λ (x : Sampled). x.weights) g;
        value = p ∙ ap (λ (x : Sampled). x.value ++ drop (length x.value) lent) g;
        weights = ap (λ (x : Sampled). x.slice) g;
      }

  pub left-vec3 : (v : Vec3) (array : List Float) → a ≡ Ok (sampled_value.Vec3 v) → array ≡ vec3 v ++ drop 3 lent
      → Delivered s lent array slice (record { number = 0; count = 0 })
  left-vec3 v array f p = left (Ok (sampled_value.Vec3 v)) array f p

  pub left-quat : (q : Quat) (array : List Float) → a ≡ Ok (sampled_value.Quat q) → array ≡ quat q ++ drop 4 lent
      → Delivered s lent array slice (record { number = 0; count = 0 })
  left-quat q array f p = left (Ok (sampled_value.Quat q)) array f p

  pub left-weights : (n : ℕ) → a ≡ Ok (sampled_value.Scalar n)
      → Delivered s lent lent slice (record { number = 0; count = n })
  left-weights n f = left (Ok (sampled_value.Scalar n)) lent f refl

  pub left-refused : (r : Refusal) → a ≡ Err r
      → Delivered s lent lent slice (record { number = number_of r; count = 0 })
  left-refused r f = left (Err r) lent f refl

-- ---- the answers

pub sampled-alike : (floats : List Float) (row u : ChannelRow) → row ≡ u → (time : Float) (lent : List Float)
    → (s : Sampled) → s ≡ sampled_for floats row time lent → s ≡ sampled_for floats u time lent
sampled-alike floats row u e time lent s p = p ∙ ap (λ (r : ChannelRow). sampled_for floats r time lent) e

pub no-stride : (tr : scene.Track) → 0 ≡ stride_of 2 tr
unfolding stride_of
no-stride tr = refl

-- a frame of a track that was handed in as u, and is `row`
module _ (floats : List Float) (row u : ChannelRow) (e : row ≡ u) (q : Bool) (k : ℕ) (lent : List Float) where
  abbrev inside : Bool
  inside = keys_fit (length floats) (track_for row) && values_fit (length floats) (track_for row)

  -- of the number and of the floats
  named : {X : Type 0} (call : ℕ → scene.Track → X) → (not (tags_known row) && inside) ≡ false → (t : Track)
      → t ≡ track_for row → (x : X) → x ≡ call (table_number floats t) (track_in floats t)
      → x ≡ call (number_for floats u) (track_in floats (track_for u))
  named call = by_name call floats row u e inside (table-draws floats (track_for row))

  pub no-frame : (not (tags_known row) && inside) ≡ true
      → Framed floats u q k lent lent (record { number = 2; count = 0 })
  no-frame h =
      copied-as 2 _ (frame_for floats u q k) _ lent lent 2 0
      (without-name (λ g tr. frame_number g tr q k) floats row u e inside
      (table-draws floats (track_for row)) h 2 (λ tr. sym (frame-drawn tr q k 2 (omega arith))))
      refl
      (refused (frame_for floats u q k) lent 2 (λ z. omega arith))

  pub framed : (not (tags_known row) && inside) ≡ false → (t : Track) → t ≡ track_for row → (r : Bool) → r ≡ q
      → (number : ℕ) (part left : List Float) (told count : ℕ)
      → number ≡ frame_number (table_number floats t) (track_in floats t) r k → part ≡ frame_in floats t r k
      → CopiedOut number part lent left told count
      → Framed floats u q k lent left (record { number = told; count = count })
  framed h t f r m number part left told count n p c =
      copied-as number _ part _ lent left told count
      (named (λ g tr. frame_number g tr q k) h t f number
      (n ∙ (λ j. frame_number (table_number floats t) (track_in floats t) (m j) k)))
      (named (λ g tr. frame_of g tr q k) h t f part (p ∙ (λ j. frame_in floats t (m j) k)))
      c
