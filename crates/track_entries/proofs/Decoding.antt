-- What is drawn before a table is decoded, and the answers with the room that it is decoded into. Assumes nothing.
use mathlib.Core.Path.{◌≡◌, refl, sym, ap, ◌∙◌, subst}
use mathlib.Core.Bool.{Bool, true, false, not, ◌&&◌}
use mathlib.Core.List.{List, [], ◌++◌}
use Prim.Native.Nat.{ℕ, zero, suc, ◌/◌, ◌≤◌, ◌<◌}
use native.Mathlib.Omega.{arith}
use borrow.Author.Tests.{lt-ltb, le-ltb, ltb-false}
use lib.Dec.{ltb}
use lib.Ieee.{Float, is_nan, binary32, of_bits}
use lib.ListN.{length, take, drop}
use lib.Seq.{take_all}
use Rattle.model.specs.Lists.{pick}
use Rattle.model.specs.Limits.{weight_limit}
use Rattle.model.specs.Scene as scene
use Rattle.model.specs.Sampling.{even, in_line}
use Rattle.model.specs.Refusals.{first_of, lowest, track_over_limit, sample_number}
use Rattle.model.specs.Calls.{Sampled, sampled_or, sampled}
use Rattle.model.specs.Bake.{written}
use Rattle.model.specs.Written.{Wrote}
use Rattle.model.proofs.Numbers.{lowest-some, short_for, sample-drawn, sample-tests}
use Rattle.wire.specs.Bytes.{floats_in}
use Rattle.wire.proofs.Reading.{count}
use Rattle.animation.specs.Values.{answer_of}
use Rattle.tracks.specs.Tracks.{keys_fit, values_fit, track_in, table_number}
use Rattle.tracks.specs.declared.Track.{Track}
use Rattle.tracks.proofs.Drawn.{clear}
use Rattle.std.proofs.Common.{Result, Ok, Err}
use Rattle.refusals.specs.declared.Refusal.{Refusal}
use Rattle.refusals.proofs.Told.{above-none}
use Rattle.refusals.specs.Drawn.{number_of, number_drawn}
use Rattle.animation.specs.declared.SampledValue.{SampledValue}
use Rattle.animation.specs.declared.SampledValue.TheVariants as sampled_value
use Rattle.byte_tracks.proofs.WeightRoom.{roomy}
use Rattle.track_entries.specs.Tracks.{sampled_in}
use Rattle.track_entries.specs.Bytes.{first_number, first_in_bytes, decoded_or, Decoded, sampled_in_bytes}
use Rattle.track_entries.proofs.Naming.{Draws, table-draws}

-- ---- the numbers as far as 6

six-last : (short n e l s : Bool) → (e ≡ true → s ≡ false)
    → lowest (pick n 3 (pick (not e) 4 (pick (not l) 5 (pick s 10 0)))) (pick short 6 0)
    ≡ pick n 3 (pick (not e) 4 (pick (not l) 5 (pick short 6 0)))
six-last short true e l s h = refl
six-last short false false l s h = refl
six-last short false true false s h = refl
six-last short false true true s h = ap (λ (b : Bool). lowest (pick b 10 0) (pick short 6 0)) (h refl)

module _ (t : scene.Track) (time : Float) (short : Bool) where
  -- 6 is drawn after those that need no room
  six-after : (g : ℕ) → (g ≡ 0 → track_over_limit t ≡ false)
      → lowest (sample_number g t time weight_limit) (pick short 6 0) ≡ first_number g t time short
  unfolding first_number first_of
  six-after zero within =
      let n = is_nan time in
      let e = even t in
      let l = in_line t.keys in
      let s = short_for t time weight_limit in
      ap (λ (k : ℕ). lowest k (pick short 6 0)) (sample-tests t time weight_limit 0 n e l s refl refl refl refl refl)
      ∙ six-last short n e l s (roomy t time (within refl))
  six-after (suc g) within =
      ap (λ (n : ℕ). lowest n (pick short 6 0)) (sample-drawn t time weight_limit (suc g) (omega arith))

  pub two-stands : 2 ≡ first_number 2 t time short
  unfolding first_number
  two-stands = refl

  -- where none is drawn, the table draws none, and the room is not short
  pub none-drawn : (g : ℕ) → first_number g t time short ≡ 0 → (g ≡ 0) × (short ≡ false)
  unfolding first_number first_of
  none-drawn zero z = (refl, go (is_nan time) (even t) (in_line t.keys) short z)
    where
      go : (n e l s : Bool) → ◌≡◌ {A = ℕ} (pick n 3 (pick (not e) 4 (pick (not l) 5 (pick s 6 0)))) 0 → s ≡ false
      go true e l s h = absurd (omega arith)
      go false false l s h = absurd (omega arith)
      go false true false s h = absurd (omega arith)
      go false true true true h = absurd (omega arith)
      go false true true false h = refl
  none-drawn (suc g) z = absurd (omega arith)

-- of a track in a table, with room to decode so many floats
module _ (table : List ℕ) (t : Track) (time : Float) (room : ℕ) where
  abbrev floats : List Float
  floats = floats_in table

  abbrev short : Bool
  short = ltb room (length floats)

  abbrev first : ℕ
  first = first_in_bytes table t time room

  pub within : first ≡ 0 → track_over_limit (track_in floats t) ≡ false
  within z = (clear floats t (none-drawn (track_in floats t) time short (table_number floats t) z).0).within

  pub enough-room : first ≡ 0 → length table / 4 ≤ room
  enough-room z =
      let fits = (none-drawn (track_in floats t) time short (table_number floats t) z).1 in
      omega (arith, ltb-false room (length floats) fits, count (of_bits binary32) table)

  -- k is what it draws as far as 5
  module _ (k : ℕ) (e : k ≡ sample_number (table_number floats t) (track_in floats t) time weight_limit) where
    by-room : (b : Bool) → ltb room (length table / 4) ≡ b → lowest k (pick b 6 0) ≡ first
    by-room b p =
        let q : b ≡ short = sym p ∙ ap (ltb room) (sym (count (of_bits binary32) table)) in
        (λ j. lowest (e j) (pick (q j) 6 0))
        ∙ six-after (track_in floats t) time short (table_number floats t) (λ z. (clear floats t z).within)

    pub drawn-before : (k ≡ 0 → ⊥) → k ≡ first
    drawn-before d = lowest-some k _ d ∙ by-room (ltb room (length table / 4)) refl

    pub room-short : k ≡ 0 → room < length table / 4 → 6 ≡ first
    room-short z h = ap (λ (n : ℕ). lowest n 6) (sym z) ∙ by-room true (lt-ltb room (length table / 4) h)

    pub none-short : k ≡ 0 → length table / 4 ≤ room → 0 ≡ first
    none-short z h = ap (λ (n : ℕ). lowest n 0) (sym z) ∙ by-room false (le-ltb room (length table / 4) h)

pub bytes-draw : (table : List ℕ) (t : Track)
    → Draws (keys_fit (length table / 4) t && values_fit (length table / 4) t) (table_number (floats_in table) t)
bytes-draw table t =
    subst (λ (n : ℕ). Draws (keys_fit n t && values_fit n t) (table_number (floats_in table) t))
    (count (of_bits binary32) table) (table-draws (floats_in table) t)

-- ---- the answer and the room

pub sampled-of : (part floats : List Float) (t : Track) (time : Float) (lent : List Float) (s : Sampled)
    → part ≡ floats → s ≡ sampled_in part t time lent → s ≡ sampled_in floats t time lent
sampled-of part floats t time lent s e p = p ∙ ap (λ (l : List Float). sampled_in l t time lent) e

-- all floats of a table are read where there is room
pub all_read : (floats lent left : List Float) (n : ℕ) → Wrote floats lent left n → length floats ≤ length lent
    → left ≡ written floats lent
all_read floats lent left n w h =
    let full : n ≡ length floats = omega (arith, w.counted) in
    w.slice ∙ (λ j. take (full j) floats ++ drop (full j) lent)
    ∙ ap (λ (l : List Float). l ++ drop (length floats) lent) (take_all (length floats) floats (omega arith))

-- an answer with a number, and nothing beside it
no-value : (tr : scene.Track) (time : Float) (lent : List Float) (k : ℕ) → 0 < k
    → ◌≡◌ {A = Sampled} (record { number = k; value = []; weights = 0; slice = lent }) (sampled_or k tr time lent)
no-value tr time lent zero h = absurd (omega (arith, h))
no-value tr time lent (suc n) h = refl

pub refused-with : (tr : scene.Track) (time : Float) (lent : List Float) (g : ℕ) (r : Refusal) → number_of r ≡ g
    → answer_of (Err r) lent ≡ sampled g tr time lent
unfolding sampled
refused-with tr time lent g r e =
    no-value tr time lent (number_of r) (above-none r)
    ∙ ap (λ (k : ℕ). sampled_or k tr time lent) (sym (sample-drawn tr time (length lent) (number_of r) (above-none r)))
    ∙ ap (λ (k : ℕ). sampled k tr time lent) e

-- room that is not decoded into
undecoded : (floats room : List Float) (k : ℕ) → 0 < k → room ≡ decoded_or k floats room
undecoded floats room zero h = absurd (omega (arith, h))
undecoded floats room (suc n) h = refl

-- one of the numbers as far as 6
pub refused : (tr : scene.Track) (time : Float) (floats room lent : List Float) (g : ℕ) (r : Refusal) → number_of r ≡ g
    → ◌≡◌ {A = Decoded} (record { answer = answer_of (Err r) lent; room = room })
    (record { answer = sampled g tr time lent; room = decoded_or g floats room })
refused tr time floats room lent g r e = λ j. record {
  answer = refused-with tr time lent g r e j;
  room = (undecoded floats room (number_of r) (above-none r) ∙ ap (λ (k : ℕ). decoded_or k floats room) e) j;
}

-- none of them
pub accepted : (table : List ℕ) (t : Track) (time : Float) (room left lent : List Float) (s : Sampled)
    → first_in_bytes table t time (length room) ≡ 0
    → (s ≡ sampled_in (floats_in table) t time lent) × (left ≡ written (floats_in table) room)
    → ◌≡◌ {A = Decoded} (record { answer = s; room = left }) (sampled_in_bytes table t time room lent)
accepted table t time room left lent s z d =
    let floats = floats_in table in
    let tr = track_in floats t in
    let none = (none-drawn tr time (ltb (length room) (length floats)) (table_number floats t) z).0 in
    let a = d.0 ∙ ap (λ (g : ℕ). sampled g tr time lent) (none ∙ sym z) in
    let b = d.1 ∙ ap (λ (g : ℕ). decoded_or g floats room) (sym z) in
    λ j. record { answer = a j; room = b j }
