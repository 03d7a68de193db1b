-- What an answer to a sample tells of the track's value. Assumes nothing.
use mathlib.Core.Path.{◌≡◌, refl, sym, ap, ◌∙◌, subst}
use mathlib.Core.Bool.{Bool, true, false, not, ◌&&◌, ◌||◌, true≢false}
use mathlib.Core.List.{List, []}
use mathlib.Core.Option.{Option, none, some}
use Prim.Native.Nat.{ℕ, suc}
use native.Mathlib.Omega.{arith}
use borrow.Author.Tests.{not-false}
use lib.Dec.{ltb}
use Rattle.std.specs.Prelude as rust
use Rattle.std.proofs.Common.{Result, Ok, Err}
use lib.Ieee.{Float, is_nan}
use lib.ListN.{length}
use Rattle.model.specs.Limits.{key_limit, weight_limit}
use Rattle.model.specs.Lists.{pick}
use Rattle.model.specs.Vector.{Vector}
use Rattle.model.specs.Scene.{Property, Kind, vec3s, quats, scalars, Interpolation, step, linear, cubic_spline, Track}
use Rattle.model.specs.Sampling.{even, stride, row_width, in_line, Where, before, on, between, after, locate, interpolated, value_at, sample}
use Rattle.model.specs.Refusals.{is_scalars, track_over_limit, sample_number}
use Rattle.model.specs.Calls.{Sampled, delivered, sampled_or, sampled}
use Rattle.model.proofs.Located.{locate-in-range}
use Rattle.model.proofs.Numbers.{short_for, sample-tests}
use Rattle.model.proofs.Sampled.{stride-some, value-width}
use Rattle.scene.specs.Values.{vec3, quat}
use Rattle.refusals.specs.declared.Refusal.{Refusal}
use Rattle.animation.specs.declared.SampledValue.{SampledValue}
use Rattle.animation.specs.declared.SampledValue.TheVariants as value
use Rattle.tracks.specs.declared.Track as animation
use Rattle.animation.specs.Values.{answer_of}
use Rattle.tracks.specs.Tracks.{keys_fit, values_fit, track_in, table_number}
use Rattle.tables.specs.declared.ChannelRow.{ChannelRow}
use Rattle.tables.specs.Tags.{property_for, track_for}
use Rattle.tables.specs.Decoded.{driving}
use Rattle.pose_slots.specs.declared.Gift.{Gift}
use Rattle.pose_slots.specs.Channels.{channel_in}
use Rattle.pose_slots.specs.Gifts.{Gives}

-- ---- what a track drives does not matter
module _ (n : ℕ) (p : Property) (t : Track) (time : Float) where
  between-driving : (k : ℕ) (i : Interpolation) → interpolated (driving n p t) i k time ≡ interpolated t i k time
  unfolding interpolated
  between-driving k step = refl
  between-driving k linear = refl
  between-driving k cubic_spline = refl

  value-driving : (w : Where) → value_at (driving n p t) time w ≡ value_at t time w
  unfolding value_at
  value-driving before = refl
  value-driving (on k) = refl
  value-driving (between k) = between-driving k t.interpolation
  value-driving after = refl

  pub sample-driving : sample (driving n p t) time ≡ sample t time
  unfolding sample
  sample-driving = ap (λ (v : Vector). pick (even t) (some v) none) (value-driving (locate t.keys time))

-- ---- the answer of a track whose keys are in line where it is even, with room enough
module _ (tr : Track) (time : Float) where
  abbrev value_of : Vector
  value_of = value_at tr time (locate tr.keys time)

  abbrev pub Told : Result SampledValue Refusal → Type 0
  Told (Ok (value.Vec3 v)) = (tr.kind ≡ vec3s) × (sample tr time ≡ some (vec3 v))
  Told (Ok (value.Quat q)) = (tr.kind ≡ quats) × (sample tr time ≡ some (quat q))
  Told (Ok (value.Scalar n)) = (tr.kind ≡ scalars) × (sample tr time ≡ some value_of)
  Told (Err n) = sample tr time ≡ none

  by-even : (e : Bool) → even tr ≡ e → sample tr time ≡ pick e (some value_of) none
  unfolding sample
  by-even e p = ap (λ (b : Bool). pick {A = Option Vector} b (some value_of) none) p

  width_is : even tr ≡ true → (κ : Kind) → tr.kind ≡ κ → length value_of ≡ row_width κ (stride tr)
  width_is e κ k =
      value-width tr e time (locate tr.keys time) (locate-in-range tr.keys time) ∙ ap (λ (x : Kind). row_width x (stride tr)) k

  module _ (lent left : List Float) where
    abbrev refusal : Sampled
    refusal = record { number = 4; value = []; weights = 0; slice = lent }

    by_kind : (e : Bool) → even tr ≡ e → (κ : Kind) → tr.kind ≡ κ → (s : Result SampledValue Refusal)
        → answer_of s left ≡ pick e (delivered κ (stride tr) value_of lent) refusal → Told s
    by_kind false e κ k (Err n) h = by-even false e
    by_kind false e κ k (Ok (value.Vec3 v)) h = let z = ap (λ (a : Sampled). a.number) h in absurd (omega (arith, z))
    by_kind false e κ k (Ok (value.Quat q)) h = let z = ap (λ (a : Sampled). a.number) h in absurd (omega (arith, z))
    by_kind false e κ k (Ok (value.Scalar n)) h = let z = ap (λ (a : Sampled). a.number) h in absurd (omega (arith, z))
    by_kind true e vec3s k (Ok (value.Vec3 v)) h = (k, by-even true e ∙ ap some (sym (ap (λ (a : Sampled). a.value) h)))
    by_kind true e vec3s k (Ok (value.Quat q)) h = let z = ap (λ (a : Sampled). length a.value) h in absurd (omega (arith, z, width_is e vec3s k))
    by_kind true e vec3s k (Ok (value.Scalar n)) h = let z = ap (λ (a : Sampled). length a.value) h in absurd (omega (arith, z, width_is e vec3s k))
    by_kind true e vec3s k (Err n) h = let z = ap (λ (a : Sampled). length a.value) h in absurd (omega (arith, z, width_is e vec3s k))
    by_kind true e quats k (Ok (value.Vec3 v)) h = let z = ap (λ (a : Sampled). length a.value) h in absurd (omega (arith, z, width_is e quats k))
    by_kind true e quats k (Ok (value.Quat q)) h = (k, by-even true e ∙ ap some (sym (ap (λ (a : Sampled). a.value) h)))
    by_kind true e quats k (Ok (value.Scalar n)) h = let z = ap (λ (a : Sampled). length a.value) h in absurd (omega (arith, z, width_is e quats k))
    by_kind true e quats k (Err n) h = let z = ap (λ (a : Sampled). length a.value) h in absurd (omega (arith, z, width_is e quats k))
    by_kind true e scalars k (Ok (value.Vec3 v)) h = let z = ap (λ (a : Sampled). length a.value) h in absurd (omega (arith, z))
    by_kind true e scalars k (Ok (value.Quat q)) h = let z = ap (λ (a : Sampled). length a.value) h in absurd (omega (arith, z))
    by_kind true e scalars k (Ok (value.Scalar n)) h = (k, by-even true e)
    by_kind true e scalars k (Err n) h = let z = ap (λ (a : Sampled). a.weights) h in absurd (omega (arith, z, stride-some tr e))

  module _ (g : ℕ) (lent : List Float) (z : g ≡ 0) (number : is_nan time ≡ false) (line : (even tr && not (in_line tr.keys)) ≡ false)
      (space : even tr ≡ true → short_for tr time (length lent) ≡ false) where
    in-line : even tr ≡ true → in_line tr.keys ≡ true
    in-line e = not-false _ (ap (λ (b : Bool). b && not (in_line tr.keys)) (sym e) ∙ line)

    answer-is : (e : Bool) → even tr ≡ e → sampled g tr time lent ≡ pick e (delivered tr.kind (stride tr) value_of lent) (record { number = 4; value = []; weights = 0; slice = lent })
    unfolding sampled
    answer-is true e = ap (λ (n : ℕ). sampled_or n tr time lent) (sample-tests tr time (length lent) g false true true false z number e (in-line e) (space e))
    answer-is false e = ap (λ (n : ℕ). sampled_or n tr time lent) (sample-tests tr time (length lent) g false false _ _ z number e refl refl)

    pub none-given : (m : ℕ) → sample_number g tr time (length lent) ≡ suc m → sample tr time ≡ none
    none-given m e = go (even tr) refl
      where
        go : (b : Bool) → even tr ≡ b → sample tr time ≡ none
        go false p = by-even false p
        go true p =
            let n = sample-tests tr time (length lent) g false true true false z number p (in-line p) (space p) in
            absurd (omega (arith, e, n))

    pub told : (s : Result SampledValue Refusal) (left : List Float) → answer_of s left ≡ sampled g tr time lent → Told s
    told s left h = by_kind lent left (even tr) refl tr.kind refl s (h ∙ answer-is (even tr) refl)

-- ---- in the tables

-- a track that draws nothing has at most 64 weights a frame
few-weights : (floats : List Float) (t : animation.Track) → table_number floats t ≡ 0 → (time : Float) → even (track_in floats t) ≡ true → short_for (track_in floats t) time 64 ≡ false
unfolding table_number
few-weights floats t z time e =
    let tr = track_in floats t in
    last (is_scalars tr.kind) (ltb weight_limit (stride tr))
    (ap (λ (b : Bool). is_scalars tr.kind && b && ltb weight_limit (stride tr)) (sym e)
    ∙ second (ltb key_limit (length tr.keys)) _ (within (keys_fit (length floats) t && values_fit (length floats) t) (track_over_limit tr) z))
  where
    within : (a b : Bool) → ◌≡◌ {A = ℕ} (pick a (pick b 2 0) 1) 0 → b ≡ false
    within true false h = refl
    within true true h = absurd (omega arith)
    within false b h = absurd (omega arith)

    second : (a b : Bool) → (a || b) ≡ false → b ≡ false
    second false b h = h
    second true b h = absurd (true≢false h)

    last : (a b : Bool) → (a && true && b) ≡ false → (a && b) ≡ false
    last true b h = h
    last false b h = refl

module _ (floats : List Float) (row : ChannelRow) (time : Float) where
  abbrev tr : Track
  tr = track_in floats (track_for row)

  pub answered : (t : animation.Track) (lent left : List Float) (s : Result SampledValue Refusal) → t ≡ track_for row
      → table_number floats (track_for row) ≡ 0 → is_nan time ≡ false → (even tr && not (in_line tr.keys)) ≡ false → length lent ≡ 64
      → answer_of s left ≡ sampled (table_number floats t) (track_in floats t) time lent → Told tr time s
  answered t lent left s e z number line n h =
      told tr time _ lent z number line (λ p. ap (short_for tr time) n ∙ few-weights floats (track_for row) z time p) s left
      (h ∙ ap (λ (x : animation.Track). sampled (table_number floats x) (track_in floats x) time lent) e)

  -- a track that is refused all the same has no value
  pub unanswered : (lent : List Float) (m : ℕ) → table_number floats (track_for row) ≡ 0 → is_nan time ≡ false
      → (even tr && not (in_line tr.keys)) ≡ false → length lent ≡ 64
      → sample_number (table_number floats (track_for row)) tr time (length lent) ≡ suc m → sample tr time ≡ none
  unanswered lent m z number line n e =
      none-given tr time _ lent z number line (λ p. ap (short_for tr time) n ∙ few-weights floats (track_for row) z time p) m e

  pub handed : (g : rust.Option Gift) (q : Property) (k : Kind) (v : Option Vector) → Gives g q k v → q ≡ property_for row.property → tr.kind ≡ k → sample tr time ≡ v
      → Gives g (channel_in floats row).property (channel_in floats row).kind (sample (channel_in floats row) time)
  handed g q k v h a b c =
      subst (λ (o : Option Vector). Gives g (property_for row.property) tr.kind o) (sym (sample-driving _ _ tr time ∙ c))
      (subst (λ (x : Kind). Gives g (property_for row.property) x v) (sym b) (subst (λ (x : Property). Gives g x k v) a h))
