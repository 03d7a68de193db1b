-- A track that is sampled with less room than there is, but room for as many weights as a frame can have, answers the
-- same. Assumes nothing.
use mathlib.Core.Path.{◌≡◌, refl, sym, ap, ◌∙◌, subst}
use mathlib.Core.Bool.{Bool, true, false, ◌&&◌}
use mathlib.Core.List.{List}
use Prim.Native.Nat.{ℕ, zero, suc, ◌≤◌, min}
use native.Mathlib.Omega.{arith}
use borrow.Author.Tests.{lt-ltb, le-ltb, ltb-true, ltb-false}
use lib.Dec.{ltb}
use lib.Ieee.{Float, is_nan}
use lib.ListN.{length, take, drop}
use lib.Seq.{take_at}
use Rattle.model.specs.Limits.{weight_limit}
use Rattle.model.specs.Vector.{Vector}
use Rattle.model.specs.Scene.{Kind, vec3s, quats, scalars, Track}
use Rattle.model.specs.Sampling.{even, stride, row_width, in_line, locate, value_at}
use Rattle.model.specs.Refusals.{is_scalars, track_over_limit, sample_number}
use Rattle.model.specs.Calls.{Sampled, delivered, sampled_or, sampled}
use Rattle.model.proofs.Located.{locate-in-range}
use Rattle.model.proofs.Numbers.{short_for, sample-drawn, sample-tests, sample-accepted}
use Rattle.model.proofs.Sampled.{value-width}
use Rattle.byte_tracks.proofs.WeightRoom.{roomy}

-- what is told and written is the same; past the weights the slices may differ
pub record Alike (s r : Sampled) : Type 0 where
  pub number : s.number ≡ r.number
  pub value : s.value ≡ r.value
  pub weights : s.weights ≡ r.weights
  pub written : take s.weights s.slice ≡ take r.weights r.slice

same_test : (a n : ℕ) → n ≤ weight_limit → ltb a n ≡ ltb (min a weight_limit) n
same_test a n h = go (ltb a n) refl
  where
    go : (b : Bool) → ltb a n ≡ b → ltb a n ≡ ltb (min a weight_limit) n
    go true p = let l = ltb-true a n p in p ∙ sym (lt-ltb (min a weight_limit) n (omega arith))
    go false p = let l = ltb-false a n p in p ∙ sym (le-ltb (min a weight_limit) n (omega arith))

-- ---- the number
module _ (t : Track) (time : Float) (a : ℕ) where
  short-alike : even t ≡ true → track_over_limit t ≡ false → short_for t time a ≡ short_for t time (min a weight_limit)
  short-alike e over = go (is_scalars t.kind) refl
    where
      go : (s : Bool) → is_scalars t.kind ≡ s → short_for t time a ≡ short_for t time (min a weight_limit)
      go false p = (λ j. p j && ltb a (stride t)) ∙ (λ j. sym p j && ltb (min a weight_limit) (stride t))
      go true p =
          let fits = (λ j. sym p j && ltb weight_limit (stride t)) ∙ roomy t time over e in
          ap (λ (b : Bool). is_scalars t.kind && b) (same_test a (stride t) (ltb-false weight_limit (stride t) fits))

  number-alike : (g : ℕ) → (g ≡ 0 → track_over_limit t ≡ false)
      → sample_number g t time a ≡ sample_number g t time (min a weight_limit)
  number-alike zero within = go (even t) refl
    where
      go : (e : Bool) → even t ≡ e → sample_number 0 t time a ≡ sample_number 0 t time (min a weight_limit)
      go true e =
          let n = is_nan time in
          let l = in_line t.keys in
          sample-tests t time a 0 n true l _ refl refl e refl (short-alike e (within refl))
          ∙ sym (sample-tests t time (min a weight_limit) 0 n true l _ refl refl e refl refl)
      go false e =
          let n = is_nan time in
          let l = in_line t.keys in
          sample-tests t time a 0 n false l _ refl refl e refl refl
          ∙ sym (sample-tests t time (min a weight_limit) 0 n false l _ refl refl e refl refl)
  number-alike (suc g) within =
      sample-drawn t time a (suc g) (omega arith) ∙ sym (sample-drawn t time (min a weight_limit) (suc g) (omega arith))

-- ---- the answer
module _ (t : Track) (time : Float) (g : ℕ) (lent : List Float) where
  pub weights-fit : (sampled g t time lent).weights ≤ length lent
  unfolding sampled
  weights-fit = go (sample_number g t time (length lent)) refl
    where
      v : Vector
      v = value_at t time (locate t.keys time)

      by_kind : (k : Kind) → t.kind ≡ k → short_for t time (length lent) ≡ false
          → (delivered k (stride t) v lent).weights ≤ length lent
      by_kind vec3s e short = omega arith
      by_kind quats e short = omega arith
      by_kind scalars e short =
          ltb-false (length lent) (stride t)
          (ap (λ (k : Kind). is_scalars k && ltb (length lent) (stride t)) (sym e) ∙ short)

      go : (n : ℕ) → sample_number g t time (length lent) ≡ n → (sampled_or n t time lent).weights ≤ length lent
      go zero e = by_kind t.kind refl (sample-accepted t time (length lent) g e).4
      go (suc n) e = omega arith

  module _ (less : List Float) where
    or-alike : (n : ℕ) → (n ≡ 0 → even t ≡ true) → Alike (sampled_or n t time lent) (sampled_or n t time less)
    or-alike zero h = go t.kind refl
      where
        v : Vector
        v = value_at t time (locate t.keys time)

        go : (k : Kind) → t.kind ≡ k → Alike (delivered k (stride t) v lent) (delivered k (stride t) v less)
        go vec3s e = record { number = refl; value = refl; weights = refl; written = refl }
        go quats e = record { number = refl; value = refl; weights = refl; written = refl }
        go scalars e =
            let w : length v ≡ stride t
            = value-width t (h refl) time (locate t.keys time) (locate-in-range t.keys time)
            ∙ ap (λ (k : Kind). row_width k (stride t)) e in
            record {
              number = refl;
              value = refl;
              weights = refl;
              written =
                  take_at v (drop (stride t) lent) (stride t) w
                  ∙ sym (take_at v (drop (stride t) less) (stride t) w);
            }
    or-alike (suc n) h = record { number = refl; value = refl; weights = refl; written = refl }

    pub sampled-alike : (g ≡ 0 → track_over_limit t ≡ false) → length less ≡ min (length lent) weight_limit
        → Alike (sampled g t time lent) (sampled g t time less)
    unfolding sampled
    sampled-alike within e =
        let m : sample_number g t time (length less) ≡ sample_number g t time (length lent)
        = ap (sample_number g t time) e ∙ sym (number-alike t time (length lent) g within) in
        subst
        (λ (n : ℕ). Alike (sampled_or n t time lent) (sampled_or (sample_number g t time (length less)) t time less))
        m
        (or-alike (sample_number g t time (length less)) (λ z. (sample-accepted t time (length less) g z).2))
