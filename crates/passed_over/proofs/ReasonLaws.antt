-- The reason test by test, and what it says of a pose: a channel with a reason changes no pose, one without gives its
-- node a value, and a rotation alone lacks a length. Assumes nothing.
use mathlib.Core.Path.{◌≡◌, refl, sym, ap, ◌∙◌}
use mathlib.Core.Bool.{Bool, true, false, not, true≢false}
use mathlib.Core.List.{List}
use mathlib.Core.Option.{Option, none, some}
use Prim.Native.Nat.{ℕ, suc, ◌<◌}
use native.Mathlib.Omega.{arith}
use borrow.Author.Tests.{leb-true, leb-false}
use lib.Dec.{leb}
use lib.Ieee.{Float}
use lib.ListN.{length, get_or, set}
use lib.Seq.{set_out, set-get_or}
use Rattle.model.specs.Lists.{pick, is_some, and_then}
use Rattle.model.specs.Vector.{Vector, normalized}
use Rattle.model.specs.Scene.{Property, translation, rotation, scale, morph_weights, Kind, vec3s, quats, scalars, Track}
use Rattle.model.specs.Sampling.{even, locate, value_at, sample}
use Rattle.model.specs.Pose.{Pose, at_rest, given, replaced, drive_at}
use Rattle.passed_over.specs.Reasons.{fits, value_given, reason_for}

-- ---- the tests: past the last node, even, fitting, given
abbrev by_tests : Bool → Bool → Bool → Bool → ℕ
by_tests p e f s = pick p 1 (pick (not e) 2 (pick (not f) 3 (pick (not s) 4 0)))

module _ (time : Float) (n : ℕ) (t : Track) where
  pub by-tests : (p e f s : Bool) → leb n t.target ≡ p → even t ≡ e → fits t.property t.kind ≡ f
      → is_some (value_given time t) ≡ s → reason_for time n t ≡ by_tests p e f s
  unfolding reason_for
  by-tests p e f s a b c d = λ j. by_tests (a j) (b j) (c j) (d j)

-- ---- where there is no value
by_layout : (time : Float) (t : Track) (b : Bool) → even t ≡ b
    → sample t time ≡ pick b (some (value_at t time (locate t.keys time))) none
unfolding sample
by_layout time t b e = ap (λ (c : Bool). pick c (some (value_at t time (locate t.keys time))) none) e

none-uneven : (time : Float) (t : Track) → even t ≡ false → value_given time t ≡ none
none-uneven time t e =
    ap (λ (o : Option Vector). and_then o (given t.property t.kind)) (by_layout time t false e)

unfit : (q : Property) (k : Kind) (v : Vector) → fits q k ≡ false → given q k v ≡ none
unfolding given
unfit translation vec3s v h = absurd (true≢false h)
unfit translation quats v h = refl
unfit translation scalars v h = refl
unfit rotation vec3s v h = refl
unfit rotation quats v h = absurd (true≢false h)
unfit rotation scalars v h = refl
unfit scale vec3s v h = absurd (true≢false h)
unfit scale quats v h = refl
unfit scale scalars v h = refl
unfit morph_weights vec3s v h = refl
unfit morph_weights quats v h = refl
unfit morph_weights scalars v h = absurd (true≢false h)

none-unfit : (time : Float) (t : Track) → fits t.property t.kind ≡ false → value_given time t ≡ none
none-unfit time t h = go (sample t time)
  where
    go : (o : Option Vector) → and_then o (given t.property t.kind) ≡ none
    go none = refl
    go (some v) = unfit t.property t.kind v h

not_some : {A : Type 0} (o : Option A) → is_some o ≡ false → o ≡ none
not_some none h = refl
not_some (some a) h = absurd (true≢false h)

-- ---- a channel with a reason
unposed : (q : Property) (p : Pose) → replaced q none p ≡ p
unfolding replaced
unposed translation p = refl
unposed rotation p = refl
unposed scale p = refl
unposed morph_weights p = refl

module _ (time : Float) (ps : List Pose) (t : Track) where
  no_value : value_given time t ≡ none → drive_at time ps t ≡ ps
  no_value e =
      let p = get_or ps t.target at_rest in
      ap (set ps t.target) (ap (λ (o : Option Vector). replaced t.property o p) e ∙ unposed t.property p)
      ∙ set-get_or ps t.target at_rest

  -- it changes no pose
  pub passed_over : (n : ℕ) → n ≡ length ps → (reason_for time n t ≡ 0 → ⊥) → drive_at time ps t ≡ ps
  passed_over n len r =
      go (leb n t.target) (even t) (fits t.property t.kind) (is_some (value_given time t)) refl refl refl refl
    where
      go : (p e f s : Bool) → leb n t.target ≡ p → even t ≡ e → fits t.property t.kind ≡ f
          → is_some (value_given time t) ≡ s → drive_at time ps t ≡ ps
      go true e f s a b c d = set_out ps t.target _ (omega (arith, len, leb-true n t.target a))
      go false false f s a b c d = no_value (none-uneven time t b)
      go false true false s a b c d = no_value (none-unfit time t c)
      go false true true false a b c d = no_value (not_some (value_given time t) d)
      go false true true true a b c d = absurd (r (by-tests time n t false true true true a b c d))

-- ---- a channel without a reason: it is aimed at a node and gives it a value
pub record Given (time : Float) (n : ℕ) (t : Track) : Type 0 where
  pub aimed : t.target < n
  pub value : Vector
  pub is-given : value_given time t ≡ some value

-- ---- a channel with the last reason: the value at this time is a rotation, which has no length to divide by
pub record Lengthless (time : Float) (t : Track) : Type 0 where
  pub of-rotation : t.property ≡ rotation
  pub value : Vector
  pub is-sampled : sample t time ≡ some value
  pub no-quotient : normalized value ≡ none

-- a value of a fitting kind is not given
without : (q : Property) (k : Kind) (v : Vector) → fits q k ≡ true → is_some (given q k v) ≡ false
    → (q ≡ rotation) × (normalized v ≡ none)
unfolding given
without translation vec3s v f h = absurd (true≢false h)
without translation quats v f h = absurd (true≢false (sym f))
without translation scalars v f h = absurd (true≢false (sym f))
without rotation vec3s v f h = absurd (true≢false (sym f))
without rotation quats v f h = (refl, not_some (normalized v) h)
without rotation scalars v f h = absurd (true≢false (sym f))
without scale vec3s v f h = absurd (true≢false h)
without scale quats v f h = absurd (true≢false (sym f))
without scale scalars v f h = absurd (true≢false (sym f))
without morph_weights vec3s v f h = absurd (true≢false (sym f))
without morph_weights quats v f h = absurd (true≢false (sym f))
without morph_weights scalars v f h = absurd (true≢false h)

module _ (time : Float) (n : ℕ) (t : Track) where
  some-value : (o : Option Vector) → value_given time t ≡ o → is_some o ≡ true → t.target < n → Given time n t
  some-value none e h a = absurd (true≢false (sym h))
  some-value (some v) e h a = record { aimed = a; value = v; is-given = e }

  pub gives : reason_for time n t ≡ 0 → Given time n t
  gives r =
      go (leb n t.target) (even t) (fits t.property t.kind) (is_some (value_given time t)) refl refl refl refl
    where
      no : (k : ℕ) → reason_for time n t ≡ suc k → ⊥
      no k e = omega (arith, e, r)

      go : (p e f s : Bool) → leb n t.target ≡ p → even t ≡ e → fits t.property t.kind ≡ f
          → is_some (value_given time t) ≡ s → Given time n t
      go true e f s a b c d = absurd (no 0 (by-tests time n t true e f s a b c d))
      go false false f s a b c d = absurd (no 1 (by-tests time n t false false f s a b c d))
      go false true false s a b c d = absurd (no 2 (by-tests time n t false true false s a b c d))
      go false true true false a b c d = absurd (no 3 (by-tests time n t false true true false a b c d))
      go false true true true a b c d = some-value (value_given time t) refl d (leb-false n t.target a)

  lengthless : (o : Option Vector) → sample t time ≡ o → even t ≡ true → fits t.property t.kind ≡ true
      → is_some (and_then o (given t.property t.kind)) ≡ false → Lengthless time t
  lengthless none e b c d = absurd (true≢false (ap is_some (sym (by_layout time t true b) ∙ e)))
  lengthless (some v) e b c d =
      let w = without t.property t.kind v c d in
      record { of-rotation = w.0; value = v; is-sampled = e; no-quotient = w.1 }

  pub no_length : reason_for time n t ≡ 4 → Lengthless time t
  no_length r =
      go (leb n t.target) (even t) (fits t.property t.kind) (is_some (value_given time t)) refl refl refl refl
    where
      no : (k : ℕ) → reason_for time n t ≡ k → k < 4 → ⊥
      no k e h = omega (arith, e, r, h)

      go : (p e f s : Bool) → leb n t.target ≡ p → even t ≡ e → fits t.property t.kind ≡ f
          → is_some (value_given time t) ≡ s → Lengthless time t
      go true e f s a b c d = absurd (no 1 (by-tests time n t true e f s a b c d) (omega arith))
      go false false f s a b c d = absurd (no 2 (by-tests time n t false false f s a b c d) (omega arith))
      go false true false s a b c d = absurd (no 3 (by-tests time n t false true false s a b c d) (omega arith))
      go false true true false a b c d = lengthless (sample t time) refl b c d
      go false true true true a b c d = absurd (no 0 (by-tests time n t false true true true a b c d) (omega arith))
