-- The numbers that a list of tests can give. Assumes nothing.
use mathlib.Core.Path.{◌≡◌, refl, sym, ◌∙◌}
use mathlib.Core.Bool.{Bool, true, false, not, ◌&&◌, ◌||◌}
use mathlib.Core.List.{List, [], ◌∷◌}
use Prim.Native.Nat.{ℕ, zero, suc, ◌≤◌, ◌<◌}
use native.Mathlib.Nat.{le_trans}
use native.Mathlib.Omega.{arith}
use lib.Dec.{ltb, lit≤}
use lib.Ieee.{Float, is_nan}
use lib.ListN.{length}
use Rattle.model.specs.Lists.{pick}
use Rattle.model.specs.Scene.{Scene, Track}
use Rattle.model.specs.Sampling.{even, stride, in_line}
use Rattle.model.specs.Refusals.{number, Test, first_of, lowest, Scratch, early_tests, early_number, is_scalars, bad_frame, frame_number, sample_number}
use Rattle.model.specs.Agree.{Each}

-- no number is above that of the last test
first-le : (n : ℕ) (ts : List Test) → Each (λ (t : Test). number t.refusal ≤ n) ts → first_of ts ≤ n
unfolding first_of
first-le n [] h = omega arith
first-le n (t ∷ ts) h = go t.applies (first-le n ts h.1)
  where
    go : (b : Bool) → first_of ts ≤ n → pick b (number t.refusal) (first_of ts) ≤ n
    go true rest = h.0
    go false rest = rest

-- a number that is drawn comes before every other
pub lowest-none : (n : ℕ) → lowest n 0 ≡ n
lowest-none zero = refl
lowest-none (suc n) = refl

-- where none is drawn, neither of two is
pub neither-drawn : (e g : ℕ) → lowest e g ≡ 0 → (e ≡ 0) × (g ≡ 0)
neither-drawn zero g z = (refl, z)
neither-drawn (suc e) g z = absurd (omega (arith, z))

pub lowest-some : (g n : ℕ) → (g ≡ 0 → ⊥) → g ≡ lowest g n
lowest-some zero n d = absurd (d refl)
lowest-some (suc g) n d = refl

lowest-le : (g k n : ℕ) → g ≤ n → k ≤ n → lowest g k ≤ n
lowest-le zero k n a b = b
lowest-le (suc g) k n a b = a

pub early-le : (g : ℕ) (s : Scene) (time : Float) (room : Scratch) → g ≤ 2 → early_number g s time room ≤ 6
unfolding early_number
early-le g s time room h =
    lowest-le g (first_of (early_tests s time room)) 6 (le_trans h (lit≤ tt)) (first-le 6 (early_tests s time room) (lit≤ tt, (lit≤ tt, (lit≤ tt, tt))))

-- ---- the calls on one track, test by test

-- a number that the tables drew stands
lowest-drawn : (g n : ℕ) → 0 < g → lowest g n ≡ g
lowest-drawn zero n h = absurd (omega arith)
lowest-drawn (suc g) n h = refl

module _ (t : Track) (rows : Bool) (k : ℕ) where
  pub frame-drawn : (g : ℕ) → 0 < g → frame_number g t rows k ≡ g
  unfolding frame_number
  frame-drawn g h = lowest-drawn g _ h

  pub frame-tests : (g : ℕ) (e b : Bool) → g ≡ 0 → even t ≡ e → bad_frame t.kind t.interpolation (length t.keys) rows k ≡ b → frame_number g t rows k ≡ pick (not e) 4 (pick b 12 0)
  unfolding frame_number first_of
  frame-tests g e b z p q = λ j. lowest (z j) (pick (not (p j)) 4 (pick (q j) 12 0))

  -- what an accepted call tells
  pub frame-accepted : (g : ℕ) → frame_number g t rows k ≡ 0 → (g ≡ 0) × (even t ≡ true) × (bad_frame t.kind t.interpolation (length t.keys) rows k ≡ false)
  frame-accepted zero h = let r = go (even t) (bad_frame t.kind t.interpolation (length t.keys) rows k) refl refl in (refl, r.0, r.1)
    where
      no : (n : ℕ) → suc n ≡ 0 → ⊥
      no n e = omega arith

      go : (e b : Bool) → even t ≡ e → bad_frame t.kind t.interpolation (length t.keys) rows k ≡ b → (even t ≡ true) × (bad_frame t.kind t.interpolation (length t.keys) rows k ≡ false)
      go true false p q = (p, q)
      go true true p q = absurd (no 11 (sym (frame-tests 0 true true refl p q) ∙ h))
      go false b p q = absurd (no 3 (sym (frame-tests 0 false b refl p q) ∙ h))
  frame-accepted (suc g) h = let e = frame-drawn (suc g) (omega arith) in absurd (omega (arith, e, h))

module _ (t : Track) (time : Float) (room : ℕ) where
  abbrev pub short_for : Bool
  short_for = is_scalars t.kind && ltb room (stride t)

  pub sample-drawn : (g : ℕ) → 0 < g → sample_number g t time room ≡ g
  unfolding sample_number
  sample-drawn g h = lowest-drawn g _ h

  pub sample-tests : (g : ℕ) (n e l s : Bool) → g ≡ 0 → is_nan time ≡ n → even t ≡ e → in_line t.keys ≡ l → short_for ≡ s
      → sample_number g t time room ≡ pick n 3 (pick (not e) 4 (pick (not l) 5 (pick s 10 0)))
  unfolding sample_number first_of
  sample-tests g n e l s z p q r o = λ j. lowest (z j) (pick (p j) 3 (pick (not (q j)) 4 (pick (not (r j)) 5 (pick (o j) 10 0))))

  pub sample-accepted : (g : ℕ) → sample_number g t time room ≡ 0 → (g ≡ 0) × (is_nan time ≡ false) × (even t ≡ true) × (in_line t.keys ≡ true) × (short_for ≡ false)
  sample-accepted zero h = let r = go (is_nan time) (even t) (in_line t.keys) short_for refl refl refl refl in (refl, r.0, r.1, r.2, r.3)
    where
      no : (n : ℕ) → suc n ≡ 0 → ⊥
      no n e = omega arith

      go : (n e l s : Bool) → is_nan time ≡ n → even t ≡ e → in_line t.keys ≡ l → short_for ≡ s
          → (is_nan time ≡ false) × (even t ≡ true) × (in_line t.keys ≡ true) × (short_for ≡ false)
      go false true true false p q r o = (p, q, r, o)
      go false true true true p q r o = absurd (no 9 (sym (sample-tests 0 false true true true refl p q r o) ∙ h))
      go false true false s p q r o = absurd (no 4 (sym (sample-tests 0 false true false s refl p q r o) ∙ h))
      go false false l s p q r o = absurd (no 3 (sym (sample-tests 0 false false l s refl p q r o) ∙ h))
      go true e l s p q r o = absurd (no 2 (sym (sample-tests 0 true e l s refl p q r o) ∙ h))
  sample-accepted (suc g) h = let e = sample-drawn (suc g) (omega arith) in absurd (omega (arith, e, h))
