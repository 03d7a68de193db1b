-- Floats in rising order: what lies below one lies below the next. Assumes nothing.
use mathlib.Core.Path.{◌≡◌, refl, sym, ap, ◌∙◌}
use mathlib.Core.Bool.{Bool, true, false, ◌||◌, or-true, true≢false, false≢true}
use mathlib.Core.Logic.{⊎_elim}
use lib.Ieee.{Float, nan, inf, fin, lt, eq, le, is_nan}
use lib.Ieee.Scale.{finite}
use Rattle.model.proofs.Tests.{either}
use Rattle.model.proofs.Orders.{lt_trans, lt-eq-trans, eq-sym, eq-excludes, trichotomy}

-- x is not above y
pub record Below (x y : Float) : Type 0 where
  pub lts : (s : Float) → lt s x ≡ true → lt s y ≡ true
  pub les : (w : Float) → le w x ≡ true → le w y ≡ true

-- ---- numbers
pub finite_number : (x : Float) → finite x ≡ true → is_nan x ≡ false
unfolding is_nan
finite_number nan h = absurd (false≢true h)
finite_number (inf s) h = absurd (false≢true h)
finite_number (fin s m e) h = refl

lt-number : (x y : Float) → lt x y ≡ true → is_nan y ≡ false
unfolding is_nan lt
lt-number nan y h = absurd (false≢true h)
lt-number (inf s) nan h = absurd (false≢true h)
lt-number (inf s) (inf t) h = refl
lt-number (inf s) (fin t n d) h = refl
lt-number (fin s m e) nan h = absurd (false≢true h)
lt-number (fin s m e) (inf t) h = refl
lt-number (fin s m e) (fin t n d) h = refl

eq_number : (x y : Float) → eq x y ≡ true → is_nan x ≡ false
unfolding is_nan eq
eq_number nan y h = absurd (false≢true h)
eq_number (inf s) y h = refl
eq_number (fin s m e) y h = refl

-- ---- equal floats compare alike
module _ (w x y : Float) (q : eq w x ≡ true) where
  -- x is not below w
  level : lt x w ≡ true → ⊥
  level h = true≢false (sym h ∙ eq-excludes x w (eq-sym x w ∙ q))

  eq-lt-trans : lt x y ≡ true → lt w y ≡ true
  eq-lt-trans h = go (lt w y) refl
    where
      above : (b : Bool) → eq w y ≡ b → lt w y ≡ false → ⊥
      above true e n = level (lt-eq-trans x y w h e)
      above false e n = level (lt_trans x y w h (trichotomy w y (eq_number w x q) (lt-number x y h) n e))

      go : (b : Bool) → lt w y ≡ b → lt w y ≡ true
      go true e = e
      go false e = absurd (above (eq w y) refl e)

  eq_trans : eq x y ≡ true → eq w y ≡ true
  eq_trans h = go (eq w y) refl
    where
      apart : (b : Bool) → lt w y ≡ b → eq w y ≡ false → ⊥
      apart true l n = true≢false (sym (lt-eq-trans w y x l h) ∙ eq-excludes w x q)
      apart false l n = true≢false (sym (lt-eq-trans y w x (trichotomy w y (eq_number w x q) (eq_number y x (eq-sym y x ∙ h)) l n) (eq-sym x w ∙ q)) ∙ eq-excludes y x (eq-sym y x ∙ h))

      go : (b : Bool) → eq w y ≡ b → eq w y ≡ true
      go true e = e
      go false e = absurd (apart (lt w y) refl e)

le_of_lt : (x y : Float) → lt x y ≡ true → le x y ≡ true
unfolding le
le_of_lt x y h = ap (λ (b : Bool). b || eq x y) h

le_of_eq : (x y : Float) → eq x y ≡ true → le x y ≡ true
unfolding le
le_of_eq x y h = ap (λ (b : Bool). lt x y || b) h ∙ or-true (lt x y)

-- ---- order
pub below-of-lt : (x y : Float) → lt x y ≡ true → Below x y
unfolding le
below-of-lt x y h = record {
  lts = λ s k. lt_trans s x y k h;
  les = λ w k. ⊎_elim (λ l. le_of_lt w y (lt_trans w x y l h)) (λ q. le_of_lt w y (eq-lt-trans w x y q h)) (either (lt w x) (eq w x) k);
}

below-of-eq : (x y : Float) → eq x y ≡ true → Below x y
unfolding le
below-of-eq x y h = record {
  lts = λ s k. lt-eq-trans s x y k (eq-sym y x ∙ h);
  les = λ w k. ⊎_elim (λ l. le_of_lt w y (lt-eq-trans w x y l (eq-sym y x ∙ h))) (λ q. le_of_eq w y (eq_trans w x y q h)) (either (lt w x) (eq w x) k);
}

pub below-of-not-lt : (x y : Float) → is_nan x ≡ false → is_nan y ≡ false → lt x y ≡ false → Below y x
below-of-not-lt x y p q n = go (eq x y) refl
  where
    go : (b : Bool) → eq x y ≡ b → Below y x
    go true e = below-of-eq y x (eq-sym y x ∙ e)
    go false e = below-of-lt y x (trichotomy x y p q n e)
