-- A vector divided by its length, test by test. Assumes nothing.
use mathlib.Core.Path.{◌≡◌, refl, sym, ap, ◌∙◌}
use mathlib.Core.Bool.{Bool, true, false, ◌&&◌}
use mathlib.Core.Option.{Option, none, some}
use lib.Ieee.{Float, lt, ne}
use lib.Ieee.Scale.{finite}
use Rattle.float.specs.F32.{zero32, one32}
use Rattle.model.specs.Lists.{pick}
use Rattle.model.specs.Vector.{Vector, over, norm, normalized}
use Rattle.model.specs.Vertices.{divided}

module _ (v : Vector) (n : Float) (e : n ≡ norm v) where
  by-test : (a b : Bool) → finite n ≡ a → lt zero32 n ≡ b → normalized v ≡ pick (a && b) (some (over v n)) none
  unfolding normalized
  by-test a b p q =
      ap (λ (m : Float). pick {A = Option Vector} (finite m && lt zero32 m) (some (over v m)) none) (sym e)
      ∙ (λ j. pick {A = Option Vector} (p j && q j) (some (over v n)) none)

  pub has-length : finite n ≡ true → lt zero32 n ≡ true → some (over v n) ≡ normalized v
  has-length p q = sym (by-test true true p q)

  pub not_finite : finite n ≡ false → none ≡ normalized v
  not_finite p = sym (by-test false (lt zero32 n) p refl)

  pub not-above : lt zero32 n ≡ false → none ≡ normalized v
  not-above q = sym (by-test (finite n) false refl q ∙ none-either (finite n))
    where
      none-either : (a : Bool) → pick {A = Option Vector} (a && false) (some (over v n)) none ≡ none
      none-either true = refl
      none-either false = refl

-- ---- a point divided by w
module _ (v : Vector) (w : Float) where
  by-tests : (a b c : Bool) → ne w zero32 ≡ a → ne w one32 ≡ b → finite w ≡ c → divided w v ≡ pick (a && b && c) (over v w) v
  unfolding divided ne
  by-tests a b c p q r = λ j. pick (p j && q j && r j) (over v w) v

  pub is-divided : ne w zero32 ≡ true → ne w one32 ≡ true → finite w ≡ true → over v w ≡ divided w v
  is-divided p q r = sym (by-tests true true true p q r)

  pub not-by-zero : ne w zero32 ≡ false → v ≡ divided w v
  not-by-zero p = sym (by-tests false (ne w one32) (finite w) p refl refl)

  either : (a : Bool) → pick (a && false) (over v w) v ≡ v
  either true = refl
  either false = refl

  pub not-by-one : ne w one32 ≡ false → v ≡ divided w v
  not-by-one q = sym (by-tests (ne w zero32) false (finite w) refl q refl ∙ whatever (ne w zero32) (finite w))
    where
      whatever : (a c : Bool) → pick (a && false && c) (over v w) v ≡ v
      whatever true c = refl
      whatever false c = refl

  pub not-by-infinity : finite w ≡ false → v ≡ divided w v
  not-by-infinity r = sym (by-tests (ne w zero32) (ne w one32) false refl refl r ∙ either (ne w zero32 && ne w one32))
