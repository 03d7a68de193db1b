-- The quaternion of a rotation, test by test. Assumes nothing.
use mathlib.Core.Path.{◌≡◌, refl, sym, ◌∙◌}
use mathlib.Core.Bool.{Bool, true, false, ◌&&◌}
use lib.Ieee.{Float, lt}
use Rattle.float.specs.F32.{◌⊕◌, ◌⊖◌, zero32, one32}
use Rattle.model.specs.Lists.{pick}
use Rattle.model.specs.Vector.{Vector, at}
use Rattle.model.specs.Transform.{from_w, from_x, from_y, from_z, twice_root, quaternion}

module _ (a b c : Vector) where
  abbrev x : Float
  x = at a 0

  abbrev y : Float
  y = at b 1

  abbrev z : Float
  z = at c 2

  abbrev w' : Vector
  w' = from_w a b c (twice_root (x ⊕ y ⊕ z ⊕ one32))

  abbrev x' : Vector
  x' = from_x a b c (twice_root (one32 ⊕ x ⊖ y ⊖ z))

  abbrev y' : Vector
  y' = from_y a b c (twice_root (one32 ⊕ y ⊖ x ⊖ z))

  abbrev z' : Vector
  z' = from_z a b c (twice_root (one32 ⊕ z ⊖ x ⊖ y))

  -- what the three tests choose
  by-tests : (p q r : Bool) → lt zero32 (x ⊕ y ⊕ z) ≡ p → (lt y x && lt z x) ≡ q → lt z y ≡ r → quaternion a b c ≡ pick p w' (pick q x' (pick r y' z'))
  unfolding quaternion
  by-tests p q r e f g = λ j. pick (e j) w' (pick (f j) x' (pick (g j) y' z'))

  pub at-trace : lt zero32 (x ⊕ y ⊕ z) ≡ true → w' ≡ quaternion a b c
  at-trace p = sym (by-tests true (lt y x && lt z x) (lt z y) p refl refl)

  pub at_first : lt zero32 (x ⊕ y ⊕ z) ≡ false → lt y x ≡ true → lt z x ≡ true → x' ≡ quaternion a b c
  at_first p q r = sym (by-tests false true (lt z y) p (λ j. q j && r j) refl)

  pub at_second : lt zero32 (x ⊕ y ⊕ z) ≡ false → (lt y x && lt z x) ≡ false → lt z y ≡ true → y' ≡ quaternion a b c
  at_second p q r = sym (by-tests false false true p q r)

  pub at-third : lt zero32 (x ⊕ y ⊕ z) ≡ false → (lt y x && lt z x) ≡ false → lt z y ≡ false → z' ≡ quaternion a b c
  at-third p q r = sym (by-tests false false false p q r)

  -- the first number on the diagonal is not above the second, or not above the third
  pub not-first-left : lt y x ≡ false → (lt y x && lt z x) ≡ false
  not-first-left e = λ j. e j && lt z x

  pub not-first-right : lt z x ≡ false → (lt y x && lt z x) ≡ false
  not-first-right e = (λ j. lt y x && e j) ∙ and-false (lt y x)
    where
      and-false : (p : Bool) → (p && false) ≡ false
      and-false true = refl
      and-false false = refl
