-- A matrix whose bottom row is (0, 0, 0, 1) moves points with no division: the row times a point is 1, or NaN where the point is not
-- finite. Assumes nothing.
use mathlib.Core.Path.{◌≡◌, refl, sym, ap, subst, ◌∙◌}
use mathlib.Core.Bool.{Bool, true, false, ◌&&◌, false≢true, cond}
use mathlib.Core.List.{List, [], ◌∷◌, map, zip_with}
use Prim.Native.Nat.{ℕ, zero, suc, ◌+◌, ◌-◌, ◌*◌, ◌<◌}
use native.Mathlib.Nat.{mul-pos, zero-mul, mul-one}
use native.Mathlib.Omega.{arith}
use borrow.Author.Tests.{eqb-true, eq-eqb, lt-ltb}
use lib.Dec.{eqb, ltb}
use lib.IntN.{ℤ, pos}
use lib.Ieee.{Float, nan, inf, fin, binary32, add, mul, eq, round, sum, units, size, span, climb, odd, of_bits, of_fields, unlike, up, down}
use lib.Ieee.Scale.{round_same}
use lib.Ieee.Fits.{up_pos, down_pos}
use Rattle.float.specs.F32.{◌⊕◌, ◌⊗◌, zero32, one32}
use Rattle.model.specs.Lists.{foldl, rows_in}
use Rattle.model.specs.Vector.{Vector, total, dot}
use Rattle.model.specs.Matrix.{Matrix, entry, moved}
use Rattle.model.specs.Vertices.{affine_point, divided, transformed_point}
use Rattle.model.specs.Attributes.{over_rows}
use Rattle.model.specs.Agree.{Each}
use Rattle.model.proofs.Tests.{both}
use Rattle.vertex_rows.specs.Rows.{has_plain_bottom}

zero_is : zero32 ≡ fin false 0 (pos 0)
unfolding of_bits of_fields odd
zero_is = refl

one-is : one32 ≡ fin false 1 (pos 0)
unfolding of_bits of_fields odd
one-is = refl

zero-round : (s : Bool) → round binary32 s 0 1 ≡ fin s 0 (pos 0)
unfolding round size units span climb odd
zero-round s = refl

-- 0 or -0, or NaN
data Null : Float → Type 0 where
  naught : (s : Bool) → Null (fin s 0 (pos 0))
  none : Null nan

-- what a test for 0 tells
no-digits : (s : Bool) (m : ℕ) (e : ℤ) → eq (fin s m e) (fin false 0 (pos 0)) ≡ true → m * up e ≡ 0
unfolding eq
no-digits s m e h = omega (arith, eqb-true (m * up e * 1) (0 * 1 * down e) (both _ _ h).0, zero-mul (down e), mul-one (m * up e))

suc-pos : (m : ℕ) → 0 < suc m
suc-pos m = omega arith

digits-zero : (m : ℕ) (e : ℤ) → m * up e ≡ 0 → m ≡ 0
digits-zero zero e h = refl
digits-zero (suc m) e h = absurd (omega (arith, h, mul-pos (suc-pos m) (up_pos e)))

abbrev Nulls : Vector → Type 0
Nulls l = Each Null l

null-mul : (b x : Float) → eq b (fin false 0 (pos 0)) ≡ true → Null (b ⊗ x)
unfolding eq mul
null-mul nan x h = absurd (false≢true h)
null-mul (inf s) x h = absurd (false≢true h)
null-mul (fin s m e) nan h = none
null-mul (fin s m e) (inf t) h =
    let z = digits-zero m e (no-digits s m e h) in
    subst Null (sym (ap (λ (c : Bool). cond c nan (inf (unlike s t))) (eq-eqb m 0 z))) none
null-mul (fin s m e) (fin t n d) h =
    let z : m * up e * (n * up d) ≡ 0 = ap (λ (k : ℕ). k * (n * up d)) (no-digits s m e h) ∙ zero-mul (n * up d) in
    let r : round binary32 (unlike s t) (m * up e * (n * up d)) (down e * down d) ≡ fin (unlike s t) 0 (pos 0)
    = ap (λ (k : ℕ). round binary32 (unlike s t) k (down e * down d)) z
    ∙ round_same binary32 (unlike s t) 0 (down e * down d) 0 1 (mul-pos (down_pos e) (down_pos d)) (omega arith) (omega arith)
    ∙ zero-round (unlike s t) in
    subst Null (sym r) (naught (unlike s t))

null-add : (x y : Float) → Null x → Null y → Null (x ⊕ y)
unfolding add sum
null-add x y none q = none
null-add x y (naught s) none = none
null-add x y (naught true) (naught true) = subst Null (sym (zero-round true)) (naught true)
null-add x y (naught true) (naught false) = subst Null (sym (zero-round false)) (naught false)
null-add x y (naught false) (naught true) = subst Null (sym (zero-round false)) (naught false)
null-add x y (naught false) (naught false) = subst Null (sym (zero-round false)) (naught false)

-- 1, or NaN
data Whole : Float → Type 0 where
  one : Whole (fin false 1 (pos 0))
  other : Whole nan

one-round : round binary32 false 1 1 ≡ fin false 1 (pos 0)
unfolding round size units span climb odd
one-round = refl

sum_one : (s : Bool) (a b c : ℕ) → a ≡ 0 → b ≡ c → 0 < c → sum binary32 s a false b c ≡ fin false 1 (pos 0)
unfolding sum
sum_one false a b c p q h = round_same binary32 false (a + b) c 1 1 h (omega arith) (omega arith) ∙ one-round
sum_one true a b c p q h =
    ap (λ (t : Bool). cond t (round binary32 false (b - a) c) (round binary32 (true && ltb b a) (a - b) c)) (lt-ltb a b (omega arith))
    ∙ round_same binary32 false (b - a) c 1 1 h (omega arith) (omega arith)
    ∙ one-round

whole-add : (x e : Float) → Null x → eq e (fin false 1 (pos 0)) ≡ true → Whole (x ⊕ e)
unfolding eq add
whole-add x nan n h = absurd (false≢true h)
whole-add x (inf t) n h = absurd (false≢true h)
whole-add x (fin t n d) none h = other
whole-add x (fin true n d) (naught s) h =
    let p = both (eqb (n * up d * 1) (1 * 1 * down d)) (eqb (n * up d * 1) 0) h in
    absurd (omega (arith, eqb-true (n * up d * 1) (1 * 1 * down d) p.0, eqb-true (n * up d * 1) 0 p.1, down_pos d))
whole-add x (fin false n d) (naught s) h =
    let p = both (eqb (n * up d * 1) (1 * 1 * down d)) true h in
    let e = eqb-true (n * up d * 1) (1 * 1 * down d) p.0 in
    subst Whole (sym (sum_one s (0 * 1 * down d) (n * up d * 1) (1 * down d) (omega (arith, zero-mul (down d))) (omega arith) (omega (arith, down_pos d)))) one

-- ---- a point by such a row
null-total : (l : Vector) (x : Float) → Null x → Nulls l → Null (foldl ◌⊕◌ x l)
unfolding foldl
null-total [] x n h = n
null-total (y ∷ l) x n (m, h) = null-total l (x ⊕ y) (null-add x y n m) h

undivided : (w : Float) (v : Vector) → Whole w → divided w v ≡ v
unfolding divided eq of_bits of_fields odd
undivided w v one = refl
undivided w v other = refl

module _ (a b c e : Float) (p : eq a zero32 ≡ true) (q : eq b zero32 ≡ true) (r : eq c zero32 ≡ true) (u : eq e one32 ≡ true) where
  null : (k x : Float) → eq k zero32 ≡ true → Null (k ⊗ x)
  null k x h = null-mul k x (ap (eq k) (sym zero_is) ∙ h)

  by_row : (v : Vector) → Null (dot (a ∷ b ∷ c ∷ []) v)
  unfolding dot total zip_with
  by_row [] = subst Null (sym zero_is) (naught false)
  by_row (x ∷ []) = null-total [] (a ⊗ x) (null a x p) tt
  by_row (x ∷ y ∷ []) = null-total (b ⊗ y ∷ []) (a ⊗ x) (null a x p) (null b y q, tt)
  by_row (x ∷ y ∷ z ∷ v) = null-total (b ⊗ y ∷ c ⊗ z ∷ []) (a ⊗ x) (null a x p) (null b y q, (null c z r, tt))

  whole : (v : Vector) → Whole (dot (a ∷ b ∷ c ∷ []) v ⊕ e)
  whole v = whole-add (dot (a ∷ b ∷ c ∷ []) v) e (by_row v) (ap (eq e) (sym one-is) ∙ u)

plain-point : (m : Matrix) → has_plain_bottom m ≡ true → transformed_point m ≡ affine_point m
unfolding transformed_point moved has_plain_bottom
plain-point m h =
    let s = both (eq (entry m 3 0) zero32 && eq (entry m 3 1) zero32 && eq (entry m 3 2) zero32) (eq (entry m 3 3) one32) h in
    let t = both (eq (entry m 3 0) zero32 && eq (entry m 3 1) zero32) (eq (entry m 3 2) zero32) s.0 in
    let u = both (eq (entry m 3 0) zero32) (eq (entry m 3 1) zero32) t.0 in
    (λ j p. undivided (moved m 3 p) (affine_point m p) (whole (entry m 3 0) (entry m 3 1) (entry m 3 2) (entry m 3 3) u.0 u.1 t.1 s.1 p) j)

pub plain_moved : (m : Matrix) (lent left : List Float) (b : Bool) → b ≡ has_plain_bottom m → b ≡ true → left ≡ over_rows 3 (map (affine_point m) (rows_in 3 lent)) lent → left ≡ over_rows 3 (map (transformed_point m) (rows_in 3 lent)) lent
plain_moved m lent left b t h e = e ∙ sym (ap (λ (f : Vector → Vector). over_rows 3 (map f (rows_in 3 lent)) lent) (plain-point m (sym t ∙ h)))
