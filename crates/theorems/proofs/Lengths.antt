-- The scale that a matrix is split into is three lengths, none of them below zero or -0, whatever the matrix.
-- Assumes nothing.
use mathlib.Core.Path.{◌≡◌, refl, sym, ◌∙◌}
use mathlib.Core.Bool.{Bool, true, false, cond, beq, false≢true}
use mathlib.Core.List.{[], ◌∷◌, zip_with}
use Prim.Native.Nat.{ℕ, zero, suc, ◌+◌, ◌*◌, ◌^◌}
use native.Mathlib.Omega.{arith}
use borrow.Author.Tests.{le-ltb}
use lib.Dec.{ltb}
use lib.Ieee.{Float, nan, inf, fin, Format, binary32, up, down, odd, units, round, sum, add, mul, unlike, lt, of_bits}
use lib.Ieee.{low, emax, prec}
use Rattle.float.specs.F32.{◌⊕◌, ◌⊗◌, zero32}
use Rattle.float.specs.Sqrt.{root_round, sqrt_of}
use Rattle.model.specs.Lists.{foldl}
use Rattle.model.specs.Vector.{Vector, total, dot, norm}
use Rattle.model.specs.Matrix.{Matrix}
use Rattle.model.specs.Transform.{split}
use Rattle.theorems.specs.Signs.{signed, IsLength, LengthsOf}

-- ---- what is rounded keeps its sign

odd_sign : (d : ℕ) (s : Bool) (q k l : ℕ) → signed (odd d s q k l) ≡ s
unfolding odd
odd_sign d s zero k l = refl
odd_sign d s (suc q) k l = refl

units-sign : (f : Format) (s : Bool) (q k : ℕ) → signed (units f s q k) ≡ s
unfolding units
units-sign f s q k = go (ltb (q * 2 ^ k) (2 ^ (low f + suc (emax f))))
  where
    go : (b : Bool) → signed (cond b (odd (suc (prec f)) s q k (low f)) (inf s)) ≡ s
    go true = odd_sign (suc (prec f)) s q k (low f)
    go false = refl

round-sign : (f : Format) (s : Bool) (n d : ℕ) → signed (round f s n d) ≡ s
unfolding round
round-sign f s n d = units-sign f s _ _

-- ---- squares, sums and roots without a sign

cond-sign : (b : Bool) (x y : Float) → signed x ≡ false → signed y ≡ false → signed (cond b x y) ≡ false
cond-sign true x y h g = h
cond-sign false x y h g = g

alike : (s : Bool) → unlike s s ≡ false
alike true = refl
alike false = refl

square-sign : (f : Format) (x : Float) → signed (mul f x x) ≡ false
unfolding mul
square-sign f nan = refl
square-sign f (inf s) = alike s
square-sign f (fin s m e) = round-sign f (unlike s s) _ _ ∙ alike s

sum-sign : (f : Format) (x y : Float) → signed x ≡ false → signed y ≡ false → signed (add f x y) ≡ false
unfolding add sum
sum-sign f nan y h g = refl
sum-sign f (inf s) nan h g = refl
sum-sign f (inf s) (inf t) h g = cond-sign (beq s t) (inf s) nan h refl
sum-sign f (inf s) (fin t n d) h g = h
sum-sign f (fin s m e) nan h g = refl
sum-sign f (fin s m e) (inf t) h g = g
sum-sign f (fin true m e) (fin t n d) h g = absurd (false≢true (sym h))
sum-sign f (fin false m e) (fin true n d) h g = absurd (false≢true (sym g))
sum-sign f (fin false m e) (fin false n d) h g = round-sign f false _ _

root-sign : (f : Format) (x : Float) → signed x ≡ false → signed (sqrt_of f x) ≡ false
unfolding sqrt_of root_round
root-sign f nan h = refl
root-sign f (inf s) h = cond-sign s nan (inf false) refl refl
root-sign f (fin s zero e) h = h
root-sign f (fin s (suc m) e) h = cond-sign s nan (root_round f (suc m * up e) (down e)) refl (units-sign f false _ _)

-- ---- lengths

fold-sign : (x : Float) (v : Vector) → signed x ≡ false → signed (foldl ◌⊕◌ x (zip_with ◌⊗◌ v v)) ≡ false
unfolding foldl zip_with
fold-sign x [] h = h
fold-sign x (y ∷ v) h = fold-sign (x ⊕ y ⊗ y) v (sum-sign binary32 x (y ⊗ y) h (square-sign binary32 y))

dot-sign : (v : Vector) → signed (dot v v) ≡ false
unfolding dot total zip_with of_bits
dot-sign [] = refl
dot-sign (x ∷ v) = fold-sign (x ⊗ x) v (square-sign binary32 x)

norm-sign : (v : Vector) → signed (norm v) ≡ false
unfolding norm
norm-sign v = root-sign binary32 (dot v v) (dot-sign v)

not-below : (x : Float) → signed x ≡ false → lt x zero32 ≡ false
unfolding lt of_bits
not-below nan h = refl
not-below (inf s) h = h
not-below (fin true m e) h = absurd (false≢true (sym h))
not-below (fin false m e) h = le-ltb (m * up e * 1) (0 * down e) (omega arith)

length-of : (v : Vector) → IsLength (norm v)
length-of v = (not-below (norm v) (norm-sign v), norm-sign v)

pub split-lengths : (m : Matrix) → LengthsOf m
unfolding split
split-lengths m = (refl, (length-of _, (length-of _, (length-of _, tt))))
