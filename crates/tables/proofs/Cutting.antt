-- Parts of a slice, cut off where they would leave it. Assumes nothing.
use mathlib.Core.Path.{◌≡◌, refl, sym, ap, ◌∙◌}
use mathlib.Core.Bool.{Bool, true, false}
use mathlib.Core.List.{List}
use Prim.Native.Nat.{ℕ, ◌+◌, ◌-◌, ◌*◌, ◌/◌, ◌≤◌, ◌<◌, min}
use native.Mathlib.Nat.{le-div_iff_mul-le, div-lt_iff_lt-mul}
use native.Mathlib.Omega.{arith}
use borrow.Author.Tests.{leb-true, leb-false, le-leb, lt-leb}
use lib.Dec.{leb}
use lib.Ieee.{Float}
use lib.ListN.{length, take, drop, replicate, length-drop, drop_of_length-le}
use lib.Seq.{take_all}
use Rattle.float.specs.F32.{zero32}
use Rattle.model.specs.Lists.{pick, part}
use Rattle.tracks.specs.declared.Part.{Part}
use Rattle.tables.specs.Decoded.{span_in, ten_in}

-- ---- how many entries there is room for
pub no-width : (count width room : ℕ) → width ≡ 0 → 0 ≡ min (count * width) room
no-width count width room e = omega (arith, ap (λ (w : ℕ). count * w) e)

module _ (count width room : ℕ) (p : width ≡ 0 → ⊥) where
  pub has_room : count ≤ room / width → count * width ≤ room
  has_room h = let q : 0 < width = omega (arith, p) in (le-div_iff_mul-le {k = width} {x = count} {y = room} q).0 h

  pub no_room : room / width < count → room < count * width
  no_room h = let q : 0 < width = omega (arith, p) in (div-lt_iff_lt-mul {k = width} {x = room} {y = count} q).0 h

-- ---- a part
module _ {A : Type 0} (l : List A) where
  from_start : (b : Bool) (at : ℕ) → leb at (length l) ≡ b → drop (min at (length l)) l ≡ drop at l
  from_start true at e = let h : min at (length l) ≡ at = omega (arith, leb-true at (length l) e) in ap (λ (k : ℕ). drop k l) h
  from_start false at e =
      let h = leb-false at (length l) e in
      drop_of_length-le l {i = min at (length l)} (omega arith) ∙ sym (drop_of_length-le l {i = at} (omega arith))

  up_to : (b : Bool) (n : ℕ) → leb n (length l) ≡ b → take (min n (length l)) l ≡ take n l
  up_to true n e = let h : min n (length l) ≡ n = omega (arith, leb-true n (length l) e) in ap (λ (k : ℕ). take k l) h
  up_to false n e =
      let h = leb-false n (length l) e in
      take_all (min n (length l)) l (omega arith) ∙ sym (take_all n l (omega arith))

-- what the code takes is the part
pub cut_off : {A : Type 0} (l : List A) (p : Part) (width start n : ℕ) → start ≡ min p.at (length l) → n ≡ min (p.count * width) (length l - start) → take (start + n - start) (drop start l) ≡ span_in l p width
cut_off l p width start n e f =
    let d : drop start l ≡ drop p.at l = ap (λ (k : ℕ). drop k l) e ∙ from_start l (leb p.at (length l)) p.at refl in
    let g : start + n - start ≡ min (p.count * width) (length (drop start l)) = omega (arith, length-drop start l) in
    ap (λ (k : ℕ). take k (drop start l)) g
    ∙ up_to (drop start l) (leb (p.count * width) (length (drop start l))) (p.count * width) refl
    ∙ ap (take (p.count * width)) d

-- ---- ten floats, or zeros
module _ (floats : List Float) (at : ℕ) where
  choice : Bool → List Float
  choice b = pick b (part floats at 10) (replicate 10 zero32)

  pub ten-there : at + 10 ≤ length floats → take (at + 10 - at) (drop at floats) ≡ ten_in floats at
  unfolding ten_in choice
  ten-there h =
      let e : at + 10 - at ≡ 10 = omega arith in
      ap (λ (n : ℕ). take n (drop at floats)) e ∙ ap choice (sym (le-leb (at + 10) (length floats) h))

  pub ten-missing : length floats < at + 10 → replicate 10 zero32 ≡ ten_in floats at
  unfolding ten_in choice
  ten-missing h = ap choice (sym (lt-leb (at + 10) (length floats) h))
