-- A field of words that are lent, or of a part that lies in its slice, is what its slot asks for. Assumes nothing.
use mathlib.Core.Path.{◌≡◌, refl, sym, ap, subst, ◌∙◌}
use mathlib.Core.Bool.{Bool, true, false, ◌||◌, false≢true}
use mathlib.Core.List.{List, [], ◌∷◌}
use mathlib.Core.Option.{some}
use Prim.Native.Nat.{ℕ, zero, suc, ◌+◌, ◌*◌, ◌%◌, ◌≤◌, ◌<◌}
use native.Mathlib.Nat.{mul-mod_left}
use native.Mathlib.Omega.{arith}
use borrow.Author.Tests.{leb-true, ltb-false, le-leb}
use lib.Dec.{T, eqb, eqb_refl, lit<}
use lib.Ieee.{Float, nan, inf, fin, binary32, fits, is_nan, to_bits}
use lib.Ieee.Bits.{to_bits-lt, of_bits-to_bits, nan_bits_is, nan_bits_above}
use lib.ListN.{length, get_or, take, drop, length-drop, length-map}
use lib.Seq.{length-take-le}
use Rattle.model.specs.Lists.{pick, every, part}
use Rattle.tracks.specs.declared.Part.{Part}
use Rattle.tables.specs.declared.Reference.{Reference}
use Rattle.tables.specs.declared.Slot as lent
use Rattle.tables.specs.Tags.{is_marked}
use Rattle.tables.specs.Decoded.{Lent, span_in}
use Rattle.row_checks.specs.Places.{fits_in, slot_fits}
use Rattle.grammar.specs.Digits.{Sort, numbers, floats}
use Rattle.grammar.specs.Forms.{Size, entries_of, Slot, Field, Small, SmallField}
use Rattle.grammar.specs.Shape.{is_float, sorted, sized, field_holds}
use Rattle.grammar.proofs.Words.{and-of}
use Rattle.scene_spelling.specs.Written.{bits_of, one, listed, there, id_field, slot_field, joints_field}

-- ---- what is lent has 32 bits

abbrev pub Words32 : List ℕ → Type 0
Words32 l = (i : ℕ) → get_or l i 0 < 0x1_0000_0000

abbrev pub Floats32 : List Float → Type 0
Floats32 l = (i : ℕ) → T (fits binary32 (get_or l i nan))

pub record Lent32 (l : Lent) : Type 0 where
  pub words : Words32 l.words
  pub floats : Floats32 l.floats
  pub node_weights : Floats32 l.node_weights
  pub mesh_weights : Floats32 l.mesh_weights

-- what holds of every entry of a list and of the default holds of every entry of a part
module _ {A : Type 0} (P : A → Type 0) (d : A) (z : P d) where
  of-behind : (n : ℕ) (l : List A) → ((i : ℕ) → P (get_or l i d)) → (i : ℕ) → P (get_or (drop n l) i d)
  of-behind zero l h = h
  of-behind (suc n) [] h = λ i. z
  of-behind (suc n) (x ∷ l) h = of-behind n l (λ i. h (suc i))

  of-first : (n : ℕ) (l : List A) → ((i : ℕ) → P (get_or l i d)) → (i : ℕ) → P (get_or (take n l) i d)
  of-first zero l h i = z
  of-first (suc n) [] h i = z
  of-first (suc n) (x ∷ l) h zero = h 0
  of-first (suc n) (x ∷ l) h (suc i) = of-first n l (λ j. h (suc j)) i

  of_part : (l : List A) (at n : ℕ) → ((i : ℕ) → P (get_or l i d)) → (i : ℕ) → P (get_or (part l at n) i d)
  of_part l at n h = of-first n (drop at l) (of-behind at l h)

pub part-long : {A : Type 0} (l : List A) (at n : ℕ) → at + n ≤ length l → length (part l at n) ≡ n
part-long l at n h = length-take-le n (drop at l) (simp length-drop (omega arith))

words_small : (l : List ℕ) → Words32 l → Small l
words_small [] h = tt
words_small (x ∷ l) h = (h 0, words_small l (λ i. h (suc i)))

-- ---- the bits of a float

number-float : (x : Float) → T (fits binary32 x) → is_nan x ≡ false → T (is_float (to_bits binary32 x))
number-float x h e =
    let w = to_bits binary32 x in
    let low = ltb-false 0x7f80_0000 (w % 0x8000_0000)
    (sym (nan_bits_above binary32 w) ∙ nan_bits_is binary32 w ∙ ap is_nan (of_bits-to_bits binary32 x h) ∙ e) in
    subst (λ (b : Bool). T (b || eqb w 0x7fc0_0000)) (sym (le-leb (w % 0x8000_0000) 0x7f80_0000 low)) tt

pub bits-float : (x : Float) → T (fits binary32 x) → T (is_float (to_bits binary32 x))
unfolding to_bits is_nan
bits-float nan h = tt
bits-float (inf s) h = number-float (inf s) h refl
bits-float (fin s m e) h = number-float (fin s m e) h refl

floats-small : (l : List Float) → Floats32 l → Small (bits_of l)
floats-small [] h = tt
floats-small (x ∷ l) h = (to_bits-lt binary32 x (h 0), floats-small l (λ i. h (suc i)))

floats-float : (l : List Float) → Floats32 l → T (every is_float (bits_of l))
unfolding every
floats-float [] h = tt
floats-float (x ∷ l) h =
    and-of (is_float (to_bits binary32 x)) (every is_float (bits_of l)) (bits-float x (h 0))
    (floats-float l (λ i. h (suc i)))

-- ---- a field that is what its slot asks for

pub record Fills (t : Slot) (x : Field) : Type 0 where
  pub small : SmallField x
  pub holds : T (field_holds t x)

some-fills : {t : Slot} {xs : List ℕ} → Small xs → T (sorted t.sort xs) → T (sized t.size (length xs))
    → Fills t (some xs)
some-fills {t} {xs} h s z =
    record { small = h; holds = and-of (sorted t.sort xs) (sized t.size (length xs)) s z }

pub there-fills : {t : Slot} (b : Bool) {xs : List ℕ} → (b ≡ true → Fills t (some xs)) → Fills t (there b xs)
there-fills true h = h refl
there-fills false h = record { small = tt; holds = tt }

-- ---- words of a record

pub one-fills : {t : Slot} {x : ℕ} → x < 0x1_0000_0000 → T (field_holds t (one x)) → Fills t (one x)
one-fills h o = record { small = (h, tt); holds = o }

pub id-fills : {t : Slot} (r : Reference) → r.id < 0x1_0000_0000 → T (field_holds t (one r.id))
    → Fills t (id_field r)
id-fills r h o = there-fills (is_marked r.mark) (λ e. one-fills h o)

pub listed-fills : {t : Slot} (p : Part) → p.at < 0x1_0000_0000 → p.count < 0x1_0000_0000
    → T (field_holds t (listed p)) → Fills t (listed p)
listed-fills p h g o = record { small = (h, (g, tt)); holds = o }

-- ---- parts that lie in their slices

whole : (s : Size) (c w : ℕ) → s ≡ entries_of w → T (sized s (c * w))
whole s c w e =
    subst (λ (s : Size). T (sized s (c * w))) (sym e)
    (subst (λ (n : ℕ). T (eqb n 0)) (sym (mul-mod_left c w)) (eqb_refl 0))

-- a part of a slot that is absent is asked nothing
pub marked-fits : (b fits : Bool) → pick b fits true ≡ true → b ≡ true → fits ≡ true
marked-fits true fits h e = h
marked-fits false fits h e = absurd (false≢true e)

module _ (l : List ℕ) (low : Words32 l) where
  pub numbers-fill : {t : Slot} (p : Part) (w : ℕ) → t.sort ≡ numbers → t.size ≡ entries_of w
      → fits_in p w (length l) ≡ true → Fills t (some (span_in l p w))
  numbers-fill {t} p w s z inside =
      let n = p.count * w in
      let xs = span_in l p w in
      some-fills (words_small xs (of_part (λ (x : ℕ). x < 0x1_0000_0000) 0 (lit< tt) l p.at n low))
      (subst (λ (s : Sort). T (sorted s xs)) (sym s) tt)
      (subst (λ (n : ℕ). T (sized t.size n)) (sym (part-long l p.at n (leb-true (p.at + n) (length l) inside)))
      (whole t.size p.count w z))

  pub joints-fill : {t : Slot} (s : lent.Slot) → t.sort ≡ numbers → t.size ≡ entries_of 4
      → slot_fits s 4 (length l) ≡ true → Fills t (joints_field l s)
  joints-fill s k z inside =
      there-fills (is_marked s.mark)
      (λ e. numbers-fill s.part 4 k z (marked-fits (is_marked s.mark) (fits_in s.part 4 (length l)) inside e))

module _ (l : List Float) (held : Floats32 l) where
  pub floats_fill : {t : Slot} (p : Part) (w : ℕ) → t.sort ≡ floats → T (sized t.size (p.count * w))
      → p.at + p.count * w ≤ length l → Fills t (some (bits_of (span_in l p w)))
  unfolding fits
  floats_fill {t} p w s z inside =
      let n = p.count * w in
      let xs = span_in l p w in
      let each : Floats32 xs = of_part (λ (x : Float). T (fits binary32 x)) nan tt l p.at n held in
      let long : length (bits_of xs) ≡ n = length-map xs (to_bits binary32) ∙ part-long l p.at n inside in
      some-fills (floats-small xs each) (subst (λ (s : Sort). T (sorted s (bits_of xs))) (sym s) (floats-float xs each))
      (subst (λ (n : ℕ). T (sized t.size n)) (sym long) z)

  pub entries-fill : {t : Slot} (p : Part) (w : ℕ) → t.sort ≡ floats → t.size ≡ entries_of w
      → fits_in p w (length l) ≡ true → Fills t (some (bits_of (span_in l p w)))
  entries-fill {t} p w s z inside =
      floats_fill p w s (whole t.size p.count w z) (leb-true (p.at + p.count * w) (length l) inside)

  pub slot-fills : {t : Slot} (s : lent.Slot) (w : ℕ) → t.sort ≡ floats → t.size ≡ entries_of w
      → slot_fits s w (length l) ≡ true → Fills t (slot_field l s w)
  slot-fills s w k z inside =
      there-fills (is_marked s.mark)
      (λ e. entries-fill s.part w k z (marked-fits (is_marked s.mark) (fits_in s.part w (length l)) inside e))
