-- In-betweens read one by one: those past the words are blank, and tests and counts of the first k. Assumes nothing.
use mathlib.Core.Path.{◌≡◌, refl, sym, ap, ◌∙◌}
use mathlib.Core.Bool.{Bool, true, false, ◌||◌, or-true}
use mathlib.Core.List.{List, [], ◌∷◌, ◌++◌}
use mathlib.Core.Option.{none}
use Prim.Native.Nat.{ℕ, zero, suc, ◌+◌, ◌*◌, ◌≤◌, ◌<◌, min}
use native.Mathlib.Numerals.{add-one}
use native.Mathlib.Decide.{dec_lt}
use native.Mathlib.Omega.{arith}
use lib.Ieee.{Float}
use lib.ListN.{length, get_or, take, length-append, get_or-eq_default}
use lib.Seq.{take-suc}
use Rattle.model.specs.Lists.{pick, keep, any_of}
use Rattle.tracks.specs.declared.Part.{Part}
use Rattle.float.specs.F32.{zero32}
use Rattle.model.specs.Scene.{InBetween}
use Rattle.model.proofs.ListLaws.{length-tabulate, get_d_tabulate}
use Rattle.tables.specs.declared.Header.{Header}
use Rattle.tables.specs.Records.{word_of, target_row, in_between_row}
use Rattle.deltas.specs.Betweens.{betweens_in, station_at}

-- ---- a record past the words
module _ (words : List ℕ) (t : Part) (stride i : ℕ) (wide : i ≤ i * stride) (whole : length words ≤ length words * stride) where
  cut_off : (k : ℕ) → word_of words t stride (min i (length words)) k ≡ word_of words t stride i k
  unfolding word_of
  cut_off k = elim (dec_lt i (length words)) [
    | yes h ↦ let e : min i (length words) ≡ i = omega arith in ap (λ (n : ℕ). get_or words (t.at + n * stride + k) 0) e
    | no h ↦
        let e : min i (length words) ≡ length words = omega arith in
        ap (λ (n : ℕ). get_or words (t.at + n * stride + k) 0) e
        ∙ get_or-eq_default words 0 {n = t.at + length words * stride + k} (omega arith)
        ∙ sym (get_or-eq_default words 0 {n = t.at + i * stride + k} (omega arith))
  ]

pub target-cut-off : (words : List ℕ) (t : Part) (i : ℕ) → target_row words t (min i (length words)) ≡ target_row words t i
target-cut-off words t i =
    let e = cut_off words t 12 i (omega arith) (omega arith) in
    (λ j. record {
      positions = record { mark = e 0 j; part = record { at = e 1 j; count = e 2 j } };
      normals = record { mark = e 3 j; part = record { at = e 4 j; count = e 5 j } };
      tangents = record { mark = e 6 j; part = record { at = e 7 j; count = e 8 j } };
      in_betweens = record { at = e 9 j; count = e 10 j };
    })

pub between-cut-off : (words : List ℕ) (t : Part) (i : ℕ) → in_between_row words t (min i (length words)) ≡ in_between_row words t i
between-cut-off words t i =
    let e = cut_off words t 8 i (omega arith) (omega arith) in
    (λ j. record {
      weight = e 0 j;
      positions = record { mark = e 1 j; part = record { at = e 2 j; count = e 3 j } };
      normals = record { mark = e 4 j; part = record { at = e 5 j; count = e 6 j } };
    })

-- ---- the first k of a list, and one more
module _ {A : Type 0} (p : A → Bool) where
  any_append : (xs ys : List A) → any_of p (xs ++ ys) ≡ (any_of p xs || any_of p ys)
  unfolding any_of
  any_append [] ys = refl
  any_append (x ∷ xs) ys = go (p x) (any_append xs ys)
    where
      go : (b : Bool) → any_of p (xs ++ ys) ≡ (any_of p xs || any_of p ys) → (b || any_of p (xs ++ ys)) ≡ ((b || any_of p xs) || any_of p ys)
      go true e = refl
      go false e = e

  pub none_more : (l : List A) (k : ℕ) (d : A) → k < length l → any_of p (take k l) ≡ false → p (get_or l k d) ≡ false → any_of p (take (k + 1) l) ≡ false
  unfolding any_of
  none_more l k d h e f =
      ap (λ (n : ℕ). any_of p (take n l)) (add-one k)
      ∙ ap (any_of p) (take-suc l k d h)
      ∙ any_append (take k l) (get_or l k d ∷ [])
      ∙ (λ j. e j || (f j || false))

  pub one-does : (l : List A) (k : ℕ) (d : A) → k < length l → p (get_or l k d) ≡ true → any_of p l ≡ true
  unfolding any_of
  one-does [] k d h e = absurd (omega arith)
  one-does (x ∷ l) zero d h e = ap (λ (b : Bool). b || any_of p l) e
  one-does (x ∷ l) (suc k) d h e = ap (λ (b : Bool). p x || b) (one-does l k d (omega arith) e) ∙ or-true (p x)

  keep_append : (xs ys : List A) → keep p (xs ++ ys) ≡ keep p xs ++ keep p ys
  unfolding keep
  keep_append [] ys = refl
  keep_append (x ∷ xs) ys = go (p x) (keep_append xs ys)
    where
      go : (b : Bool) → keep p (xs ++ ys) ≡ keep p xs ++ keep p ys → pick b (x ∷ keep p (xs ++ ys)) (keep p (xs ++ ys)) ≡ pick b (x ∷ keep p xs) (keep p xs) ++ keep p ys
      go true e = ap (λ (l : List A). x ∷ l) e
      go false e = e

  pub kept_more : (l : List A) (k : ℕ) (d : A) (b : Bool) → k < length l → p (get_or l k d) ≡ b → length (keep p (take (k + 1) l)) ≡ length (keep p (take k l)) + pick b 1 0
  unfolding keep
  kept_more l k d b h e =
      ap (λ (n : ℕ). length (keep p (take n l))) (add-one k)
      ∙ ap (λ (m : List A). length (keep p m)) (take-suc l k d h)
      ∙ ap length (keep_append (take k l) (get_or l k d ∷ []))
      ∙ length-append (keep p (take k l)) (pick (p (get_or l k d)) (get_or l k d ∷ []) [])
      ∙ ap (λ (c : Bool). length (keep p (take k l)) + length (pick c (get_or l k d ∷ []) [])) e
      ∙ last b
    where
      last : (b : Bool) → length (keep p (take k l)) + length (pick b (get_or l k d ∷ []) []) ≡ length (keep p (take k l)) + pick b 1 0
      last true = refl
      last false = refl

-- ---- the in-betweens that a part names
abbrev pub unread : InBetween
unread = record { weight = zero32; positions = none; normals = none }

module _ (words : List ℕ) (floats : List Float) (h : Header) (betweens : Part) where
  pub between-count : length (betweens_in words floats h betweens) ≡ betweens.count
  between-count = length-tabulate betweens.count _

  pub between-weight : (k : ℕ) → k < betweens.count → (get_or (betweens_in words floats h betweens) k unread).weight ≡ (station_at words floats h betweens k).weight
  between-weight k c = ap (λ (b : InBetween). b.weight) (get_d_tabulate betweens.count _ k unread c)
