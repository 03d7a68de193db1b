-- The bytes of words or floats, and a slice that is filled with them, four bytes a turn. Assumes nothing.
use mathlib.Core.Path.{◌≡◌, refl, sym, ap, ◌∙◌}
use mathlib.Core.List.{List, [], ◌∷◌, ◌++◌}
use Prim.Native.Nat.{ℕ, suc, ◌+◌, ◌*◌, ◌/◌, ◌%◌, ◌≤◌, ◌<◌, min}
use native.Mathlib.Numerals.{add-one}
use native.Mathlib.Omega.{arith}
use lib.ListN.{length, get_or, take, drop, set, length-append, length-take, length-drop}
use lib.Seq.{sets-eq, take-suc, take-length, take_at, drop-append-add, drop-drop}
use Rattle.wire.specs.Bytes.{word_bytes, written_as, WroteAs}

-- the four stores of a word
pub stored : (s : List ℕ) (i w : ℕ) → i + 4 ≤ length s
    → set (set (set (set s i (w % 256)) (i + 1) (w / 256 % 256)) (i + 2) (w / 65536 % 256)) (i + 3) (w / 16777216 % 256)
    ≡ take i s ++ word_bytes w ++ drop (i + 4) s
stored s i w h =
    let two : i + 2 ≡ suc (suc i) = omega arith in
    let three : i + 3 ≡ suc (suc (suc i)) = omega arith in
    (λ j. set (set (set (set s i (w % 256)) (add-one i j) (w / 256 % 256)) (two j) (w / 65536 % 256)) (three j) (w / 16777216 % 256))
    ∙ sets-eq (word_bytes w) s i h

module _ {A : Type 0} (g : A → ℕ) where
  pub bytes-length : (xs : List A) → length (written_as g xs) ≡ 4 * length xs
  unfolding written_as
  bytes-length [] = refl
  bytes-length (x ∷ xs) = omega (arith, bytes-length xs)

  bytes-append : (xs ys : List A) → written_as g (xs ++ ys) ≡ written_as g xs ++ written_as g ys
  unfolding written_as
  bytes-append [] ys = refl
  bytes-append (x ∷ xs) ys = ap (λ (l : List ℕ). word_bytes (g x) ++ l) (bytes-append xs ys)

  -- one entry more
  bytes-more : (xs : List A) (i : ℕ) (d : A) → i < length xs
      → written_as g (take (i + 1) xs) ≡ written_as g (take i xs) ++ word_bytes (g (get_or xs i d))
  unfolding written_as
  bytes-more xs i d h =
      ap (λ (k : ℕ). written_as g (take k xs)) (add-one i) ∙ ap (written_as g) (take-suc xs i d h) ∙ bytes-append (take i xs) (get_or xs i d ∷ [])

-- the bytes of the first i entries stand in the slice, and those of n are wanted
pub record FilledBytes {A : Type 0} (g : A → ℕ) (entries : List A) (lent : List ℕ) (n : ℕ) (left : List ℕ) (i : ℕ) : Type 0 where
  pub bytes : left ≡ written_as g (take i entries) ++ drop (4 * i) lent
  pub upto : i ≤ n
  pub all : n ≡ min (length entries) (length lent / 4)

module _ {A : Type 0} (g : A → ℕ) (entries : List A) (lent : List ℕ) (n : ℕ) where
  pub start : n ≡ min (length entries) (length lent / 4) → FilledBytes g entries lent n lent 0
  unfolding written_as
  start e = record { bytes = refl; upto = omega arith; all = e }

  module _ (left : List ℕ) (i : ℕ) (f : FilledBytes g entries lent n left i) where
    written : length (written_as g (take i entries)) ≡ i * 4
    written = bytes-length g (take i entries) ∙ omega (arith, length-take i entries, f.upto, f.all)

    pub same_length : length left ≡ length lent
    same_length =
        ap length f.bytes ∙ length-append (written_as g (take i entries)) (drop (4 * i) lent)
        ∙ omega (arith, written, length-drop (4 * i) lent, f.upto, f.all)

    pub done : n ≤ i → WroteAs g entries lent left n
    done h = let e : i ≡ n = omega (arith, f.upto) in
        record { counted = f.all; bytes = f.bytes ∙ ap (λ (k : ℕ). written_as g (take k entries) ++ drop (4 * k) lent) e }

    module _ (h : i < n) where
      pub inside : (i < length entries) × (i * 4 + 4 ≤ length left)
      inside = (omega (arith, f.all), omega (arith, f.all, same_length))

      -- what a turn keeps before and after its four bytes
      kept : take (i * 4) left ≡ written_as g (take i entries)
      kept = ap (take (i * 4)) f.bytes ∙ take_at (written_as g (take i entries)) (drop (4 * i) lent) (i * 4) written

      rest : drop (i * 4 + 4) left ≡ drop (4 * (i + 1)) lent
      rest =
          let on : 4 * i + 4 ≡ 4 * (i + 1) = omega arith in
          ap (drop (i * 4 + 4)) f.bytes
          ∙ ap (λ (k : ℕ). drop (k + 4) (written_as g (take i entries) ++ drop (4 * i) lent)) (sym written)
          ∙ drop-append-add (written_as g (take i entries)) (drop (4 * i) lent) 4
          ∙ drop-drop 4 (4 * i) lent
          ∙ ap (λ (k : ℕ). drop k lent) on

      pub step : (w : ℕ) (next : List ℕ) (d : A) → w ≡ g (get_or entries i d)
          → next ≡ take (i * 4) left ++ word_bytes w ++ drop (i * 4 + 4) left → FilledBytes g entries lent n next (i + 1)
      step w next d e p = record {
        bytes =
            p ∙ (λ j. kept j ++ word_bytes (e j) ++ rest j)
            ∙ ap (λ (l : List ℕ). l ++ drop (4 * (i + 1)) lent) (sym (bytes-more g entries i d inside.0));
        upto = omega arith;
        all = f.all;
      }

-- where there is room for all
pub all-written : {A : Type 0} {g : A → ℕ} (entries : List A) (lent left : List ℕ) (n : ℕ) → WroteAs g entries lent left n → 4 * length entries ≤ length lent
    → (n ≡ length entries) × (left ≡ written_as g entries ++ drop (4 * length entries) lent)
all-written {g = g} entries lent left n w h =
    let e : n ≡ length entries = omega (arith, w.counted) in
    let bytes : left ≡ written_as g entries ++ drop (4 * length entries) lent
    = w.bytes ∙ (λ j. written_as g (take (e j) entries) ++ drop (4 * e j) lent)
    ∙ (λ j. written_as g (take-length entries j) ++ drop (4 * length entries) lent) in
    (e, bytes)
