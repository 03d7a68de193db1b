-- Rows of one length, one after the other: one of them read, replaced and added. Assumes nothing.
use mathlib.Core.Path.{◌≡◌, refl, sym, ap, ◌∙◌}
use mathlib.Core.Bool.{Bool, true, false}
use mathlib.Core.List.{List, ◌++◌, append_assoc}
use Prim.Native.Nat.{ℕ, zero, suc, ◌+◌, ◌*◌, ◌<◌}
use native.Mathlib.Nat.{suc-mul}
use native.Mathlib.Omega.{arith}
use borrow.Author.Tests.{eqb-true, eqb-false}
use lib.Dec.{eqb}
use lib.ListN.{length, take, drop, length-append}
use lib.Seq.{paste, take_all, take_at, drop_at, drop-append-add, drop-drop}
use Rattle.pose.specs.Encoded.{rows_of}

module _ {A : Type 0} (w : ℕ) where
  -- the first n have w entries each
  abbrev pub Wide : ℕ → (ℕ → List A) → Type 0
  Wide n f = (i : ℕ) → i < n → length (f i) ≡ w

  pub length-rows : (n : ℕ) (f : ℕ → List A) → Wide n f → length (rows_of n f) ≡ n * w
  unfolding rows_of
  length-rows zero f h = omega arith
  length-rows (suc n) f h =
      omega (arith, length-append (rows_of n f) (f n), length-rows n f (λ i l. h i (omega arith)), h n (omega arith), suc-mul n w)

  pub rows_alike : (n : ℕ) (f g : ℕ → List A) → ((i : ℕ) → i < n → f i ≡ g i) → rows_of n f ≡ rows_of n g
  unfolding rows_of
  rows_alike zero f g h = refl
  rows_alike (suc n) f g h = λ j. rows_alike n f g (λ i l. h i (omega arith)) j ++ h n (omega arith) j

  -- the part of w entries after a is r
  paste-mid : (a b r s : List A) (at : ℕ) → length a ≡ at → length b ≡ w → length s ≡ w → paste ((a ++ b) ++ r) at s w ≡ (a ++ s) ++ r
  paste-mid a b r s at p q o =
      let x : take at ((a ++ b) ++ r) ≡ a = ap (take at) (append_assoc a b r) ∙ take_at a (b ++ r) at p in
      let y : take w s ≡ s = take_all w s (omega arith) in
      let z : drop (at + w) ((a ++ b) ++ r) ≡ r = drop_at (a ++ b) r (at + w) (omega (arith, length-append a b)) in
      λ j. (x j ++ y j) ++ z j

  module _ (i : ℕ) where
    pub get-row : (n : ℕ) (f : ℕ → List A) → Wide n f → i < n → (rest : List A) → take w (drop (i * w) (rows_of n f ++ rest)) ≡ f i
    unfolding rows_of
    get-row zero f h l rest = absurd (omega arith)
    get-row (suc n) f h l rest = ap (λ (x : List A). take w (drop (i * w) x)) (append_assoc (rows_of n f) (f n) rest) ∙ go (eqb i n) refl (λ b. get-row n f (λ k l. h k (omega arith)) b (f n ++ rest))
      where
        go : (b : Bool) → eqb i n ≡ b → (i < n → take w (drop (i * w) (rows_of n f ++ (f n ++ rest))) ≡ f i) → take w (drop (i * w) (rows_of n f ++ (f n ++ rest))) ≡ f i
        go true e inner =
            let q = eqb-true i n e in
            ap (take w) (drop_at (rows_of n f) (f n ++ rest) (i * w) (length-rows n f (λ k l. h k (omega arith)) ∙ ap (λ (k : ℕ). k * w) (sym q)))
            ∙ take_at (f n) rest w (h n (omega arith)) ∙ ap f (sym q)
        go false e inner = let q = eqb-false i n e in inner (omega (arith, q))

    pub put-row : (n : ℕ) (f g : ℕ → List A) → Wide n f → i < n → (rest : List A) → length (g i) ≡ w → ((k : ℕ) → k < n → (k ≡ i → ⊥) → f k ≡ g k)
        → paste (rows_of n f ++ rest) (i * w) (g i) w ≡ rows_of n g ++ rest
    unfolding rows_of
    put-row zero f g h l rest o off = absurd (omega arith)
    put-row (suc n) f g h l rest o off =
        go (eqb i n) refl (λ b. put-row n f g (λ k l. h k (omega arith)) b (f n ++ rest) o (λ k l. off k (omega arith)))
      where
        go : (b : Bool) → eqb i n ≡ b → (i < n → paste (rows_of n f ++ (f n ++ rest)) (i * w) (g i) w ≡ rows_of n g ++ (f n ++ rest))
            → paste ((rows_of n f ++ f n) ++ rest) (i * w) (g i) w ≡ (rows_of n g ++ g n) ++ rest
        go true e inner =
            let q = eqb-true i n e in
            paste-mid (rows_of n f) (f n) rest (g i) (i * w) (length-rows n f (λ k l. h k (omega arith)) ∙ ap (λ (k : ℕ). k * w) (sym q)) (h n (omega arith)) o
            ∙ (λ j. (rows_alike n f g (λ k l. off k (omega arith) (λ z. omega arith)) j ++ g (q j)) ++ rest)
        go false e inner =
            let q = eqb-false i n e in
            ap (λ (x : List A). paste x (i * w) (g i) w) (append_assoc (rows_of n f) (f n) rest)
            ∙ inner (omega (arith, q))
            ∙ sym (append_assoc (rows_of n g) (f n) rest)
            ∙ ap (λ (x : List A). (rows_of n g ++ x) ++ rest) (off n (omega arith) (λ z. q (sym z)))

  pub add_row : (n : ℕ) (f : ℕ → List A) → Wide n f → (s lent : List A) → length s ≡ w → s ≡ f n
      → paste (rows_of n f ++ drop (n * w) lent) (n * w) s w ≡ rows_of (suc n) f ++ drop (suc n * w) lent
  unfolding rows_of
  add_row n f h s lent o e =
      let a = rows_of n f in
      let p = length-rows n f h in
      let x : take (n * w) (a ++ drop (n * w) lent) ≡ a = take_at a (drop (n * w) lent) (n * w) p in
      let y : take w s ≡ s = take_all w s (omega arith) in
      let z : drop (n * w + w) (a ++ drop (n * w) lent) ≡ drop (suc n * w) lent
      = ap (λ (k : ℕ). drop (k + w) (a ++ drop (n * w) lent)) (sym p) ∙ drop-append-add a (drop (n * w) lent) w ∙ drop-drop w (n * w) lent
      ∙ ap (λ (k : ℕ). drop k lent) (sym (suc-mul n w)) in
      λ j. (x j ++ (y ∙ e) j) ++ z j
