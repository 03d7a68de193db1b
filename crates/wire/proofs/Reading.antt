-- The words or floats in a list of bytes, one by one, and a slice that is filled with them. Assumes nothing.
use mathlib.Core.Path.{◌≡◌, refl, sym, ap, ◌∙◌}
use mathlib.Core.Bool.{Bool, true, false}
use mathlib.Core.List.{List}
use Prim.Native.Nat.{ℕ, ◌+◌, ◌*◌, ◌/◌, ◌≤◌, ◌<◌, min}
use native.Mathlib.Omega.{arith}
use borrow.Author.Tests.{leb-true, leb-false}
use lib.Dec.{leb}
use lib.ListN.{length, get_or, take, drop, set}
use lib.Seq.{take_all, take_at, length-take-le}
use Rattle.model.specs.Written.{Wrote}
use Rattle.model.proofs.ListLaws.{length-tabulate, get_d_tabulate}
use Rattle.model.proofs.Filling.{Filled, start, step, inside}
use Rattle.wire.specs.Bytes.{word_at, read_as}

up_to : {A : Type 0} (l : List A) (n k : ℕ) → n ≡ min (length l) k → take n l ≡ take k l
up_to l n k e = go (leb k (length l)) refl
  where
    go : (b : Bool) → leb k (length l) ≡ b → take n l ≡ take k l
    go true p = let h : n ≡ k = omega (arith, leb-true k (length l) p) in ap (λ (m : ℕ). take m l) h
    go false p =
        let h = leb-false k (length l) p in
        take_all n l (omega arith) ∙ sym (take_all k l (omega arith))

module _ {A : Type 0} (f : ℕ → A) (bytes : List ℕ) where
  pub count : length (read_as f bytes) ≡ length bytes / 4
  unfolding read_as
  count = length-tabulate (length bytes / 4) _

  pub entry : (i : ℕ) (d : A) → i < length bytes / 4 → get_or (read_as f bytes) i d ≡ f (word_at bytes (i * 4))
  unfolding read_as
  entry i d h = get_d_tabulate (length bytes / 4) _ i d h

  module _ (lent : List A) (n : ℕ) where
    pub start-entries : n ≡ min (length bytes / 4) (length lent) → Filled (read_as f bytes) lent n lent 0
    start-entries e = start (read_as f bytes) lent n (e ∙ ap (λ (k : ℕ). min k (length lent)) (sym count))

    module _ (left : List A) (i : ℕ) (g : Filled (read_as f bytes) lent n left i) (h : i < n) where
      -- the word that a turn reads
      whole : i < length bytes / 4
      whole = omega (arith, count, (inside (read_as f bytes) lent n left i g h).0)

      pub inside-bytes : i * 4 + 4 ≤ length bytes
      inside-bytes = omega (arith, whole)

      pub step-entries : (x : A) → x ≡ f (word_at bytes (i * 4)) → Filled (read_as f bytes) lent n (set left i x) (i + 1)
      step-entries x e = step (read_as f bytes) lent n left i x x g h (e ∙ sym (entry i x whole))

    -- what was read stands at the start
    pub first_read : (left : List A) → Wrote (read_as f bytes) lent left n → take n left ≡ take (length lent) (read_as f bytes)
    first_read left w =
        ap (take n) w.slice
        ∙ take_at (take n (read_as f bytes)) (drop n lent) n (length-take-le n (read_as f bytes) (omega (arith, w.counted)))
        ∙ up_to (read_as f bytes) n (length lent) w.counted

    -- where there is room for all
    pub read_all : (left : List A) → Wrote (read_as f bytes) lent left n → length bytes / 4 ≤ length lent → take n left ≡ read_as f bytes
    read_all left w h = first_read left w ∙ take_all (length lent) (read_as f bytes) (omega (arith, count))
