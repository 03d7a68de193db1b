-- Entries that are put at the start of a slice. Assumes nothing.
use Rattle.std.proofs.Common.{◌≡◌, ℕ, ◌+◌, ◌<◌, ◌≤◌, min, refl, sym, ap, ◌∙◌, Bool, true, false, List, length, take, drop, set, take_all, take_at, arith}
use borrow.Author.Tests.{leb-true, leb-false}
use lib.Dec.{leb}
use lib.ListN.{length-set}
use lib.Seq.{length-take-le, drop-set-lt, drop-drop}
use Rattle.lists.specs.Fields.{Put, Copied}

-- no more is there than there is
up_to : {A : Type 0} (l : List A) (n k : ℕ) → n ≡ min (length l) k → take n l ≡ take k l
up_to l n k e = go (leb k (length l)) refl
  where
    go : (b : Bool) → leb k (length l) ≡ b → take n l ≡ take k l
    go true p = let h : n ≡ k = omega (arith, leb-true k (length l) p) in ap (λ (m : ℕ). take m l) h
    go false p =
        let h = leb-false k (length l) p in
        take_all n l (omega arith) ∙ sym (take_all k l (omega arith))

-- the part that was copied to is as much of the entries as there is room for
pub first_copied : {A : Type 0} (entries lent left : List A) (n : ℕ) → Copied entries lent left n
    → take n left ≡ take (length lent) entries
first_copied entries lent left n h =
    ap (take n) h.wrote.slice
    ∙ take_at (take n entries) (drop n lent) n (length-take-le n entries (omega (arith, h.wrote.counted)))
    ∙ up_to entries n (length lent) h.wrote.counted

-- ---- entries that are put at the start of a slice
module _ {A : Type 0} (lent : List A) where
  pub put_none : Put lent lent 0
  put_none = record { counts = (omega arith, refl); room = refl; rest = refl }

  pub put_one : (left : List A) (n : ℕ) (x : A) → Put lent left n → n < length left → Put lent (set left n x) (n + 1)
  put_one left n x p h =
      let fits : n + 1 ≤ length (set left n x) = omega (arith, length-set left n x) in
      record {
        counts = (fits, sym (length-take-le (n + 1) (set left n x) fits));
        room = length-set left n x ∙ p.room;
        rest =
            drop-set-lt (n + 1) left n x (omega arith)
            ∙ sym (drop-drop 1 n left) ∙ ap (drop 1) p.rest ∙ drop-drop 1 n lent;
      }
