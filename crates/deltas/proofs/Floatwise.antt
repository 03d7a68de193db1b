-- A flat slice that is changed float by float, and what that makes of its rows. Assumes nothing.
use mathlib.Core.Path.{◌≡◌, refl, sym, ap, ◌∙◌}
use mathlib.Core.List.{List, [], ◌∷◌, ◌++◌, append_assoc}
use Prim.Native.Nat.{ℕ, zero, suc, ◌+◌, ◌*◌, ◌≤◌, ◌<◌}
use native.Mathlib.Nat.{suc-mul}
use native.Mathlib.Numerals.{add-one}
use native.Mathlib.Omega.{arith}
use lib.ListN.{length, get_or, drop, set, length-take, length-drop}
use lib.Seq.{drop-cons, set_at, get_or_at, get_or-take, get_or-drop}
use Rattle.model.specs.Lists.{joined, tabulate, part, row}
use Rattle.model.proofs.ListLaws.{length-tabulate}
use Rattle.model.proofs.RowLaws.{flat}
use Rattle.model.proofs.Rowwise.{tabulate-more, tabulate-alike, tabulate-entries, up_to}

-- ---- lists made entry by entry
tabulate-add : {A : Type 0} (a b : ℕ) (h : ℕ → A) → tabulate (a + b) h ≡ tabulate a h ++ tabulate b (λ i. h (a + i))
unfolding tabulate
tabulate-add zero b h =
    let z : zero + b ≡ b = omega arith in
    let e : (i : ℕ) → i ≡ zero + i = λ i. omega arith in
    ap (λ (n : ℕ). tabulate n h) z ∙ tabulate-alike b h _ (λ i c. ap h (e i))
tabulate-add (suc a) b h =
    let s : suc a + b ≡ suc (a + b) = omega arith in
    let e : (i : ℕ) → suc (a + i) ≡ suc a + i = λ i. omega arith in
    ap (λ (n : ℕ). tabulate n h) s
    ∙ ap (λ (l : List _). h 0 ∷ l) (tabulate-add a b (λ i. h (suc i)))
    ∙ ap (λ (l : List _). h 0 ∷ tabulate a (λ i. h (suc i)) ++ l) (tabulate-alike b _ _ (λ i c. ap h (e i)))

-- w to a row
in_rows : {A : Type 0} (w m : ℕ) (h : ℕ → A) → tabulate (m * w) h ≡ flat (tabulate m (λ i. tabulate w (λ j. h (i * w + j))))
unfolding tabulate joined
in_rows w zero h = let z : zero * w ≡ 0 = omega arith in ap (λ (n : ℕ). tabulate n h) z
in_rows w (suc m) h =
    let s : suc m * w ≡ w + m * w = omega (arith, suc-mul m w) in
    let z : (j : ℕ) → j ≡ 0 * w + j = λ j. omega arith in
    let e : (i j : ℕ) → w + (i * w + j) ≡ suc i * w + j = λ i j. omega (arith, suc-mul i w) in
    let first = tabulate-alike w h (λ j. h (0 * w + j)) (λ j c. ap h (z j)) in
    let rest = in_rows w m (λ i. h (w + i)) ∙ ap flat (tabulate-alike m _ (λ i. tabulate w (λ j. h (suc i * w + j))) (λ i c. tabulate-alike w _ _ (λ j d. ap h (e i j)))) in
    ap (λ (n : ℕ). tabulate n h) s ∙ tabulate-add w (m * w) h ∙ (λ k. first k ++ rest k)

pub part-tabulated : {A : Type 0} (l : List A) (a n : ℕ) (d : A) → a + n ≤ length l → part l a n ≡ tabulate n (λ j. get_or l (a + j) d)
part-tabulated l a n d h =
    let e : length (part l a n) ≡ n = omega (arith, length-take n (drop a l), length-drop a l) in
    sym (tabulate-entries (part l a n) d)
    ∙ ap (λ (k : ℕ). tabulate k (λ i. get_or (part l a n) i d)) e
    ∙ tabulate-alike n _ _ (λ i c. get_or-take n (drop a l) i d c ∙ get_or-drop a l i d)

-- ---- the first k floats are done
module _ {A : Type 0} (g : ℕ → A → A) (d : A) (l : List A) where
  unfoldable pub done_to : ℕ → List A
  done_to k = tabulate k (λ i. g i (get_or l i d)) ++ drop k l

  pub none_done : done_to 0 ≡ l
  unfolding done_to tabulate
  none_done = refl

  front : (k : ℕ) → length (tabulate k (λ i. g i (get_or l i d))) ≡ k
  front k = length-tabulate k _

  split : (k : ℕ) → k < length l → done_to k ≡ tabulate k (λ i. g i (get_or l i d)) ++ get_or l k d ∷ drop (suc k) l
  unfolding done_to
  split k h = ap (λ (m : List A). tabulate k (λ i. g i (get_or l i d)) ++ m) (drop-cons l k d h)

  -- the next one is as lent
  pub next-float : (k : ℕ) → k < length l → get_or (done_to k) k d ≡ get_or l k d
  next-float k h = ap (λ (m : List A). get_or m k d) (split k h) ∙ get_or_at (tabulate k (λ i. g i (get_or l i d))) (get_or l k d) (drop (suc k) l) d k (front k)

  pub float-done : (k : ℕ) → k < length l → set (done_to k) k (g k (get_or l k d)) ≡ done_to (k + 1)
  unfolding done_to
  float-done k h =
      let x = g k (get_or l k d) in
      let f = tabulate k (λ i. g i (get_or l i d)) in
      ap (λ (m : List A). set m k x) (split k h)
      ∙ set_at f (get_or l k d) (drop (suc k) l) x k (front k)
      ∙ sym (append_assoc f (x ∷ []) (drop (suc k) l))
      ∙ ap (λ (m : List A). m ++ drop (suc k) l) (sym (tabulate-more k (λ i. g i (get_or l i d))))
      ∙ ap done_to (sym (add-one k))

  pub step : (left : List A) (k : ℕ) → left ≡ done_to k → k < length l → set left k (g k (get_or left k d)) ≡ done_to (k + 1)
  step left k e h =
      ap (λ (m : List A). set m k (g k (get_or m k d))) e ∙ ap (λ (x : A). set (done_to k) k (g k x)) (next-float k h) ∙ float-done k h

  -- floats done by rows
  pub by_rows : (w m : ℕ) (f : ℕ → List A → List A) → ((i : ℕ) → i < m → tabulate w (λ j. g (i * w + j) (get_or l (i * w + j) d)) ≡ f i (row w l i)) → done_to (m * w) ≡ up_to w f l m
  unfolding done_to up_to
  by_rows w m f h =
      ap (λ (front : List A). front ++ drop (m * w) l) (in_rows w m (λ i. g i (get_or l i d)) ∙ ap flat (tabulate-alike m _ _ h))
