-- Loops over the numbers of a block: an array that is filled, tests that are joined by `&`, and a count. Assumes nothing.
use Rattle.std.proofs.Common.{◌≡◌, ℕ, ◌+◌, ◌-◌, ◌%◌, ◌^◌, ◌<◌, ◌≤◌, Bool, true, false, ◌&&◌, eqb, List, map, length, get_or, drop, set, sym, refl, ap, ◌∙◌, subst, le_trans, add-zero, add-one, arith, length-set, drop_of_length-le, drop-cons, get_or-set_other, get_or-set_same, ext_get_or, below_more, ne_eqb}
use lib.Bits.{bit_and, and_le_l, and_le_r}
use lib.Ieee.{Float, nan, binary32}
use lib.ListN.{length-map, get_or-map}
use Rattle.float.specs.Sqrt.{sqrt_of}
use Rattle.square_root.specs.Normal.{is_normal, all_normal, one_unless}

-- ---- an array that is filled
pub set_next : {A : Type 0} (P : ℕ → A → Type 0) (l : List A) (i : ℕ) (x d : A) → i < length l → ((k : ℕ) → k < i → P k (get_or l k d)) → P i x → (k : ℕ) → k < i + 1 → P k (get_or (set l i x) k d)
set_next P l i x d h past here =
    below_more (λ k. P k (get_or (set l i x) k d)) i (λ k g. subst (P k) (sym (get_or-set_other l i k x d (other k g))) (past k g)) (subst (P i) (sym (get_or-set_same l i x d h)) here)
  where
    other : (k : ℕ) → k < i → k ≡ i → ⊥
    other k g e = omega arith

module _ (l : List Float) where
  -- the first i numbers of `out` are roots
  abbrev pub Taken : List Float → ℕ → Type 0
  Taken out i = (i ≤ 16) × (length out ≡ 16) × (length l ≡ 16) × ((k : ℕ) → k < i → get_or out k (sqrt_of binary32 nan) ≡ sqrt_of binary32 (get_or l k nan))

  pub taken_next : (out : List Float) (i : ℕ) (x : Float) → i < 16 → Taken out i → x ≡ sqrt_of binary32 (get_or l i nan) → Taken (set out i x) (i + 1)
  taken_next out i x g t e = (
    omega arith,
    length-set out i x ∙ t.1,
    t.2,
    set_next (λ k y. y ≡ sqrt_of binary32 (get_or l k nan)) out i x (sqrt_of binary32 nan) (omega arith) t.3 e,
  )

  pub taken-all : (out : List Float) (i : ℕ) → 16 ≤ i → Taken out i → out ≡ map (sqrt_of binary32) l
  taken-all out i g t =
      ext_get_or (sqrt_of binary32 nan) out (map (sqrt_of binary32) l) (omega (arith, length-map l (sqrt_of binary32)))
      (λ k h. t.3 k (omega arith) ∙ sym (get_or-map (sqrt_of binary32) l k nan))

-- ---- the test of a guess
-- s is a square, n the number and q the guess; e, u and v are s - n, that less q and that and q, wrapped
pub within : (s n q e u v : ℕ) → s ≤ 2 ^ 48 → n ≤ 2 ^ 48 → q < 2 ^ 24 → e < 2 ^ 64 → u < 2 ^ 64 → (e + n) % 2 ^ 64 ≡ s → (u + q) % 2 ^ 64 ≡ e → v ≡ (e + q) % 2 ^ 64 → 2 ^ 63 ≤ bit_and u (2 ^ 64 - 1 - v) → (s < n + q) × (n ≤ s + q)
within s n q e u v S N Q E U h k m t =
    let l : 2 ^ 63 ≤ u = le_trans t (and_le_l u (2 ^ 64 - 1 - v)) in
    let r : 2 ^ 63 ≤ 2 ^ 64 - 1 - v = le_trans t (and_le_r u (2 ^ 64 - 1 - v)) in
    (omega arith, omega arith)

-- ---- the count of the numbers that are not normal
and-true : (b : Bool) → b && true ≡ b
and-true true = refl
and-true false = refl

and-false : (b : Bool) → b && false ≡ false
and-false true = refl
and-false false = refl

pub one-most : (b : Bool) → one_unless b ≤ 1
one-most true = omega arith
one-most false = omega arith

counted : (n : ℕ) (b t : Bool) → eqb (n + one_unless b) 0 && t ≡ eqb n 0 && (b && t)
counted n true t = ap (λ (k : ℕ). eqb k 0 && t) (add-zero n)
counted n false t = ap (λ (b : Bool). b && t) (ne_eqb (n + 1) 0 (some n)) ∙ sym (and-false (eqb n 0))
  where
    some : (n : ℕ) → n + 1 ≡ 0 → ⊥
    some n e = omega arith

module _ (l : List Float) (n i : ℕ) (h : eqb n 0 && all_normal (drop i l) ≡ all_normal l) where
  pub count_next : i < length l → eqb (n + one_unless (is_normal (get_or l i nan))) 0 && all_normal (drop (i + 1) l) ≡ all_normal l
  unfolding all_normal
  count_next g =
      let b = is_normal (get_or l i nan) in
      let t : all_normal (drop i l) ≡ b && all_normal (drop (i + 1) l) = ap all_normal (drop-cons l i nan g) ∙ ap (λ (k : ℕ). b && all_normal (drop k l)) (sym (add-one i)) in
      counted n b (all_normal (drop (i + 1) l)) ∙ ap (λ (y : Bool). eqb n 0 && y) (sym t) ∙ h

  pub count-done : length l ≤ i → eqb n 0 ≡ all_normal l
  unfolding all_normal
  count-done g = sym (ap (λ (r : List Float). eqb n 0 && all_normal r) (drop_of_length-le l g) ∙ and-true (eqb n 0)) ∙ h
