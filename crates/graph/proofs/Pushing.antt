-- Ids in an array, and marks as codes. Assumes nothing.
use mathlib.Core.Path.{◌≡◌, refl, sym, ap, ◌∙◌}
use mathlib.Core.List.{List, [], ◌∷◌}
use Prim.Native.Nat.{ℕ, zero, suc, ◌+◌, ◌-◌, ◌≤◌, ◌<◌, suc-le-suc}
use native.Mathlib.Decide.{ℕ_discrete}
use native.Mathlib.Numerals.{add-one}
use native.Mathlib.Omega.{arith}
use borrow.Author.Tests.{ne_eqb}
use lib.Dec.{eqb}
use lib.ListN.{length, get_or, set, drop, replicate}
use lib.Seq.{drop-cons, get_or-set_same, get_or-set_other, set_comm}
use Rattle.model.specs.Placing.{Place, unplaced, root, below, free}
use Rattle.model.specs.Parents.{mark_roots}
use Rattle.tables.specs.Codes.{code_of, codes_of}
use Rattle.graph.specs.Stack.{top_of, zeros}

-- ---- ids

beneath : (ids : List ℕ) (k x n : ℕ) → n ≤ k → top_of (set ids k x) n ≡ top_of ids n
unfolding top_of
beneath ids k x zero h = refl
beneath ids k x (suc n) h =
    let d : n ≡ k → ⊥ = λ e. omega arith in
    let r = beneath ids k x n (omega arith) in
    rw (r, get_or-set_other ids k n x 0 d)

pub pushed : (ids : List ℕ) (k x : ℕ) → k < length ids → top_of (set ids k x) (k + 1) ≡ x ∷ top_of ids k
unfolding top_of
pushed ids k x h =
    let r = beneath ids k x k (omega arith) in
    rw (add-one, r, get_or-set_same ids k x 0 h)

pub top-first : (ids : List ℕ) (n : ℕ) → 0 < n → top_of ids n ≡ get_or ids (n - 1) 0 ∷ top_of ids (n - 1)
unfolding top_of
top-first ids n h =
    let e : n ≡ suc (n - 1) = omega arith in
    ap (top_of ids) e

pub top-length : (ids : List ℕ) (n : ℕ) → length (top_of ids n) ≡ n
unfolding top_of
top-length ids zero = refl
top-length ids (suc n) = ap suc (top-length ids n)

pub drop-last : (l : List ℕ) (i : ℕ) → 0 < i → i ≤ length l → drop (i - 1) l ≡ get_or l (i - 1) 0 ∷ drop i l
drop-last l i p h =
    let b : i - 1 < length l = omega arith in
    let e : suc (i - 1) ≡ i = omega arith in
    drop-cons l (i - 1) 0 b ∙ ap (λ (k : ℕ). get_or l (i - 1) 0 ∷ drop k l) e

-- ---- marks

pub zeros-fewer : (codes : List ℕ) (i c : ℕ) → i < length codes → get_or codes i 0 ≡ 0 → 0 < c → suc (zeros (set codes i c)) ≡ zeros codes
unfolding zeros
zeros-fewer [] i c b h q = absurd (omega arith)
zeros-fewer (zero ∷ codes) zero zero b h q = absurd (omega arith)
zeros-fewer (zero ∷ codes) zero (suc c) b h q = refl
zeros-fewer (zero ∷ codes) (suc i) c b h q = ap suc (zeros-fewer codes i c (omega arith) h q)
zeros-fewer (suc x ∷ codes) zero c b h q = absurd (omega arith)
zeros-fewer (suc x ∷ codes) (suc i) c b h q = zeros-fewer codes i c (omega arith) h q

pub zeros-most : (codes : List ℕ) → zeros codes ≤ length codes
unfolding zeros
zeros-most [] = omega arith
zeros-most (zero ∷ codes) = suc-le-suc (zeros-most codes)
zeros-most (suc c ∷ codes) = omega (arith, zeros-most codes)

pub codes-set : (marks : List Place) (i : ℕ) (p : Place) → set (codes_of marks) i (code_of p) ≡ codes_of (set marks i p)
codes-set [] i p = refl
codes-set (x ∷ marks) zero p = refl
codes-set (x ∷ marks) (suc i) p = ap (λ (l : List ℕ). code_of x ∷ l) (codes-set marks i p)

pub codes-none : (n : ℕ) → replicate n 0 ≡ codes_of (replicate n unplaced)
codes-none zero = refl
codes-none (suc n) = ap (λ (l : List ℕ). 0 ∷ l) (codes-none n)

-- an id out of range reads as a root
pub free-code : (marks : List Place) (i : ℕ) → free marks i ≡ eqb (get_or (codes_of marks) i 1) 0
free-code [] i = refl
free-code (unplaced ∷ marks) zero = refl
free-code (root ∷ marks) zero = refl
free-code (below p ∷ marks) zero = sym (ne_eqb (p + 3) 0 (λ e. omega arith))
free-code (x ∷ marks) (suc i) = free-code marks i

-- roots are marked in any order
pub root-last : (roots : List ℕ) (marks : List Place) (x : ℕ) → mark_roots (x ∷ roots) marks ≡ set (mark_roots roots marks) x root
unfolding mark_roots
root-last [] marks x = refl
root-last (r ∷ roots) marks x = ap (mark_roots roots) (swap (ℕ_discrete x r)) ∙ root-last roots (set marks r root) x
  where
    swap : Dec (x ≡ r) → set (set marks x root) r root ≡ set (set marks r root) x root
    swap (yes e) = (λ i. set (set marks (e i) root) (sym e i) root)
    swap (no d) = set_comm marks x r root root d
