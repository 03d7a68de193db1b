-- Sums over the nodes that are not placed. Assumes nothing.
use mathlib.Core.Path.{◌≡◌, refl}
use mathlib.Core.List.{List, [], ◌∷◌}
use Prim.Native.Nat.{ℕ, zero, suc, ◌+◌, ◌≤◌, ◌<◌, suc-le-suc}
use native.Mathlib.Omega.{arith}
use lib.ListN.{length, get_or, set, replicate, get_or-eq_default, length-replicate}
use Rattle.placing.specs.WalkRoom.{waiting}

pub out_of_range : (l : List ℕ) (i : ℕ) → length l ≤ i → get_or l i 1 ≡ 0 → ⊥
out_of_range l i h e = omega (arith, get_or-eq_default l 1 h)

pub unplaced-in : (l : List ℕ) (i : ℕ) → get_or l i 1 ≡ 0 → i < length l
unplaced-in [] i h = absurd (omega arith)
unplaced-in (x ∷ l) zero h = omega arith
unplaced-in (x ∷ l) (suc i) h = suc-le-suc (unplaced-in l i h)

pub waiting-place : (cs ps : List ℕ) (i p : ℕ) → length cs ≡ length ps → get_or ps i 1 ≡ 0 → 0 < p
    → waiting cs (set ps i p) + get_or cs i 0 ≡ waiting cs ps
unfolding waiting
waiting-place [] [] i p n h q = absurd (omega arith)
waiting-place [] (x ∷ ps) i p n h q = absurd (omega arith)
waiting-place (c ∷ cs) [] i p n h q = absurd (omega arith)
waiting-place (c ∷ cs) (zero ∷ ps) zero zero n h q = absurd (omega arith)
waiting-place (c ∷ cs) (zero ∷ ps) zero (suc p) n h q = omega arith
waiting-place (c ∷ cs) (zero ∷ ps) (suc i) p n h q = omega (arith, waiting-place cs ps i p (omega arith) h q)
waiting-place (c ∷ cs) (suc x ∷ ps) zero p n h q = absurd (omega arith)
waiting-place (c ∷ cs) (suc x ∷ ps) (suc i) p n h q = waiting-place cs ps i p (omega arith) h q

pub waiting-one : (cs ps : List ℕ) (i : ℕ) → length cs ≡ length ps → get_or ps i 1 ≡ 0 → get_or cs i 0 ≤ waiting cs ps
waiting-one cs ps i n h = omega (arith, waiting-place cs ps i 1 n h (omega arith))

-- with 1 for each node, the nodes that are not placed
one_at : (n i : ℕ) → i < n → get_or {A = ℕ} (replicate n 1) i 0 ≡ 1
one_at zero i h = absurd (omega arith)
one_at (suc n) zero h = refl
one_at (suc n) (suc i) h = one_at n i (omega arith)

pub free-place : (n : ℕ) (ps : List ℕ) (i p : ℕ) → n ≡ length ps → get_or ps i 1 ≡ 0 → 0 < p
    → waiting (replicate n 1) (set ps i p) + 1 ≡ waiting (replicate n 1) ps
free-place n ps i p e h q =
    let b = unplaced-in ps i h in
    omega (arith, waiting-place (replicate n 1) ps i p (omega (arith, length-replicate {A = ℕ} n 1)) h q, one_at n i (omega arith))

pub free_one : (n : ℕ) (ps : List ℕ) (i : ℕ) → n ≡ length ps → get_or ps i 1 ≡ 0 → 1 ≤ waiting (replicate n 1) ps
free_one n ps i e h = omega (arith, free-place n ps i 1 e h (omega arith))

pub free_all : (n : ℕ) → waiting (replicate n 1) (replicate n 0) ≡ n
unfolding waiting
free_all zero = refl
free_all (suc n) = omega (arith, free_all n)
