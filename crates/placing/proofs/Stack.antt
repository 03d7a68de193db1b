-- The stack in the lent room: what lies below a push stays, and a list that is pushed the last first lies with its first on top.
-- Assumes nothing.
use mathlib.Core.Path.{◌≡◌, refl, sym, ap, ◌∙◌}
use mathlib.Core.List.{List, [], ◌∷◌, ◌++◌}
use Prim.Native.Nat.{ℕ, zero, suc, ◌+◌, ◌-◌, ◌*◌, ◌≤◌, ◌<◌}
use native.Mathlib.Numerals.{add-one}
use native.Mathlib.Omega.{arith}
use lib.ListN.{length, get_or, set, take, drop, length-set, length-append, length-drop}
use lib.Seq.{get_or-set_same, get_or-set_other, get_or_at, get_or-append-add, take-append-le, drop-cons, drop-length}
use lib.Seq.{paste, paste-suc}
use Rattle.placing.specs.WalkRoom.{Item, listed_as, item_at, stack_of, words_for, Named}

-- the two words of entry k
abbrev written : List ℕ → ℕ → ℕ → ℕ → List ℕ
written walk k x c = set (set walk (2 * k) x) (2 * k + 1) c

-- words that are not entry k's
kept : (walk : List ℕ) (k x c j : ℕ) → (j ≡ 2 * k → ⊥) → (j ≡ 2 * k + 1 → ⊥) → get_or (written walk k x c) j 0 ≡ get_or walk j 0
kept walk k x c j h g = get_or-set_other (set walk (2 * k) x) (2 * k + 1) j c 0 g ∙ get_or-set_other walk (2 * k) j x 0 h

item-kept : (walk : List ℕ) (k x c n : ℕ) → n < k → item_at (written walk k x c) n ≡ item_at walk n
item-kept walk k x c n h =
    let a = kept walk k x c (2 * n) (λ e. omega arith) (λ e. omega arith) in
    let b = kept walk k x c (2 * n + 1) (λ e. omega arith) (λ e. omega arith) in
    λ j. record { id = a j; code = b j }

above : (walk : List ℕ) (k x c n : ℕ) → n ≤ k → stack_of (written walk k x c) n ≡ stack_of walk n
unfolding stack_of
above walk k x c zero h = refl
above walk k x c (suc n) h =
    let a = item-kept walk k x c n (omega arith) in
    let r = above walk k x c n (omega arith) in
    λ j. a j ∷ r j

item-written : (walk : List ℕ) (k x c : ℕ) → 2 * k + 1 < length walk → item_at (written walk k x c) k ≡ record { id = x; code = c }
item-written walk k x c h =
    let a : get_or (written walk k x c) (2 * k) 0 ≡ x =
    get_or-set_other (set walk (2 * k) x) (2 * k + 1) (2 * k) c 0 (λ e. omega arith) ∙ get_or-set_same walk (2 * k) x 0 (omega arith) in
    let b : get_or (written walk k x c) (2 * k + 1) 0 ≡ c = get_or-set_same (set walk (2 * k) x) (2 * k + 1) c 0 (omega (arith, length-set walk (2 * k) x)) in
    λ j. record { id = a j; code = b j }

pub pushed : (walk : List ℕ) (k x c : ℕ) → 2 * k + 1 < length walk → stack_of (written walk k x c) (k + 1) ≡ record { id = x; code = c } ∷ stack_of walk k
unfolding stack_of
pushed walk k x c h =
    let a = item-written walk k x c h in
    let r = above walk k x c k (omega arith) in
    ap (stack_of (written walk k x c)) (add-one k) ∙ (λ j. a j ∷ r j)

-- the last part of a list: none, and one entry longer
pub listed-none : (c : ℕ) (l : List ℕ) → listed_as c (drop (length l) l) ≡ []
unfolding listed_as
listed-none c l = ap (listed_as c) (drop-length l)

pub listed_more : (c : ℕ) (l : List ℕ) (k j : ℕ) → suc k ≡ j → k < length l → listed_as c (drop k l) ≡ record { id = get_or l k 0; code = c } ∷ listed_as c (drop j l)
unfolding listed_as
listed_more c l k j e h = ap (listed_as c) (drop-cons l k 0 h) ∙ ap (λ (i : ℕ). record { id = get_or l k 0; code = c } ∷ listed_as c (drop i l)) e

-- ---- the words of a push

words-length : (c : ℕ) (l : List ℕ) → length (words_for c l) ≡ 2 * length l
unfolding words_for
words-length c [] = refl
words-length c (x ∷ l) = omega (arith, length-append (words_for c l) (x ∷ c ∷ []), words-length c l)

-- two words more of what is pasted
two-more : (lent v : List ℕ) (at k x c : ℕ) → length v ≡ k → at + k + 1 < length lent
    → set (set (paste lent at v k) (at + k) x) (at + k + 1) c ≡ paste lent at (v ++ (x ∷ c ∷ [])) (k + 2)
two-more lent v at k x c e h =
    let w = v ++ (x ∷ c ∷ []) in
    let n : length w ≡ k + 2 = omega (arith, length-append v (x ∷ c ∷ [])) in
    let start : take k v ≡ take k w = sym (take-append-le k v (x ∷ c ∷ []) (omega arith)) in
    let first : x ≡ get_or w k 0 = sym (get_or_at v x (c ∷ []) 0 k e) in
    let next : suc k ≡ length v + 1 = omega arith in
    let second : c ≡ get_or w (suc k) 0 = sym (ap (λ (i : ℕ). get_or w i 0) next ∙ get_or-append-add v (x ∷ c ∷ []) 1 0) in
    let place : at + k + 1 ≡ at + suc k = omega arith in
    let end : suc (suc k) ≡ k + 2 = omega arith in
    (λ j. set (set (take at lent ++ start j ++ drop (at + k) lent) (at + k) (first j)) (place j) (second j))
    ∙ ap (λ (l : List ℕ). set l (at + suc k) (get_or w (suc k) 0)) (paste-suc lent at w k 0 (omega arith) (omega arith))
    ∙ paste-suc lent at w (suc k) 0 (omega arith) (omega arith)
    ∙ ap (paste lent at w) end

-- one entry more
pub words_more : (lent walk list : List ℕ) (c top at i k j : ℕ)
    → walk ≡ paste lent (2 * top) (words_for c (drop j list)) (2 * i)
    → at ≡ top + i → suc k ≡ j → j + i ≡ length list → 2 * at + 1 < length lent
    → set (set walk (2 * at) (get_or list k 0)) (2 * at + 1) c
    ≡ paste lent (2 * top) (words_for c (drop k list)) (2 * (i + 1))
unfolding words_for
words_more lent walk list c top at i k j e a s n h =
    let v = words_for c (drop j list) in
    let x = get_or list k 0 in
    let width : length v ≡ 2 * i = omega (arith, words-length c (drop j list), length-drop j list) in
    let place : 2 * at ≡ 2 * top + 2 * i = omega arith in
    let end : 2 * i + 2 ≡ 2 * (i + 1) = omega arith in
    let more : v ++ (x ∷ c ∷ []) ≡ words_for c (drop k list) =
    ap (λ (m : ℕ). words_for c (x ∷ drop m list)) (sym s) ∙ sym (ap (words_for c) (drop-cons list k 0 (omega arith))) in
    (λ r. set (set (e r) (place r) x) (place r + 1) c)
    ∙ two-more lent v (2 * top) (2 * i) x c width (omega arith)
    ∙ (λ r. paste lent (2 * top) (more r) (end r))

pub stack-length : (walk : List ℕ) (n : ℕ) → length (stack_of walk n) ≡ n
unfolding stack_of
stack-length walk zero = refl
stack-length walk (suc n) = ap suc (stack-length walk n)

pub stack_top : (walk : List ℕ) (n : ℕ) → 0 < n → stack_of walk n ≡ item_at walk (n - 1) ∷ stack_of walk (n - 1)
unfolding stack_of
stack_top walk n h = let e : n ≡ suc (n - 1) = omega arith in ap (stack_of walk) e

pub listed-length : (c : ℕ) (l : List ℕ) → length (listed_as c l) ≡ length l
unfolding listed_as
listed-length c [] = refl
listed-length c (x ∷ l) = ap suc (listed-length c l)

pub named-listed : (c : ℕ) (l : List ℕ) (s : List Item) → 0 < c → Named s → Named (listed_as c l ++ s)
unfolding listed_as
named-listed c [] s h n = n
named-listed c (x ∷ l) s h n = (h, named-listed c l s h n)
