-- Digits stored from the last one back, and how many there are. Assumes nothing.
use mathlib.Core.Path.{◌≡◌, refl, sym, ap, ◌∙◌}
use mathlib.Core.Bool.{Bool, true, false}
use mathlib.Core.Logic.{◌≢◌}
use mathlib.Core.List.{List, [], ◌∷◌, ◌++◌}
use Prim.Native.Nat.{ℕ, zero, suc, ◌+◌, ◌-◌, ◌*◌, ◌/◌, ◌%◌, ◌^◌, ◌≤◌, ◌<◌}
use native.Mathlib.Nat.{pow-zero, pow-suc}
use native.Mathlib.Omega.{arith}
use borrow.Author.Tests.{lt-ltb, le-ltb, ltb-true, ltb-false}
use lib.Dec.{ltb}
use lib.ListN.{length, set, length-append}
use lib.Seq.{sets, set_comm}
use Rattle.model.specs.Lists.{pick}
use Rattle.grammar.specs.Digits.{Sort, numbers, floats, hex_digit, last_digits, places, digits_of}

pub last-length : (base k n : ℕ) → length (last_digits base k n) ≡ k
unfolding last_digits
last-length base zero n = refl
last-length base (suc k) n = simp length-append (omega (arith, last-length base k (n / base)))

-- the last store may come first
back-set : (l : List ℕ) (at : ℕ) (xs : List ℕ) (b : ℕ)
    → sets l at (xs ++ (b ∷ [])) ≡ sets (set l (at + length xs) b) at xs
back-set l at [] b = let e : at ≡ at + 0 = omega arith in ap (λ (k : ℕ). set l k b) e
back-set l at (x ∷ xs) b =
    let e : suc at + length xs ≡ at + suc (length xs) = omega arith in
    let d : at ≢ at + suc (length xs) = λ z. omega (arith, z) in
    back-set (set l at x) (suc at) xs b
    ∙ ap (λ (k : ℕ). sets (set (set l at x) k b) (suc at) xs) e
    ∙ ap (λ (s : List ℕ). sets s (suc at) xs) (set_comm l at (at + suc (length xs)) x b d)

pub digits_more : (at base k m : ℕ) (left : List ℕ) {d : ℕ} {next : List ℕ} → 0 < k
    → d ≡ hex_digit (m % base) → next ≡ set left (at + (k - 1)) d
    → sets next at (last_digits base (k - 1) (m / base)) ≡ sets left at (last_digits base k m)
unfolding last_digits
digits_more at base zero m left h e f = absurd (omega arith)
digits_more at base (suc k) m left h e f =
    let one : suc k - 1 ≡ k = omega arith in
    let ds = last_digits base k (m / base) in
    let place : at + (suc k - 1) ≡ at + length ds = omega (arith, last-length base k (m / base)) in
    (λ j. sets ((f ∙ (λ i. set left (place i) (e i))) j) at (last_digits base (one j) (m / base)))
    ∙ sym (back-set left at ds (hex_digit (m % base)))

pub digits-none : (at base k m : ℕ) (left : List ℕ) → k ≤ 0 → sets left at (last_digits base k m) ≡ left
unfolding last_digits
digits-none at base zero m left h = refl
digits-none at base (suc k) m left h = absurd (omega arith)

-- ---- how many digits

pub places-small : (k n : ℕ) → n < 10 → places k n ≡ 1
unfolding places
places-small zero n h = refl
places-small (suc k) n h = simp (lt-ltb n 10 h)

pub places-more : (k n : ℕ) → 0 < k → 10 ≤ n → places k n ≡ suc (places (k - 1) (n / 10))
unfolding places
places-more zero n o h = absurd (omega arith)
places-more (suc k) n o h =
    let one : k ≡ suc k - 1 = omega arith in
    simp (le-ltb n 10 h) (ap (λ (i : ℕ). suc (places i (n / 10))) one)

one-at-least : (d : ℕ) → 0 < 10 ^ d
one-at-least zero = omega (arith, pow-zero 10)
one-at-least (suc d) = omega (arith, pow-suc 10 d, one-at-least d)

-- the least number of d + 1 digits, but 0 of one
abbrev least : ℕ → ℕ
least zero = 0
least (suc d) = 10 ^ suc d

fewer : (d n : ℕ) → 10 ^ suc d ≤ n → least d ≤ n / 10
fewer zero n h = omega arith
fewer (suc d) n h = omega (arith, pow-suc 10 (suc d))

-- a number between these has d + 1
pub places-exact : (d k n lo hi : ℕ) → lo ≡ least d → hi ≡ 10 ^ suc d → d ≤ k → lo ≤ n → n < hi → places k n ≡ suc d
unfolding places
places-exact zero zero n lo hi e f h l u = refl
places-exact zero (suc k) n lo hi e f h l u = simp (lt-ltb n 10 (omega (arith, pow-suc 10 zero, pow-zero 10)))
places-exact (suc d) zero n lo hi e f h l u = absurd (omega arith)
places-exact (suc d) (suc k) n lo hi e f h l u =
    let low = fewer d n (omega arith) in
    let ten : 10 ≤ n = omega (arith, pow-suc 10 d, one-at-least d) in
    simp (le-ltb n 10 ten)
    (ap suc (places-exact d k (n / 10) _ _ refl refl (omega arith) low (omega (arith, pow-suc 10 (suc d)))))

-- how many of 10, 100 and so on, k of them, are at most n
unfoldable reached : ℕ → ℕ → ℕ
reached zero n = 0
reached (suc k) n = pick (ltb (10 ^ suc k - 1) n) 1 0 + reached k n

none-reached : (k n : ℕ) → n < 10 → reached k n ≡ 0
unfolding reached
none-reached zero n h = refl
none-reached (suc k) n h =
    let over = le-ltb (10 ^ suc k - 1) n (omega (arith, pow-suc 10 k, one-at-least k)) in
    ap (λ (b : Bool). pick b 1 0 + reached k n) over ∙ omega (arith, none-reached k n h)

tenth : (x n : ℕ) → 0 < x → ltb (x * 10 - 1) n ≡ ltb (x - 1) (n / 10)
tenth x n h = go (ltb (x - 1) (n / 10)) refl
  where
    go : (b : Bool) → ltb (x - 1) (n / 10) ≡ b → ltb (x * 10 - 1) n ≡ b
    go true e = lt-ltb (x * 10 - 1) n (let l = ltb-true (x - 1) (n / 10) e in omega arith)
    go false e = le-ltb (x * 10 - 1) n (let l = ltb-false (x - 1) (n / 10) e in omega arith)

reached-more : (k n : ℕ) → 10 ≤ n → reached (suc k) n ≡ suc (reached k (n / 10))
unfolding reached
reached-more zero n h =
    let over = lt-ltb (10 ^ 1 - 1) n (omega (arith, pow-suc 10 zero, pow-zero 10)) in
    ap (λ (b : Bool). pick b 1 0 + 0) over
reached-more (suc k) n h =
    let x = 10 ^ suc k in
    let e : ltb (10 ^ suc (suc k) - 1) n ≡ ltb (x - 1) (n / 10)
    = ap (λ (y : ℕ). ltb (y - 1) n) (pow-suc 10 (suc k)) ∙ tenth x n (one-at-least (suc k)) in
    ap (λ (t : Bool). pick t 1 0 + reached (suc k) n) e ∙ omega (arith, reached-more k n h)

places-reached : (k n : ℕ) → places k n ≡ suc (reached k n)
unfolding places reached
places-reached zero n = refl
places-reached (suc k) n = go (places-reached k (n / 10)) (ltb n 10) refl
  where
    go : places k (n / 10) ≡ suc (reached k (n / 10)) → (t : Bool) → ltb n 10 ≡ t
        → pick t 1 (suc (places k (n / 10))) ≡ suc (reached (suc k) n)
    go r true e = ap suc (sym (none-reached (suc k) n (ltb-true n 10 e)))
    go r false e = ap suc (r ∙ sym (reached-more k n (ltb-false n 10 e)))

-- 1 where n is above a limit
abbrev one : ℕ → ℕ → ℕ
one limit n = pick (ltb limit n) 1 0

pub places-at-once : (n : ℕ)
    → places 9 n ≡ 1 + (one 9 n + one 99 n + one 999 n + one 9_999 n + one 99_999 n)
    + (one 999_999 n + one 9_999_999 n + one 99_999_999 n + one 999_999_999 n)
unfolding reached
places-at-once n = omega (arith, places-reached 9 n)

pub places-some : (k n : ℕ) → 0 < places k n
unfolding places
places-some zero n = omega arith
places-some (suc k) n = some (ltb n 10)
  where
    some : (t : Bool) → 0 < pick t 1 (suc (places k (n / 10)))
    some true = omega arith
    some false = omega arith

places-few : (k n : ℕ) → places k n ≤ suc k
unfolding places
places-few zero n = omega arith
places-few (suc k) n = few (places-few k (n / 10)) (ltb n 10)
  where
    few : places k (n / 10) ≤ suc k → (t : Bool) → pick t 1 (suc (places k (n / 10))) ≤ suc (suc k)
    few h true = omega arith
    few h false = omega arith

pub digits-few : (s : Sort) (n : ℕ) → length (digits_of s n) ≤ 10
digits-few numbers n = omega (arith, last-length 10 (places 9 n) n, places-few 9 n)
digits-few floats n = omega (arith, last-length 16 8 n)
