-- `sqrt_of` at the bit patterns of an f32 above 0: the root of a whole number of 47 or 48 digits, rounded, is the result's significand. Assumes nothing.
use Rattle.std.proofs.Common.{◌≡◌, ℕ, zero, suc, ◌+◌, ◌-◌, ◌*◌, ◌/◌, ◌%◌, ◌^◌, ◌<◌, ◌≤◌, Bool, true, false, cond, eqb, ◌⊎◌, sym, refl, ap, ◌∙◌, subst, inl, inr, true≢false, le_trans, le_of_eq, lt_of_lt_of_le, lt_irrefl, mul-le-mul_right, mul_assoc, mul_comm, eq-or-lt_of_le, mul-le-mul_left, mul-lt-mul_of_pos_right, mul-pos, zero-add, zero-mul, mul-one, mul_right_comm, mul-div_cancel, arith, pow_pos, pow_mono, pow-add, ne_eqb}
use Prim.Native.Nat.{compare, Ordering}
use lib.Ieee.{Float, nan, inf, fin, up, down, size, odd, nearest, units, binary32, of_bits, of_fields}
use lib.Ieee.Fits.{down_pos, nearest-le}
use lib.Ieee.Exact.{HasValue, odd_sign}
use lib.Ieee.Nearest.{nearest-ge}
use Rattle.float.specs.Sqrt.{isqrt, closest_root, root_round, sqrt_of}
use Rattle.float.specs.Patterns.{root_pattern, Rooted}
use Rattle.float.proofs.Pack.{size_is, units-bits, signed32}
use Rattle.square_root.proofs.Squares.{isqrt-root, root_ge, root-lt, compare-times}

-- the rounded root of a whole number
abbrev pub rounded : ℕ → ℕ
rounded n = nearest (isqrt n) (compare (4 * n) ((2 * isqrt n + 1) * (2 * isqrt n + 1)))

-- ---- the size of a root
square-pow : (a k : ℕ) → 2 ^ (a + k) * 2 ^ (a + k) ≡ 2 ^ (a + a) * 2 ^ (k + k)
square-pow a k = sym (pow-add 2 (a + k) (a + k)) ∙ ap (λ (x : ℕ). 2 ^ x) (mix a k) ∙ pow-add 2 (a + a) (k + k)
  where
    mix : (a k : ℕ) → a + k + (a + k) ≡ a + a + (k + k)
    mix a k = omega arith

pub root-lo : (n a k : ℕ) → 2 ^ (a + a) ≤ n → 2 ^ (a + k) ≤ isqrt (n * 2 ^ (k + k))
root-lo n a k h = root_ge (n * 2 ^ (k + k)) (isqrt (n * 2 ^ (k + k))) (2 ^ (a + k)) (isqrt-root (n * 2 ^ (k + k))) (le_trans (le_of_eq (square-pow a k)) (mul-le-mul_right (2 ^ (k + k)) h))

pub root-hi : (n a k : ℕ) → n < 2 ^ (a + a) → isqrt (n * 2 ^ (k + k)) < 2 ^ (a + k)
root-hi n a k h = root-lt (n * 2 ^ (k + k)) (isqrt (n * 2 ^ (k + k))) (2 ^ (a + k)) (isqrt-root (n * 2 ^ (k + k))) (lt_of_lt_of_le (mul-lt-mul_of_pos_right h (pow_pos (k + k))) (le_of_eq (sym (square-pow a k))))

-- ---- the root of w * d / (d * p), w being n * p
closest-root : (n p d : ℕ) → 0 < p → 0 < d → closest_root (n * p * d) (d * p) ≡ rounded n
unfolding closest_root
closest-root n p d P D =
    let e : n * p * d ≡ n * (d * p) = mul_assoc n p d ∙ ap (λ (x : ℕ). n * x) (mul_comm p d) in
    let q = isqrt n in
    ap (λ (x : ℕ). nearest (isqrt (x / (d * p))) (compare (4 * x) ((2 * isqrt (x / (d * p)) + 1) * (2 * isqrt (x / (d * p)) + 1) * (d * p)))) e
    ∙ ap (λ (x : ℕ). nearest (isqrt x) (compare (4 * (n * (d * p))) ((2 * isqrt x + 1) * (2 * isqrt x + 1) * (d * p)))) (mul-div_cancel n (mul-pos D P))
    ∙ ap (λ (x : ℕ). nearest q (compare x ((2 * q + 1) * (2 * q + 1) * (d * p)))) (sym (mul_assoc 4 n (d * p)))
    ∙ ap (λ (o : Ordering). nearest q o) (compare-times (4 * n) ((2 * q + 1) * (2 * q + 1)) (d * p) (mul-pos D P))

-- ---- `root_round` at a fraction whose square's units are n * 2 ^ (k + k), n having 47 or 48 digits
pub root-round : (num den n k : ℕ) → 0 < den → num * 2 ^ 298 ≡ n * 2 ^ (k + k) * den → 2 ^ 46 ≤ n → n < 2 ^ 48 → root_round binary32 num den ≡ units binary32 false (rounded n) k
unfolding root_round
root-round num den n k D e lo hi =
    let w = n * 2 ^ (k + k) in
    let z : size (isqrt w) - 24 ≡ k = over (size (isqrt w)) k (size_is (23 + k) (isqrt w) (root-lo n 23 k lo) (subst (λ (x : ℕ). isqrt w < 2 ^ x) (next k) (root-hi n 24 k hi))) in
    ap (λ (x : ℕ). units binary32 false (closest_root x (den * 2 ^ (size (isqrt (x / den)) - 24 + (size (isqrt (x / den)) - 24)))) (size (isqrt (x / den)) - 24)) e
    ∙ ap (λ (x : ℕ). units binary32 false (closest_root (w * den) (den * 2 ^ (size (isqrt x) - 24 + (size (isqrt x) - 24)))) (size (isqrt x) - 24)) (mul-div_cancel w D)
    ∙ ap (λ (x : ℕ). units binary32 false (closest_root (w * den) (den * 2 ^ (x + x))) x) z
    ∙ ap (λ (x : ℕ). units binary32 false x k) (closest-root n (2 ^ (k + k)) den (pow_pos (k + k)) D)
  where
    over : (z k : ℕ) → z ≡ suc (23 + k) → z - 24 ≡ k
    over z k e = omega arith

    next : (k : ℕ) → 24 + k ≡ suc (23 + k)
    next k = omega arith

-- ---- a value above 0, by its size in units of the smallest value
nonzero : (w d : ℕ) → 0 < w → 0 < d → 0 ≡ w * d → ⊥
nonzero w d p q e = lt_irrefl 0 (subst (λ (x : ℕ). 0 < x) (sym e) (mul-pos p q))

pub of-value : (v : Float) (w n k : ℕ) → 0 < w → HasValue v false w (2 ^ 149) → w * 2 ^ 149 ≡ n * 2 ^ (k + k) → 2 ^ 46 ≤ n → n < 2 ^ 48 → sqrt_of binary32 v ≡ units binary32 false (rounded n) k
unfolding sqrt_of
of-value nan w n k p h e lo hi = absurd h
of-value (inf t) w n k p h e lo hi = absurd h
of-value (fin t zero x) w n k p h e lo hi = absurd (nonzero w (down x) p (down_pos x) (sym (ap (λ (y : ℕ). y * 2 ^ 149) (zero-mul (up x)) ∙ zero-mul (2 ^ 149)) ∙ h.1))
of-value (fin true (suc m) x) w n k p h e lo hi = absurd (true≢false h.0)
of-value (fin false (suc m) x) w n k p h e lo hi =
    root-round (suc m * up x) (down x) n k (down_pos x)
    (ap (λ (y : ℕ). suc m * up x * y) (pow-add 2 149 149)
    ∙ sym (mul_assoc (suc m * up x) (2 ^ 149) (2 ^ 149))
    ∙ ap (λ (y : ℕ). y * 2 ^ 149) h.1
    ∙ mul_right_comm w (down x) (2 ^ 149)
    ∙ ap (λ (y : ℕ). y * down x) e)
    lo hi

-- ---- the pattern
pub pattern-law : (v : Float) (w m f : ℕ) → 0 < w → HasValue v false w (2 ^ 149) → w * 2 ^ 149 ≡ m * 2 ^ (23 + f) → 2 ^ 23 ≤ m → m < 2 ^ 24 → f < 400 → (root_pattern m f ≤ 255 * 2 ^ 23) × (of_bits binary32 (root_pattern m f) ≡ sqrt_of binary32 v)
unfolding root_pattern
pattern-law v w m f p h e lo hi g =
    let i = 23 + f % 2 in
    let k = f / 2 in
    let n = m * 2 ^ i in
    let whole : w * 2 ^ 149 ≡ n * 2 ^ (k + k) = e ∙ ap (λ (x : ℕ). m * 2 ^ x) (parts f) ∙ ap (λ (x : ℕ). m * x) (pow-add 2 i (k + k)) ∙ sym (mul_assoc m (2 ^ i) (2 ^ (k + k))) in
    let n-lo : 2 ^ 46 ≤ n = le_trans (mul-le-mul_right (2 ^ 23) lo) (mul-le-mul_left m (pow_mono (from f))) in
    let n-hi : n < 2 ^ 48 = lt_of_lt_of_le (mul-lt-mul_of_pos_right hi (pow_pos i)) (mul-le-mul_left (2 ^ 24) (pow_mono (upto f))) in
    let q-lo : 2 ^ 23 ≤ isqrt n = subst (λ (x : ℕ). 2 ^ 23 ≤ isqrt x) (mul-one n) (root-lo n 23 0 n-lo) in
    let q-hi : isqrt n < 2 ^ 24 = subst (λ (x : ℕ). isqrt x < 2 ^ 24) (mul-one n) (root-hi n 24 0 n-hi) in
    let o = compare (4 * n) ((2 * isqrt n + 1) * (2 * isqrt n + 1)) in
    let r-lo : 2 ^ 23 ≤ rounded n = le_trans q-lo (nearest-ge (isqrt n) o) in
    let r-hi : rounded n ≤ 2 ^ 24 = le_trans (nearest-le (isqrt n) o) q-hi in
    let fine : k * 2 ^ 23 + rounded n ≤ 255 * 2 ^ 23 = bound f (rounded n) g r-hi in
    (fine, ap (λ (x : ℕ). of_bits binary32 x) (sym (zero-add (k * 2 ^ 23 + rounded n))) ∙ sym (units-bits false (rounded n) k r-hi (inr r-lo) fine) ∙ sym (of-value v w n k p h whole n-lo n-hi))
  where
    parts : (f : ℕ) → 23 + f ≡ 23 + f % 2 + (f / 2 + f / 2)
    parts f = omega arith

    from : (f : ℕ) → 23 ≤ 23 + f % 2
    from f = omega arith

    upto : (f : ℕ) → 23 + f % 2 ≤ 24
    upto f = omega arith

    bound : (f r : ℕ) → f < 400 → r ≤ 2 ^ 24 → f / 2 * 2 ^ 23 + r ≤ 255 * 2 ^ 23
    bound f r g h = omega arith

-- ---- the fields of a pattern above 0 and below the infinity's
normal-value : (x t : ℕ) → x < 254 → HasValue (of_fields binary32 false (suc x) t) false ((2 ^ 23 + t) * 2 ^ x) (2 ^ 149)
unfolding of_fields
normal-value x t h =
    subst (λ (b : Bool). HasValue (cond b (cond (eqb t 0) (inf false) nan) (odd 24 false (2 ^ 23 + t) x 149)) false ((2 ^ 23 + t) * 2 ^ x) (2 ^ 149)) (sym (ne_eqb (suc x) 255 (no h)))
    (odd_sign 24 false (2 ^ 23 + t) x 149)
  where
    no : x < 254 → suc x ≡ 255 → ⊥
    no h e = omega arith

subnormal-value : (t : ℕ) → HasValue (of_fields binary32 false 0 t) false (t * 2 ^ 0) (2 ^ 149)
unfolding of_fields
subnormal-value t = odd_sign 24 false t 0 149

unsigned : (a : ℕ) → a < 2 ^ 31 → of_bits binary32 a ≡ of_fields binary32 false (a / 2 ^ 23) (a % 2 ^ 23)
unsigned a h = ap (λ (x : ℕ). of_bits binary32 x) (sym (zero-add a)) ∙ signed32 false a h

pub at-normal : (a : ℕ) → (a / 2 ^ 23 ≡ 0 → ⊥) → a < 255 * 2 ^ 23 → Rooted a (root_pattern (a % 2 ^ 23 + 2 ^ 23) (a / 2 ^ 23 + 125))
at-normal a nz hi =
    let t = a % 2 ^ 23 in
    let x = a / 2 ^ 23 - 1 in
    let m = 2 ^ 23 + t in
    let v : HasValue (of_bits binary32 a) false (m * 2 ^ x) (2 ^ 149) = subst (λ (y : Float). HasValue y false (m * 2 ^ x) (2 ^ 149)) (sym (unsigned a (wide a hi) ∙ ap (λ (y : ℕ). of_fields binary32 false y t) (field a nz))) (normal-value x t (small a hi nz)) in
    subst (λ (y : ℕ). Rooted a (root_pattern y (a / 2 ^ 23 + 125))) (swap a)
    (pattern-law (of_bits binary32 a) (m * 2 ^ x) m (a / 2 ^ 23 + 125) (mul-pos (some a) (pow_pos x)) v
    (mul_assoc m (2 ^ x) (2 ^ 149) ∙ ap (λ (y : ℕ). m * y) (sym (pow-add 2 x 149) ∙ ap (λ (y : ℕ). 2 ^ y) (total a nz)))
    (sig-lo a) (sig-hi a) (few a hi))
  where
    wide : (a : ℕ) → a < 255 * 2 ^ 23 → a < 2 ^ 31
    wide a h = omega arith

    field : (a : ℕ) → (a / 2 ^ 23 ≡ 0 → ⊥) → a / 2 ^ 23 ≡ suc (a / 2 ^ 23 - 1)
    field a h = omega arith

    small : (a : ℕ) → a < 255 * 2 ^ 23 → (a / 2 ^ 23 ≡ 0 → ⊥) → a / 2 ^ 23 - 1 < 254
    small a h g = omega arith

    some : (a : ℕ) → 0 < 2 ^ 23 + a % 2 ^ 23
    some a = omega arith

    swap : (a : ℕ) → 2 ^ 23 + a % 2 ^ 23 ≡ a % 2 ^ 23 + 2 ^ 23
    swap a = omega arith

    sig-lo : (a : ℕ) → 2 ^ 23 ≤ 2 ^ 23 + a % 2 ^ 23
    sig-lo a = omega arith

    sig-hi : (a : ℕ) → 2 ^ 23 + a % 2 ^ 23 < 2 ^ 24
    sig-hi a = omega arith

    total : (a : ℕ) → (a / 2 ^ 23 ≡ 0 → ⊥) → a / 2 ^ 23 - 1 + 149 ≡ 23 + (a / 2 ^ 23 + 125)
    total a h = omega arith

    few : (a : ℕ) → a < 255 * 2 ^ 23 → a / 2 ^ 23 + 125 < 400
    few a h = omega arith

pub at-subnormal : (a z : ℕ) → 0 < a → a / 2 ^ 23 ≡ 0 → z ≤ 126 → 2 ^ 23 ≤ a % 2 ^ 23 * 2 ^ z → a % 2 ^ 23 * 2 ^ z < 2 ^ 24 → Rooted a (root_pattern (a % 2 ^ 23 * 2 ^ z) (126 - z))
at-subnormal a z p e g lo hi =
    let t = a % 2 ^ 23 in
    let v : HasValue (of_bits binary32 a) false (t * 2 ^ 0) (2 ^ 149) = subst (λ (y : Float). HasValue y false (t * 2 ^ 0) (2 ^ 149)) (sym (unsigned a (wide a e) ∙ ap (λ (y : ℕ). of_fields binary32 false y t) e)) (subnormal-value t) in
    pattern-law (of_bits binary32 a) (t * 2 ^ 0) (t * 2 ^ z) (126 - z) (mul-pos (some a p e) (pow_pos 0)) v
    (ap (λ (y : ℕ). y * 2 ^ 149) (mul-one t) ∙ ap (λ (y : ℕ). t * 2 ^ y) (total z g) ∙ ap (λ (y : ℕ). t * y) (pow-add 2 z (23 + (126 - z))) ∙ sym (mul_assoc t (2 ^ z) (2 ^ (23 + (126 - z)))))
    lo hi (few z)
  where
    wide : (a : ℕ) → a / 2 ^ 23 ≡ 0 → a < 2 ^ 31
    wide a e = omega arith

    some : (a : ℕ) → 0 < a → a / 2 ^ 23 ≡ 0 → 0 < a % 2 ^ 23
    some a p e = omega arith

    total : (z : ℕ) → z ≤ 126 → 149 ≡ z + (23 + (126 - z))
    total z h = omega arith

    few : (z : ℕ) → 126 - z < 400
    few z = omega arith

-- ---- the values that are their own roots, and those that have none
pub nan-root : sqrt_of binary32 nan ≡ nan
unfolding sqrt_of
nan-root = refl

pub zero-root : sqrt_of binary32 (of_bits binary32 0) ≡ of_bits binary32 0
unfolding sqrt_of of_bits
zero-root = refl

minus-zero-root : sqrt_of binary32 (of_bits binary32 (2 ^ 31)) ≡ of_bits binary32 (2 ^ 31)
unfolding sqrt_of of_bits
minus-zero-root = refl

inf-root : sqrt_of binary32 (of_bits binary32 (255 * 2 ^ 23)) ≡ of_bits binary32 (255 * 2 ^ 23)
unfolding sqrt_of of_bits
inf-root = refl

-- the infinity, and -0
pub own_root : (b : ℕ) → 255 * 2 ^ 23 ≤ b → b ≤ 2 ^ 31 → b % 2 ^ 31 ≤ 255 * 2 ^ 23 → of_bits binary32 b ≡ sqrt_of binary32 (of_bits binary32 b)
own_root b lo hi m = go (eq-or-lt_of_le hi)
  where
    at-inf : b < 2 ^ 31 → b % 2 ^ 31 ≤ 255 * 2 ^ 23 → 255 * 2 ^ 23 ≤ b → b ≡ 255 * 2 ^ 23
    at-inf h m l = omega arith

    go : (b ≡ 2 ^ 31) ⊎ (b < 2 ^ 31) → of_bits binary32 b ≡ sqrt_of binary32 (of_bits binary32 b)
    go (inl e) = subst (λ (x : ℕ). of_bits binary32 x ≡ sqrt_of binary32 (of_bits binary32 x)) (sym e) (sym minus-zero-root)
    go (inr h) = subst (λ (x : ℕ). of_bits binary32 x ≡ sqrt_of binary32 (of_bits binary32 x)) (sym (at-inf h m lo)) (sym inf-root)

-- below zero
negative : (v : Float) (w c : ℕ) → 0 < w → HasValue v true w c → sqrt_of binary32 v ≡ nan
unfolding sqrt_of
negative nan w c p h = absurd h
negative (inf t) w c p h = absurd h
negative (fin t zero x) w c p h = absurd (nonzero w (down x) p (down_pos x) (sym (ap (λ (y : ℕ). y * c) (zero-mul (up x)) ∙ zero-mul c) ∙ h.1))
negative (fin true (suc m) x) w c p h = refl
negative (fin false (suc m) x) w c p h = absurd (true≢false (sym h.0))

minus-inf : sqrt_of binary32 (of_bits binary32 (2 ^ 31 + 255 * 2 ^ 23)) ≡ nan
unfolding sqrt_of of_bits
minus-inf = refl

negative-value : (x t : ℕ) → x < 254 → HasValue (of_fields binary32 true (suc x) t) true ((2 ^ 23 + t) * 2 ^ x) (2 ^ 149)
unfolding of_fields
negative-value x t h =
    subst (λ (b : Bool). HasValue (cond b (cond (eqb t 0) (inf true) nan) (odd 24 true (2 ^ 23 + t) x 149)) true ((2 ^ 23 + t) * 2 ^ x) (2 ^ 149)) (sym (ne_eqb (suc x) 255 (no h)))
    (odd_sign 24 true (2 ^ 23 + t) x 149)
  where
    no : x < 254 → suc x ≡ 255 → ⊥
    no h e = omega arith

negative-small : (t : ℕ) → HasValue (of_fields binary32 true 0 t) true (t * 2 ^ 0) (2 ^ 149)
unfolding of_fields
negative-small t = odd_sign 24 true t 0 149

below-fields : (x t : ℕ) → (x ≡ 0 → 0 < t) → x < 255 → sqrt_of binary32 (of_fields binary32 true x t) ≡ nan
below-fields zero t p h = negative (of_fields binary32 true 0 t) (t * 2 ^ 0) (2 ^ 149) (mul-pos (p refl) (pow_pos 0)) (negative-small t)
below-fields (suc x) t p h = negative (of_fields binary32 true (suc x) t) ((2 ^ 23 + t) * 2 ^ x) (2 ^ 149) (mul-pos (some t) (pow_pos x)) (negative-value x t (less h))
  where
    some : (t : ℕ) → 0 < 2 ^ 23 + t
    some t = omega arith

    less : suc x < 255 → x < 254
    less h = omega arith

pub no-root : (b : ℕ) → 2 ^ 31 < b → b < 2 ^ 32 → b % 2 ^ 31 ≤ 255 * 2 ^ 23 → sqrt_of binary32 (of_bits binary32 b) ≡ nan
no-root b lo hi m = go (eq-or-lt_of_le m)
  where
    whole : 2 ^ 31 < b → b < 2 ^ 32 → b ≡ 2 ^ 31 + b % 2 ^ 31
    whole l h = omega arith

    few : (x : ℕ) → x < 255 * 2 ^ 23 → x < 2 ^ 31
    few x h = omega arith

    some : 2 ^ 31 < b → b < 2 ^ 32 → b % 2 ^ 31 / 2 ^ 23 ≡ 0 → 0 < b % 2 ^ 31 % 2 ^ 23
    some l h e = omega arith

    under : (x : ℕ) → x < 255 * 2 ^ 23 → x / 2 ^ 23 < 255
    under x h = omega arith

    go : (b % 2 ^ 31 ≡ 255 * 2 ^ 23) ⊎ (b % 2 ^ 31 < 255 * 2 ^ 23) → sqrt_of binary32 (of_bits binary32 b) ≡ nan
    go (inl e) = ap (λ (x : ℕ). sqrt_of binary32 (of_bits binary32 x)) (whole lo hi ∙ ap (λ (x : ℕ). 2 ^ 31 + x) e) ∙ minus-inf
    go (inr h) =
        let a = b % 2 ^ 31 in
        ap (λ (x : ℕ). sqrt_of binary32 (of_bits binary32 x)) (whole lo hi) ∙ ap (sqrt_of binary32) (signed32 true a (few a h)) ∙ below-fields (a / 2 ^ 23) (a % 2 ^ 23) (some lo hi) (under a h)
