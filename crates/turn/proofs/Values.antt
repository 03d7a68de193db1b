-- An operation on finite values, each given as a fraction: it is `round` at the fraction that the exact result equals. Zeros are in. And the order of values is that of the fractions. Assumes nothing.
use mathlib.Core.Path.{◌≡◌, refl, sym, ap, ◌∙◌, subst}
use Prim.Native.Nat.{ℕ, ◌+◌, ◌-◌, ◌*◌, ◌^◌, ◌≤◌, ◌<◌}
use native.Mathlib.Nat.{le_of_eq, le_of_lt, lt_irrefl, lt_of_lt_of_le, mul_comm, mul-one, mul-pos, mul-sub, mul-mul-mul_comm, zero-lt-suc}
use native.Mathlib.Omega.{arith}
use mathlib.Core.Bool.{Bool, true, false, ◌&&◌, ◌||◌, cond}
use lib.IntN.{ℤ, pos}
use lib.Dec.{T, lit≤, ltb, eqb, ltb→lt, eqb→eq}
use lib.Pow.{shl_lt}
use lib.Ieee.{Float, nan, inf, fin, binary64, unlike, up, down, round, add, sub, mul, div, of_int, le}
use lib.Ieee.Fits.{down_pos, and_l}
use lib.Ieee.Exact.{HasValue, round_exact}
use lib.Ieee.Order.{transfer}
use lib.Ieee.Positive.{first_pos}
use lib.Ieee.Scale.{round_same}
use borrow.Author.Tests.{le-ltb, ne_eqb}
use Rattle.float.specs.F64.{◌⊕◌, ◌⊖◌, ◌⊗◌, ◌⊘◌}

-- ---- a finite value taken apart, and a value with one that is not negative
pub apart : (P : Float → Type 0) (x : Float) (s : Bool) (a c : ℕ) → HasValue x s a c → ((m : ℕ) (e : ℤ) → m * up e * c ≡ a * down e → P (fin s m e)) → P x
apart P nan s a c p k = absurd p
apart P (inf t) s a c p k = absurd p
apart P (fin t m e) s a c p k = subst (λ (r : Bool). P (fin r m e)) (sym p.0) (k m e p.1)

both : (P : Float → Float → Type 0) (x y : Float) (s : Bool) (a c b d : ℕ) → HasValue x s a c → HasValue y false b d
    → ((m : ℕ) (e : ℤ) (n : ℕ) (g : ℤ) → m * up e * c ≡ a * down e → n * up g * d ≡ b * down g → P (fin s m e) (fin false n g)) → P x y
both P x y s a c b d p q k = apart (λ x. P x y) x s a c p λ m e h. apart (P (fin s m e)) y false b d q λ n g l. k m e n g h l

-- ---- fractions that are equal: x / u is a / c and y / v is b / d
cross-mul : (x y u v a c b d : ℕ) → x * c ≡ a * u → y * d ≡ b * v → x * y * (c * d) ≡ a * b * (u * v)
cross-mul x y u v a c b d p q = mul-mul-mul_comm x y c d ∙ ap (λ (z : ℕ). z * (y * d)) p ∙ ap (λ (z : ℕ). a * u * z) q ∙ mul-mul-mul_comm a u b v

side : (x u v a c d : ℕ) → x * c ≡ a * u → x * v * (c * d) ≡ a * d * (u * v)
side x u v a c d p = omega (arith, ap (λ (z : ℕ). z * (v * d)) p)

cross-add : (x y u v a c b d : ℕ) → x * c ≡ a * u → y * d ≡ b * v → (x * v + y * u) * (c * d) ≡ (a * d + b * c) * (u * v)
cross-add x y u v a c b d p q = omega (arith, side x u v a c d p, side y v u b d c q)

cross-sub : (x y u v a c b d : ℕ) → x * c ≡ a * u → y * d ≡ b * v → (x * v - y * u) * (c * d) ≡ (a * d - b * c) * (u * v)
cross-sub x y u v a c b d p q =
    let h : c * d * (x * v) ≡ u * v * (a * d) = omega (arith, side x u v a c d p) in
    let k : c * d * (y * u) ≡ u * v * (b * c) = omega (arith, side y v u b d c q) in
    mul_comm (x * v - y * u) (c * d)
    ∙ mul-sub (c * d) (x * v) (y * u)
    ∙ ap (λ (z : ℕ). z - c * d * (y * u)) h
    ∙ ap (λ (z : ℕ). u * v * (a * d) - z) k
    ∙ sym (mul-sub (u * v) (a * d) (b * c))
    ∙ mul_comm (u * v) (a * d - b * c)

cross-div : (x y u v a c b d : ℕ) → x * c ≡ a * u → y * d ≡ b * v → x * v * (b * c) ≡ a * d * (y * u)
cross-div x y u v a c b d p q = omega (arith, ap (λ (z : ℕ). z * (b * v)) p, ap (λ (z : ℕ). a * u * z) q)

-- ---- the operations
product_is : (s t r : Bool) (m : ℕ) (e : ℤ) (n : ℕ) (g : ℤ) (a c b d : ℕ) → unlike s t ≡ r → 0 < c → 0 < d → m * up e * c ≡ a * down e → n * up g * d ≡ b * down g
    → fin s m e ⊗ fin t n g ≡ round binary64 r (a * b) (c * d)
unfolding mul
product_is s t r m e n g a c b d u C D h k =
    ap (λ (x : Bool). round binary64 x (m * up e * (n * up g)) (down e * down g)) u
    ∙ round_same binary64 r (m * up e * (n * up g)) (down e * down g) (a * b) (c * d) (mul-pos (down_pos e) (down_pos g)) (mul-pos C D)
    (cross-mul (m * up e) (n * up g) (down e) (down g) a c b d h k)

pub mul_val : (x y : Float) (s : Bool) (a c b d : ℕ) → 0 < c → 0 < d → HasValue x s a c → HasValue y false b d → x ⊗ y ≡ round binary64 s (a * b) (c * d)
mul_val x y s a c b d C D p q = both (λ x y. x ⊗ y ≡ round binary64 s (a * b) (c * d)) x y s a c b d p q λ m e n g h k. product_is s false s m e n g a c b d (plain s) C D h k
  where
    plain : (s : Bool) → unlike s false ≡ s
    plain true = refl
    plain false = refl

pub square-val : (x : Float) (s : Bool) (a c : ℕ) → 0 < c → HasValue x s a c → x ⊗ x ≡ round binary64 false (a * a) (c * c)
square-val x s a c C p = apart (λ x. x ⊗ x ≡ round binary64 false (a * a) (c * c)) x s a c p λ m e h. product_is s s false m e m e a c a c (alike s) C C h h
  where
    alike : (s : Bool) → unlike s s ≡ false
    alike true = refl
    alike false = refl

pub add-val : (x y : Float) (a c b d : ℕ) → 0 < c → 0 < d → HasValue x false a c → HasValue y false b d → x ⊕ y ≡ round binary64 false (a * d + b * c) (c * d)
unfolding add
add-val x y a c b d C D p q =
    both (λ x y. x ⊕ y ≡ round binary64 false (a * d + b * c) (c * d)) x y false a c b d p q λ m e n g h k.
    round_same binary64 false (m * up e * down g + n * up g * down e) (down e * down g) (a * d + b * c) (c * d) (mul-pos (down_pos e) (down_pos g)) (mul-pos C D)
    (cross-add (m * up e) (n * up g) (down e) (down g) a c b d h k)

pub sub_val : (x y : Float) (a c b d : ℕ) → 0 < c → 0 < d → HasValue x false a c → HasValue y false b d → b * c ≤ a * d → x ⊖ y ≡ round binary64 false (a * d - b * c) (c * d)
unfolding sub
sub_val x y a c b d C D p q l =
    both (λ x y. x ⊖ y ≡ round binary64 false (a * d - b * c) (c * d)) x y false a c b d p q λ m e n g h k.
    let x = m * up e * down g in
    let y = n * up g * down e in
    ap (λ (t : Bool). cond t (round binary64 true (y - x) (down e * down g)) (round binary64 false (x - y) (down e * down g)))
    (le-ltb x y (transfer (n * up g) (m * up e) (down g) (down e) b a d c D C k h l))
    ∙ round_same binary64 false (x - y) (down e * down g) (a * d - b * c) (c * d) (mul-pos (down_pos e) (down_pos g)) (mul-pos C D)
    (cross-sub (m * up e) (n * up g) (down e) (down g) a c b d h k)

pub div-val : (x y : Float) (a c b d : ℕ) → 0 < c → 0 < b → HasValue x false a c → HasValue y false b d → x ⊘ y ≡ round binary64 false (a * d) (b * c)
unfolding div
div-val x y a c b d C B p q =
    both (λ x y. x ⊘ y ≡ round binary64 false (a * d) (b * c)) x y false a c b d p q λ m e n g h k.
    let N : 0 < n * up g = first_pos (n * up g) d (subst (λ (z : ℕ). 0 < z) (sym k) (mul-pos B (down_pos g))) in
    ap (λ (t : Bool). cond t (cond (eqb m 0) nan (inf false)) (round binary64 false (m * up e * down g) (n * up g * down e)))
    (ne_eqb n 0 (λ (z : n ≡ 0). lt_irrefl 0 (subst (λ (i : ℕ). 0 < i) z (first_pos n (up g) N))))
    ∙ round_same binary64 false (m * up e * down g) (n * up g * down e) (a * d) (b * c) (mul-pos N (down_pos e)) (mul-pos B C)
    (cross-div (m * up e) (n * up g) (down e) (down g) a c b d h k)

-- ---- a whole number below 2 ^ 53 is itself
pub int-val : (n : ℕ) → n < 2 ^ 53 → HasValue (of_int binary64 (pos n)) false n 1
unfolding of_int
int-val n h = round_exact binary64 false n 1 n 1074 (zero-lt-suc 0) h (lt_of_lt_of_le (shl_lt 53 1074 h) (lit≤ tt)) (sym (mul-one (n * 2 ^ 1074)))

-- ---- the order
or-le : (a b : ℕ) → T (ltb a b || (eqb a b && true)) → a ≤ b
or-le a b h = go (ltb a b) (ltb→lt a b) h
  where
    go : (l : Bool) → (T l → a < b) → T (l || (eqb a b && true)) → a ≤ b
    go true k g = le_of_lt (k tt)
    go false k g = le_of_eq (eqb→eq a b (and_l (eqb a b) true g))

pub values_of_le : (x y : Float) (a c b d : ℕ) → HasValue x false a c → HasValue y false b d → T (le x y) → a * d ≤ b * c
unfolding le
values_of_le x y a c b d p q =
    both (λ x y. T (le x y) → a * d ≤ b * c) x y false a c b d p q λ m e n g h k l.
    transfer a b c d (m * up e) (n * up g) (down e) (down g) (down_pos e) (down_pos g) (sym h) (sym k) (or-le (m * up e * down g) (n * up g * down e) l)
