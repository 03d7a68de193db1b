-- The exact series: its ratios are at most a half, so that what is left out after a term is at most that term; and v times each partial sum is at most 1. Assumes nothing.
use mathlib.Core.Path.{◌≡◌, subst}
use Prim.Native.Nat.{ℕ, zero, suc, ◌+◌, ◌-◌, ◌*◌, ◌^◌, ◌≤◌}
use native.Mathlib.Decide.{dec_le, le_ind}
use native.Mathlib.Nat.{add-le-add, add-sub_of_le, le-add_right, le_of_lt, lt_of_not-le, le_trans, le_refl, sub-le, mul_assoc, mul-le-mul, mul-le-mul_left, mul-le-mul_right, two-pow-succ}
use native.Mathlib.Omega.{arith}
use Rattle.turn.specs.Bounds.{num, den, top, bot, before}

-- one ratio taken into the rest of the series
pub horner : (x t z g u h : ℕ) → (x + t) * z * g + t * u * h ≡ x * (z * g) + t * (z * g + u * h)
horner x t z g u h = omega arith

module _ (a b m n : ℕ) where
  -- ---- a ratio is at most a half
  pub ratio-half : (i : ℕ) → num a b m n i * 2 ≤ den a b m n i
  unfolding num den
  ratio-half i = half (b * b) n ((i * i * (b * b) - a * a) * (n - m)) (mul-le-mul (sub-le (i * i * (b * b)) (a * a)) (sub-le n m))
    where
      half : (q z x : ℕ) → x ≤ i * i * q * z → x * 2 ≤ q * z * (i * (2 * i + 1))
      half q z x h = omega arith

  -- ---- the terms fall at least by halves
  top_small : (k : ℕ) → top a b m n k * 2 ^ k ≤ bot a b m n k
  unfolding top bot
  top_small zero = le_refl 1
  top_small (suc k) = rw (two-pow-succ k) (omega (arith, mul-le-mul (top_small k) (ratio-half (suc k))))

  -- ---- partial sums rise, and a partial sum with the next term added twice falls
  abbrev upper : ℕ → ℕ
  upper k = before a b m n k + 2 * top a b m n k

  rises : (k : ℕ) → before a b m n k * den a b m n (suc k) ≤ before a b m n (suc k)
  unfolding before
  rises k = mul-le-mul_right (den a b m n (suc k)) (le-add_right (before a b m n k) (top a b m n k))

  falls : (k : ℕ) → upper (suc k) ≤ upper k * den a b m n (suc k)
  unfolding before top
  falls k = omega (arith, mul-le-mul_left (top a b m n k) (ratio-half (suc k)))

  low-mono : (k j : ℕ) → k ≤ j → before a b m n k * bot a b m n j ≤ before a b m n j * bot a b m n k
  unfolding bot
  low-mono k = le_ind (λ j. before a b m n k * bot a b m n j ≤ before a b m n j * bot a b m n k) (le_refl (before a b m n k * bot a b m n k)) λ j l h.
      omega (arith, mul-le-mul_right (den a b m n (suc j)) h, mul-le-mul_right (bot a b m n k) (rises j))

  high-mono : (k j : ℕ) → k ≤ j → upper j * bot a b m n k ≤ upper k * bot a b m n j
  unfolding bot
  high-mono k = le_ind (λ j. upper j * bot a b m n k ≤ upper k * bot a b m n j) (le_refl (upper k * bot a b m n k)) λ j l h.
      omega (arith, mul-le-mul_right (den a b m n (suc j)) h, mul-le-mul_right (bot a b m n k) (falls j))

  low-high : (k : ℕ) → before a b m n k ≤ upper k
  low-high k = le-add_right (before a b m n k) (2 * top a b m n k)

  -- every partial sum is at most a given one with the next term added twice
  all-below : (k j : ℕ) → before a b m n j * bot a b m n k ≤ upper k * bot a b m n j
  all-below k j = elim (dec_le j k) [
    | yes h ↦ le_trans (low-mono j k h) (mul-le-mul_right (bot a b m n j) (low-high k))
    | no h ↦ le_trans (mul-le-mul_right (bot a b m n k) (low-high j)) (high-mono k j (le_of_lt (lt_of_not-le h)))
  ]

  -- so each is at most 2
  pub sum-two : (k : ℕ) → before a b m n k ≤ 2 * bot a b m n k
  unfolding before top bot
  sum-two k = omega (arith, all-below 0 k)

  -- ---- v times each partial sum is at most 1: with G the rest of the series from step k on, (k + v) * G ≤ 2 k + 1 passes from k + 1 to k
  carried : (k gn gd : ℕ) → a ≤ b → (suc k * b + a) * gn ≤ (2 * suc k + 1) * b * gd
      → (k * b + a) * (den a b m n (suc k) * gd + num a b m n (suc k) * gn) ≤ (2 * k + 1) * b * (den a b m n (suc k) * gd)
  unfolding num den
  carried k gn gd h g =
      one-step (suc k) b a (suc k * b - a) n ((suc k * suc k * (b * b) - a * a) * (n - m)) gn gd (k * b + a) ((2 * k + 1) * b)
      (mul-le-mul (subst (λ (z : ℕ). suc k * suc k * (z * z) - a * a ≤ (suc k * z - a) * (suc k * z + a)) (add-sub_of_le h) (squares k a (b - a))) (sub-le n m)) g
      (subst (λ (z : ℕ). (k * z + a) * (suc k * z + (suc k * z - a)) ≤ (2 * k + 1) * z * (z * suc k)) (add-sub_of_le h) (poly k a (b - a)))
    where
      next : (k x w : ℕ) → suc k * (x + w) - x ≡ k * (x + w) + w
      next k x w = omega arith

      squares : (k x w : ℕ) → suc k * suc k * ((x + w) * (x + w)) - x * x ≤ (suc k * (x + w) - x) * (suc k * (x + w) + x)
      squares k x w = rw (next k x w) (omega arith)

      poly : (k x w : ℕ) → (k * (x + w) + x) * (suc k * (x + w) + (suc k * (x + w) - x)) ≤ (2 * k + 1) * (x + w) * ((x + w) * suc k)
      poly k x w = rw (next k x w) (omega arith)

      one-step : (i q x p N u gn gd r c : ℕ) → u ≤ p * (i * q + x) * N → (i * q + x) * gn ≤ (2 * i + 1) * q * gd → r * (i * q + p) ≤ c * (q * i)
          → r * (q * q * N * (i * (2 * i + 1)) * gd + u * gn) ≤ c * (q * q * N * (i * (2 * i + 1)) * gd)
      one-step i q x p N u gn gd r c hu hg hp =
          let K = N * ((2 * i + 1) * q * gd) in
          let e : q * q * N * (i * (2 * i + 1)) * gd ≡ i * q * K = omega arith in
          let l : u * gn ≤ p * K = omega (arith, mul-le-mul_right gn hu, mul-le-mul_left (p * N) hg) in
          rw e (le_trans (mul-le-mul_left r (add-le-add (le_refl (i * q * K)) l)) (omega (arith, mul-le-mul_right K hp)))

  below_one : (k gn gd : ℕ) → a ≤ b → (k * b + a) * gn ≤ (2 * k + 1) * b * gd → a * (before a b m n k * gd + top a b m n k * gn) ≤ b * (bot a b m n k * gd)
  unfolding before top bot
  below_one zero gn gd h g = omega arith
  below_one (suc k) gn gd h g =
      rw (horner, mul_assoc (bot a b m n k) (den a b m n (suc k)) gd)
      (below_one k (den a b m n (suc k) * gd + num a b m n (suc k) * gn) (den a b m n (suc k) * gd) h (carried k gn gd h g))

  pub part-le-one : (k : ℕ) → a ≤ b → a * before a b m n k ≤ b * bot a b m n k
  part-le-one k h = omega (arith, below_one k 0 1 h (omega arith))

  -- ---- v times any partial sum is at most v times the sum of the first k terms and twice the next term; after 41 terms that is at most 2 ^ -40
  pub parts_below : (k j : ℕ) → a * before a b m n j * (b * bot a b m n k) ≤ (a * before a b m n k + a * (2 * top a b m n k)) * (b * bot a b m n j)
  parts_below k j = omega (arith, mul-le-mul_left (a * b) (all-below k j))

  pub next_small : a ≤ b → a * (2 * top a b m n 41) * 2 ^ 40 ≤ b * bot a b m n 41
  next_small h = omega (arith, mul-le-mul h (top_small 41))
