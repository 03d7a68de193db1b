-- Where a time lies among keys in line: what `locate` says holds, and nothing else does.
-- Assumes nothing.
use mathlib.Core.Path.{◌≡◌, refl, sym, ap, ◌∙◌, subst}
use mathlib.Core.Bool.{Bool, true, false, ◌&&◌}
use mathlib.Core.List.{List, [], ◌∷◌}
use Prim.Native.Nat.{ℕ, zero, suc, ◌-◌, ◌<◌}
use native.Mathlib.Omega.{arith}
use lib.Ieee.{Float, nan, inf, fin, lt, eq, is_nan}
use lib.Ieee.Scale.{finite}
use lib.ListN.{length, get_or}
use Rattle.model.specs.Lists.{pick}
use Rattle.model.specs.Sampling.{rising, in_line, Where, before, on, between, after, gap, locate_from, locate}
use Rattle.model.proofs.Tests.{both}
use Rattle.model.proofs.Orders.{lt-excludes, eq-excludes, trichotomy, lt_trans, lt-eq-trans, eq_self}

abbrev pub key : List Float → ℕ → Float
key keys k = get_or keys k nan

-- the keys that a place names are among n keys
abbrev pub InRange : ℕ → Where → Type 0
InRange n before = 0 < n
InRange n (on k) = k < n
InRange n (between k) = suc k < n
InRange n after = Unit {0}

-- what a place says of the time; where there are no keys, it is after the last
abbrev pub Holds : List Float → Float → Where → Type 0
Holds keys t before = lt t (key keys 0) ≡ true
Holds keys t (on k) = eq t (key keys k) ≡ true
Holds keys t (between k) = (lt (key keys k) t ≡ true) × (lt t (key keys (suc k)) ≡ true)
Holds keys t after = 0 < length keys → lt (key keys (length keys - 1)) t ≡ true

pub record Located (keys : List Float) (t : Float) (w : Where) : Type 0 where
  pub in_range : InRange (length keys) w
  pub holds : Holds keys t w

-- ---- one more key in front

-- the same place, counted with one more key in front
abbrev later : Where → Where
later before = between 0
later (on k) = on (suc k)
later (between k) = between (suc k)
later after = after

later-from : (k : ℕ) (keys : List Float) (t : Float) → locate_from (suc k) keys t ≡ later (locate_from k keys t)
unfolding locate_from
later-from k [] t = refl
later-from k (x ∷ xs) t = go k (lt t x) (eq t x) (locate_from (suc k) xs t) (later-from (suc k) xs t)
  where
    go : (k : ℕ) (a b : Bool) (w : Where) {v : Where} → v ≡ later w → pick a (between k) (pick b (on (suc k)) v) ≡ later (pick a (gap k) (pick b (on k) w))
    go zero true b w e = refl
    go (suc k) true b w e = refl
    go k false true w e = refl
    go k false false w e = e

locate-cons : (x : Float) (xs : List Float) (t : Float) → locate (x ∷ xs) t ≡ pick (lt t x) before (pick (eq t x) (on 0) (later (locate xs t)))
unfolding locate locate_from
locate-cons x xs t = ap (λ (w : Where). pick (lt t x) before (pick (eq t x) (on 0) w)) (later-from 0 xs t)

-- what holds of `after` without keys, and goes on to one more key in front, which the time is below, on or past, holds of the place
module _ (t : Float) (P : List Float → Where → Type 0) (none : P [] after)
    (is_below : (x : Float) (xs : List Float) → lt t x ≡ true → P (x ∷ xs) before)
    (is_on : (x : Float) (xs : List Float) → eq t x ≡ true → P (x ∷ xs) (on 0))
    (is_past : (x : Float) (xs : List Float) (w : Where) → lt t x ≡ false → eq t x ≡ false → P xs w → P (x ∷ xs) (later w)) where
  by-keys : (keys : List Float) → P keys (locate keys t)
  unfolding locate locate_from
  by-keys [] = none
  by-keys (x ∷ xs) = subst (P (x ∷ xs)) (sym (locate-cons x xs t)) (go (lt t x) refl (eq t x) refl (by-keys xs))
    where
      go : (a : Bool) → lt t x ≡ a → (b : Bool) → eq t x ≡ b → P xs (locate xs t) → P (x ∷ xs) (pick a before (pick b (on 0) (later (locate xs t))))
      go true p b q r = is_below x xs p
      go false p true q r = is_on x xs q
      go false p false q r = is_past x xs (locate xs t) p q r

later-in-range : (n : ℕ) (w : Where) → InRange n w → InRange (suc n) (later w)
later-in-range n before h = omega arith
later-in-range n (on k) h = omega arith
later-in-range n (between k) h = omega arith
later-in-range n after h = tt

-- the place is among the keys, whatever time and keys are
pub locate-in-range : (keys : List Float) (t : Float) → InRange (length keys) (locate keys t)
locate-in-range keys t =
    by-keys t (λ (l : List Float) (w : Where). InRange (length l) w) tt (λ x xs p. omega arith) (λ x xs p. omega arith) (λ x xs w p q. later-in-range (length xs) w) keys

-- ---- the last key

last-at : (x : Float) (xs : List Float) → key (x ∷ xs) (length (x ∷ xs) - 1) ≡ key (x ∷ xs) (length xs)
last-at x xs = let e : length (x ∷ xs) - 1 ≡ length xs = omega arith in ap (key (x ∷ xs)) e

later_last : (x y : Float) (ys : List Float) → key (x ∷ y ∷ ys) (length (x ∷ y ∷ ys) - 1) ≡ key (y ∷ ys) (length (y ∷ ys) - 1)
later_last x y ys = last-at x (y ∷ ys) ∙ sym (last-at y ys)

later-holds : (x : Float) (xs : List Float) (t : Float) (w : Where) → lt x t ≡ true → Holds xs t w → Holds (x ∷ xs) t (later w)
later-holds x xs t before h r = (h, r)
later-holds x xs t (on k) h r = r
later-holds x xs t (between k) h r = r
later-holds x [] t after h r = λ b. h
later-holds x (y ∷ ys) t after h r = λ b. ap (λ (z : Float). lt z t) (later_last x y ys) ∙ r (omega arith)

-- ---- keys in line

not-nan : (x : Float) → finite x ≡ true → is_nan x ≡ false
unfolding is_nan
not-nan nan h = sym h
not-nan (inf s) h = refl
not-nan (fin s m e) h = refl

first-finite : (x : Float) (xs : List Float) → in_line (x ∷ xs) ≡ true → finite x ≡ true
unfolding in_line
first-finite x xs h = (both (finite x) (rising x xs) h).0

second-in-line : (x y : Float) (ys : List Float) → in_line (x ∷ y ∷ ys) ≡ true → (lt x y ≡ true) × (in_line (y ∷ ys) ≡ true)
unfolding in_line rising
second-in-line x y ys h =
    let r = both (finite y && lt x y) (rising y ys) (both (finite x) (finite y && lt x y && rising y ys) h).1 in
    let f = both (finite y) (lt x y) r.0 in
    (f.1, λ i. f.0 i && r.1 i)

rest-in-line : (x : Float) (xs : List Float) → in_line (x ∷ xs) ≡ true → in_line xs ≡ true
unfolding in_line
rest-in-line x [] h = refl
rest-in-line x (y ∷ ys) h = (second-in-line x y ys h).1

first_below : (x : Float) (xs : List Float) → in_line (x ∷ xs) ≡ true → (k : ℕ) → k < length xs → lt x (key xs k) ≡ true
first_below x [] h k b = absurd (omega arith)
first_below x (y ∷ ys) h zero b = (second-in-line x y ys h).0
first_below x (y ∷ ys) h (suc k) b =
    let r = second-in-line x y ys h in
    lt_trans x y (key ys k) r.0 (first_below y ys r.1 k (omega arith))

-- ---- what `locate` says holds, and is the only place that does

pub located : (keys : List Float) (t : Float) → is_nan t ≡ false → in_line keys ≡ true → Located keys t (locate keys t)
located keys t n line = record {
  in_range = locate-in-range keys t;
  holds =
      by-keys t (λ (l : List Float) (w : Where). in_line l ≡ true → Holds l t w) (λ h b. absurd (omega arith)) (λ x xs p h. p) (λ x xs p h. p)
      (λ x xs w p q r h. later-holds x xs t w (trichotomy t x n (not-nan x (first-finite x xs h)) p q) (r (rest-in-line x xs h)))
      keys line;
}

module _ (t : Float) where
  past_first : (x : Float) (xs : List Float) → lt x t ≡ true → {w : Where} → locate xs t ≡ w → locate (x ∷ xs) t ≡ later w
  past_first x xs h e =
      let n = lt-excludes x t h in
      locate-cons x xs t ∙ (λ i. pick (n.0 i) before (pick (n.1 i) (on 0) (later (e i))))

  unique : (keys : List Float) (w : Where) → in_line keys ≡ true → InRange (length keys) w → Holds keys t w → locate keys t ≡ w
  unfolding locate locate_from
  unique [] before l r h = absurd (omega arith)
  unique [] (on k) l r h = absurd (omega arith)
  unique [] (between k) l r h = absurd (omega arith)
  unique [] after l r h = refl
  unique (x ∷ xs) before l r h = locate-cons x xs t ∙ (λ i. pick (h i) before (pick (eq t x) (on 0) (later (locate xs t))))
  unique (x ∷ xs) (on zero) l r h = locate-cons x xs t ∙ (λ i. pick (eq-excludes t x h i) before (pick (h i) (on 0) (later (locate xs t))))
  unique (x ∷ xs) (on (suc k)) l r h =
      past_first x xs (lt-eq-trans x (key xs k) t (first_below x xs l k (omega arith)) h) (unique xs (on k) (rest-in-line x xs l) (omega arith) h)
  unique (x ∷ xs) (between zero) l r h = past_first x xs h.0 (unique xs before (rest-in-line x xs l) (omega arith) h.1)
  unique (x ∷ xs) (between (suc k)) l r h =
      past_first x xs (lt_trans x (key xs k) t (first_below x xs l k (omega arith)) h.0) (unique xs (between k) (rest-in-line x xs l) (omega arith) h)
  unique (x ∷ []) after l r h = past_first x [] (h (omega arith)) refl
  unique (x ∷ y ∷ ys) after l r h =
      let n = length (y ∷ ys) - 1 in
      let e = ap (λ (z : Float). lt z t) (sym (later_last x y ys)) ∙ h (omega arith) in
      past_first x (y ∷ ys) (lt_trans x (key (y ∷ ys) n) t (first_below x (y ∷ ys) l n (omega arith)) e) (unique (y ∷ ys) after (rest-in-line x (y ∷ ys) l) tt (λ b. e))

pub located-unique : {keys : List Float} {t : Float} {w : Where} → in_line keys ≡ true → Located keys t w → locate keys t ≡ w
located-unique {keys} {t} {w} line h = unique t keys w line h.in_range h.holds

-- ---- the places by name

-- a NaN is neither below nor on any key
nan-after : (k : ℕ) (keys : List Float) → locate_from k keys nan ≡ after
unfolding locate_from lt eq
nan-after k [] = refl
nan-after k (x ∷ xs) = nan-after (suc k) xs

pub between-number : (keys : List Float) (t : Float) (k : ℕ) → locate keys t ≡ between k → is_nan t ≡ false
unfolding locate is_nan
between-number keys nan k h = let n = nan-after 0 keys in cc
between-number keys (inf s) k h = refl
between-number keys (fin s m e) k h = refl

pub key-finite : (keys : List Float) → in_line keys ≡ true → (k : ℕ) → k < length keys → finite (key keys k) ≡ true
key-finite [] l k b = absurd (omega arith)
key-finite (x ∷ xs) l zero b = first-finite x xs l
key-finite (x ∷ xs) l (suc k) b = key-finite xs (rest-in-line x xs l) k (omega arith)

module _ (keys : List Float) (line : in_line keys ≡ true) where
  pub located-on : (k : ℕ) → k < length keys → locate keys (key keys k) ≡ on k
  located-on k b = located-unique line (record { in_range = b; holds = eq_self (key keys k) (not-nan (key keys k) (key-finite keys line k b)) })

  module _ (t : Float) where
    pub located-before : 0 < length keys → lt t (key keys 0) ≡ true → locate keys t ≡ before
    located-before b h = located-unique line (record { in_range = b; holds = h })

    pub located-between : (k : ℕ) → suc k < length keys → lt (key keys k) t ≡ true → lt t (key keys (suc k)) ≡ true → locate keys t ≡ between k
    located-between k b h g = located-unique line (record { in_range = b; holds = (h, g) })

    pub located_after : lt (key keys (length keys - 1)) t ≡ true → locate keys t ≡ after
    located_after h = located-unique line (record { in_range = tt; holds = λ b. h })
