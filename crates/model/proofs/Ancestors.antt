-- The root that joints have in common: it is on the line of each of them, and whatever else is on all their lines is on its own.
-- Assumes nothing.
use mathlib.Core.Path.{◌≡◌, refl, sym, ap, ◌∙◌, subst}
use mathlib.Core.Logic.{◌⊎◌, inl, inr}
use mathlib.Core.Bool.{Bool, true, false, ◌&&◌, ◌||◌, or-true, true≢false, false≢true}
use mathlib.Core.List.{List, [], ◌∷◌}
use mathlib.Core.Option.{Option, none, some, none-ne-some, some-ne-none}
use Prim.Native.Nat.{ℕ, zero, suc, ◌<◌}
use borrow.Author.Tests.{eqb-true, eq-eqb, lt-ltb}
use lib.Dec.{eqb, ltb}
use Rattle.model.specs.Lists.{pick, every, any_of, first_that}
use Rattle.model.specs.Scene.{Scene, node_count}
use Rattle.model.specs.Parents.{parent_of}
use Rattle.model.specs.Skin.{ancestors, line_of, is_among, common_root}
use Rattle.model.proofs.Tests.{both, either}

-- ---- members of a list

module _ (b x : ℕ) (xs : List ℕ) where
  pub among_first : x ≡ b → is_among b (x ∷ xs) ≡ true
  unfolding any_of
  among_first e = ap (λ (t : Bool). t || is_among b xs) (eq-eqb x b e)

  pub among-rest : is_among b xs ≡ true → is_among b (x ∷ xs) ≡ true
  unfolding any_of
  among-rest h = ap (λ (t : Bool). eqb x b || t) h ∙ or-true (eqb x b)

  pub among_cases : is_among b (x ∷ xs) ≡ true → (x ≡ b) ⊎ (is_among b xs ≡ true)
  unfolding any_of
  among_cases h = elim (either (eqb x b) (is_among b xs) h) [ inl e ↦ inl (eqb-true x b e) | inr m ↦ inr m ]

module _ (p : ℕ → Bool) where
  every_of : (l : List ℕ) → ((i : ℕ) → is_among i l ≡ true → p i ≡ true) → every p l ≡ true
  unfolding every
  every_of [] h = refl
  every_of (x ∷ xs) h =
      let e = h x (among_first x x xs refl) in
      let r = every_of xs (λ i m. h i (among-rest i x xs m)) in
      λ k. e k && r k

  of-every : (l : List ℕ) → every p l ≡ true → (i : ℕ) → is_among i l ≡ true → p i ≡ true
  unfolding every any_of
  of-every [] h i m = absurd (false≢true m)
  of-every (x ∷ xs) h i m =
      let e = both (p x) (every p xs) h in
      elim (among_cases i x xs m) [ inl q ↦ subst (λ (j : ℕ). p j ≡ true) q e.0 | inr m ↦ of-every xs e.1 i m ]

  found : (l : List ℕ) (a : ℕ) → first_that p l ≡ some a → (is_among a l ≡ true) × (p a ≡ true)
  unfolding first_that
  found [] a h = absurd (none-ne-some a h)
  found (x ∷ xs) a h = go (p x) refl h (found xs a)
    where
      go : (c : Bool) → p x ≡ c → pick c (some x) (first_that p xs) ≡ some a → (first_that p xs ≡ some a → (is_among a xs ≡ true) × (p a ≡ true))
          → (is_among a (x ∷ xs) ≡ true) × (p a ≡ true)
      go true e h r = let q : x ≡ a = cc in (among_first a x xs q, subst (λ (j : ℕ). p j ≡ true) q e)
      go false e h r = let s = r h in (among-rest a x xs s.0, s.1)

  -- a member that passes is not a first one that fails
  beyond : (b x : ℕ) (xs : List ℕ) → p x ≡ false → p b ≡ true → is_among b (x ∷ xs) ≡ true → is_among b xs ≡ true
  beyond b x xs f q m = elim (among_cases b x xs m) [ inl e ↦ absurd (true≢false (sym q ∙ ap p (sym e) ∙ f)) | inr r ↦ r ]

  none_found : (b : ℕ) → p b ≡ true → (l : List ℕ) → first_that p l ≡ none → is_among b l ≡ true → ⊥
  unfolding first_that any_of
  none_found b q [] h m = false≢true m
  none_found b q (x ∷ xs) h m = go (p x) refl h (none_found b q xs)
    where
      go : (c : Bool) → p x ≡ c → pick c (some x) (first_that p xs) ≡ none → (first_that p xs ≡ none → is_among b xs ≡ true → ⊥) → ⊥
      go true e h r = some-ne-none x h
      go false e h r = r h (beyond b x xs e q m)

-- ---- a line

module _ (parent : ℕ → Option ℕ) where
  -- a longer line holds what a shorter one holds
  among-longer : (b k : ℕ) (o : Option ℕ) → is_among b (ancestors k parent o) ≡ true → is_among b (ancestors (suc k) parent o) ≡ true
  unfolding ancestors any_of
  among-longer b zero o h = absurd (false≢true h)
  among-longer b (suc k) none h = h
  among-longer b (suc k) (some i) h = elim (among_cases b i (ancestors k parent (parent i)) h) [
    | inl e ↦ among_first b i (ancestors (suc k) parent (parent i)) e
    | inr m ↦ among-rest b i (ancestors (suc k) parent (parent i)) (among-longer b k (parent i) m)
  ]

  -- what passes on a line is on the line of the first that passes
  from_first : (p : ℕ → Bool) (b a : ℕ) → p b ≡ true → (k : ℕ) (o : Option ℕ) → first_that p (ancestors k parent o) ≡ some a
      → is_among b (ancestors k parent o) ≡ true → is_among b (ancestors k parent (some a)) ≡ true
  unfolding ancestors first_that any_of
  from_first p b a q zero o h m = m
  from_first p b a q (suc k) none h m = absurd (false≢true m)
  from_first p b a q (suc k) (some i) h m = go (p i) refl h (from_first p b a q k (parent i))
    where
      rest : List ℕ
      rest = ancestors k parent (parent i)

      go : (c : Bool) → p i ≡ c → pick c (some i) (first_that p rest) ≡ some a
          → (first_that p rest ≡ some a → is_among b rest ≡ true → is_among b (ancestors k parent (some a)) ≡ true)
          → is_among b (ancestors (suc k) parent (some a)) ≡ true
      go true e h r = let w : i ≡ a = cc in subst (λ (n : ℕ). is_among b (ancestors (suc k) parent (some n)) ≡ true) w m
      go false e h r = among-longer b k (some a) (r h (beyond p b i rest e q m))

-- ---- the root

-- a is on the line of every joint
abbrev pub Common : Scene → List ℕ → ℕ → Type 0
Common s js a = (i : ℕ) → is_among i js ≡ true → is_among a (line_of s i) ≡ true

module _ (s : Scene) (j : ℕ) (js : List ℕ) where
  abbrev shared : ℕ → Bool
  shared a = every (λ i. is_among a (line_of s i)) js

  is_shared : (a : ℕ) → Common s (j ∷ js) a → shared a ≡ true
  is_shared a h = every_of (λ i. is_among a (line_of s i)) js (λ i m. h i (among-rest i j js m))

  first-shared : (a : ℕ) → common_root s (j ∷ js) ≡ some a → first_that shared (line_of s j) ≡ some a
  unfolding common_root
  first-shared a h = go (every (λ i. ltb i (node_count s)) (j ∷ js)) h
    where
      go : (c : Bool) → pick c (first_that shared (line_of s j)) none ≡ some a → first_that shared (line_of s j) ≡ some a
      go true h = h
      go false h = absurd (none-ne-some a h)

  pub root-common : (a : ℕ) → common_root s (j ∷ js) ≡ some a → Common s (j ∷ js) a
  root-common a h i m =
      let f = found shared (line_of s j) a (first-shared a h) in
      elim (among_cases i j js m) [
        | inl e ↦ subst (λ (n : ℕ). is_among a (line_of s n) ≡ true) e f.0
        | inr r ↦ of-every (λ n. is_among a (line_of s n)) js f.1 i r
      ]

  pub root-nearest : (a : ℕ) → common_root s (j ∷ js) ≡ some a → (b : ℕ) → Common s (j ∷ js) b → is_among b (line_of s a) ≡ true
  root-nearest a h b c = from_first (parent_of s) shared b a (is_shared b c) (suc (node_count s)) (some j) (first-shared a h) (c j (among_first j j js refl))

  pub no-root : ((i : ℕ) → is_among i (j ∷ js) ≡ true → i < node_count s) → common_root s (j ∷ js) ≡ none → (b : ℕ) → Common s (j ∷ js) b → ⊥
  unfolding common_root
  no-root r h b c =
      let e = every_of (λ i. ltb i (node_count s)) (j ∷ js) (λ i m. lt-ltb i (node_count s) (r i m)) in
      none_found shared b (is_shared b c) (line_of s j) ((λ k. pick (sym e k) (first_that shared (line_of s j)) none) ∙ h) (c j (among_first j j js refl))

pub lone-root : (s : Scene) (j : ℕ) → j < node_count s → common_root s (j ∷ []) ≡ some j
unfolding common_root every first_that ancestors
lone-root s j h = λ k. pick (lt-ltb j (node_count s) h k && true) (some j) none
