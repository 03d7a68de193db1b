-- A node's line has exactly the nodes above it and itself: its bound never cuts it off. The root of joints is the
-- nearest node above all of them. Assumes nothing.
use mathlib.Core.Path.{◌≡◌, refl, sym, ap, subst}
use mathlib.Core.Logic.{◌⊎◌, inl, inr}
use mathlib.Core.Bool.{true, false, false≢true}
use mathlib.Core.List.Memᴰ
use mathlib.Core.List.{List, [], ◌∷◌, Memᴰ}
use mathlib.Core.Option.{Option, none, some}
use Prim.Native.Nat.{ℕ, zero, suc, ◌≤◌, ◌<◌}
use native.Mathlib.Omega.{arith}
use Rattle.model.specs.Lists.{any_of}
use Rattle.model.specs.Scene.{Scene, node_count}
use Rattle.model.specs.Parents.{parent_of}
use Rattle.model.specs.Skin.{ancestors, line_of, is_among, common_root}
use Rattle.model.proofs.Ancestors.{among_first, among-rest, among_cases, Common, root-common, root-nearest, no-root}
use Rattle.theorems.specs.Above.{AboveBy, itself, up, AboveAll, NearestAbove}
use Rattle.theorems.proofs.Heights.{height_of, height-low, height-falls}

-- ---- a line

module _ (s : Scene) (a : ℕ) where
  no_line : (k : ℕ) → is_among a (ancestors k (parent_of s) none) ≡ true → ⊥
  unfolding ancestors any_of
  no_line zero h = false≢true h
  no_line (suc k) h = false≢true h

  from-line : (k i : ℕ) → is_among a (ancestors k (parent_of s) (some i)) ≡ true → AboveBy s a i
  unfolding ancestors any_of
  from-line zero i h = absurd (false≢true h)
  from-line (suc k) i h = elim (among_cases a i (ancestors k (parent_of s) (parent_of s i)) h) [
    | inl e ↦ subst (AboveBy s a) (sym e) itself
    | inr m ↦ go (parent_of s i) refl m (from-line k)
  ]
    where
      go : (o : Option ℕ) → parent_of s i ≡ o → is_among a (ancestors k (parent_of s) o) ≡ true
          → ((p : ℕ) → is_among a (ancestors k (parent_of s) (some p)) ≡ true → AboveBy s a p) → AboveBy s a i
      go none e m r = absurd (no_line k m)
      go (some p) e m r = up e (r p m)

  to-line : (i k : ℕ) → height_of s i ≤ k → AboveBy s a i
      → is_among a (ancestors (suc k) (parent_of s) (some i)) ≡ true
  unfolding ancestors
  to-line i k h itself = among_first a a (ancestors k (parent_of s) (parent_of s a)) refl
  to-line i zero h (up {p = p} e r) = absurd (omega (arith, height-falls s i p e))
  to-line i (suc k) h (up {p = p} e r) =
      let m = to-line p k (omega (arith, height-falls s i p e)) r in
      among-rest a i (ancestors (suc k) (parent_of s) (parent_of s i))
      (subst (λ (o : Option ℕ). is_among a (ancestors (suc k) (parent_of s) o) ≡ true) (sym e) m)

  -- the nodes above i, and i: exactly those on its line
  pub on_line : (i : ℕ) → AboveBy s a i → is_among a (line_of s i) ≡ true
  on_line i h = to-line i (node_count s) (height-low s i) h

  pub of-line : (i : ℕ) → is_among a (line_of s i) ≡ true → AboveBy s a i
  of-line i h = from-line (suc (node_count s)) i h

-- no two nodes are above each other
higher : (s : Scene) (a i : ℕ) → AboveBy s a i → (a ≡ i) ⊎ (height_of s a < height_of s i)
higher s a i itself = inl refl
higher s a i (up {p = p} e r) = inr (elim (higher s a p r) [
  | inl q ↦ omega (arith, ap (height_of s) q, height-falls s i p e)
  | inr l ↦ omega (arith, height-falls s i p e)
])

pub above-each-other : (s : Scene) (a b : ℕ) → AboveBy s a b → AboveBy s b a → a ≡ b
above-each-other s a b h g = go (higher s a b h) (higher s b a g)
  where
    go : (a ≡ b) ⊎ (height_of s a < height_of s b) → (b ≡ a) ⊎ (height_of s b < height_of s a) → a ≡ b
    go (inl e) d = e
    go (inr l) (inl e) = sym e
    go (inr l) (inr m) = absurd (omega arith)

-- ---- the root

among-mem : (i : ℕ) (l : List ℕ) → Memᴰ i l → is_among i l ≡ true
among-mem i [] m = absurd (Memᴰ.not-nil m)
among-mem i (x ∷ l) m = elim (Memᴰ.cases_cons m) [
  | inl e ↦ among_first i x l (sym e)
  | inr m ↦ among-rest i x l (among-mem i l m)
]

mem-among : (i : ℕ) (l : List ℕ) → is_among i l ≡ true → Memᴰ i l
unfolding any_of
mem-among i [] h = absurd (false≢true h)
mem-among i (x ∷ l) h = elim (among_cases i x l h) [
  | inl e ↦ Memᴰ.head (sym e)
  | inr h ↦ Memᴰ.tail (mem-among i l h)
]

module _ (s : Scene) where
  common : (js : List ℕ) (b : ℕ) → AboveAll s b js → Common s js b
  common js b h i m = on_line s b i (h i (mem-among i js m))

  pub root-is-nearest : (js : List ℕ) (a : ℕ) → common_root s js ≡ some a → NearestAbove s js a
  unfolding common_root
  root-is-nearest [] a h = let z : ◌≡◌ {A = ℕ} 0 1 = cc in absurd (omega arith)
  root-is-nearest (j ∷ js) a h = record {
    above = λ i m. of-line s a i (root-common s j js a h i (among-mem i (j ∷ js) m));
    nearest = λ b c. of-line s b a (root-nearest s j js a h b (common (j ∷ js) b c));
  }

  module _ (j : ℕ) (js : List ℕ) (r : (i : ℕ) → Memᴰ i (j ∷ js) → i < node_count s) where
    -- joints that are nodes and have no root have no node above all of them
    pub no-root-above : common_root s (j ∷ js) ≡ none → (b : ℕ) → AboveAll s b (j ∷ js) → ⊥
    no-root-above h b c = no-root s j js (λ i m. r i (mem-among i (j ∷ js) m)) h b (common (j ∷ js) b c)

    pub nearest-is-root : (a : ℕ) → NearestAbove s (j ∷ js) a → common_root s (j ∷ js) ≡ some a
    nearest-is-root a n = go (common_root s (j ∷ js)) refl
      where
        go : (o : Option ℕ) → common_root s (j ∷ js) ≡ o → o ≡ some a
        go none e = absurd (no-root-above e a n.above)
        go (some c) e =
            let d = root-is-nearest (j ∷ js) c e in
            ap some (above-each-other s c a (n.nearest c d.above) (d.nearest a n.above))
