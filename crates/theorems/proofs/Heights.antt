-- The parents of nodes by the order of marking: a parent is marked before its child, so that a height falls from child
-- to parent. No height is above the count of nodes, and a parent is one of them. Assumes nothing.
use mathlib.Core.Path.{◌≡◌, refl, sym, ap, ◌∙◌, subst}
use mathlib.Core.Logic.{◌⊎◌, inl, inr}
use mathlib.Core.Bool.{Bool, true, false, true≢false}
use mathlib.Core.List.Memᴰ
use mathlib.Core.List.{List, [], ◌∷◌, Memᴰ}
use mathlib.Core.Option.{some}
use Prim.Native.Nat.{ℕ, zero, suc, ◌+◌, ◌-◌, ◌≤◌, ◌<◌}
use native.Mathlib.Omega.{arith}
use borrow.Author.Tests.{ltb-true, eq-eqb, ne_eqb}
use lib.Dec.{eqb, ltb}
use lib.ListN.{length, get_or, set, replicate, length-set, length-replicate}
use Rattle.model.specs.Lists.{pick}
use Rattle.model.specs.Scene.{Scene, node_count, children_at}
use Rattle.model.specs.Placing.{Place, unplaced, root, below, is_free, free}
use Rattle.model.specs.Parents.{Marking, mark_roots, mark_one, mark_all, take_id, explore, marks_of, parent_in, parent_of}
use Rattle.model.proofs.Walking.{now-taken}
use Rattle.model.proofs.Paths.{replicate-at, set_cases}

-- ---- how many nodes are not marked

unfoldable pub unmarked : List Place → ℕ
unmarked [] = 0
unmarked (p ∷ ps) = pick (is_free p) 1 0 + unmarked ps

pub unmarked-fewer : (ps : List Place) (i : ℕ) (q : Place) → is_free q ≡ false → free ps i ≡ true
    → suc (unmarked (set ps i q)) ≡ unmarked ps
unfolding unmarked
unmarked-fewer [] i q n f = absurd (true≢false (sym f))
unmarked-fewer (p ∷ ps) zero q n f =
    let a : ◌≡◌ {A = ℕ} (pick (is_free q) 1 0) 0 = ap (λ (b : Bool). pick b 1 0) n in
    let b : ◌≡◌ {A = ℕ} (pick (is_free p) 1 0) 1 = ap (λ (b : Bool). pick b 1 0) f in
    omega arith
unmarked-fewer (p ∷ ps) (suc i) q n f = omega (arith, unmarked-fewer ps i q n f)

pub unmarked_most : (ps : List Place) → unmarked ps ≤ length ps
unfolding unmarked
unmarked_most [] = omega arith
unmarked_most (unplaced ∷ ps) = omega (arith, unmarked_most ps)
unmarked_most (root ∷ ps) = omega (arith, unmarked_most ps)
unmarked_most (below p ∷ ps) = omega (arith, unmarked_most ps)

-- ---- marks that stay

still_marked : (ps : List Place) (x i : ℕ) (q : Place) → is_free q ≡ false → free ps i ≡ false
    → free (set ps x q) i ≡ false
still_marked [] x i q n h = h
still_marked (p ∷ ps) zero zero q n h = n
still_marked (p ∷ ps) zero (suc i) q n h = h
still_marked (p ∷ ps) (suc x) zero q n h = h
still_marked (p ∷ ps) (suc x) (suc i) q n h = still_marked ps x i q n h

marked : (ps : List Place) (i p : ℕ) → get_or ps i unplaced ≡ below p → free ps i ≡ false
marked [] i p h = refl
marked (q ∷ ps) zero p h = ap is_free h
marked (q ∷ ps) (suc i) p h = marked ps i p h

-- ---- heights

-- of n nodes; ids that wait are marked
record Ranked (n : ℕ) (waiting : List ℕ) (marks : List Place) : Type 0 where
  height : ℕ → ℕ
  count : length marks ≡ n
  low : (i : ℕ) → height i + unmarked marks ≤ n
  falls : (i p : ℕ) → get_or marks i unplaced ≡ below p → height p < height i
  seen : (i p : ℕ) → get_or marks i unplaced ≡ below p → (p < n) × (free marks p ≡ false)
  waits : (x : ℕ) → Memᴰ x waiting → free marks x ≡ false

fewer-wait : (n : ℕ) (waiting rest : List ℕ) (marks : List Place) → Ranked n waiting marks
    → ((x : ℕ) → Memᴰ x rest → Memᴰ x waiting) → Ranked n rest marks
fewer-wait n waiting rest marks r h = record {
  height = r.height;
  count = r.count;
  low = r.low;
  falls = r.falls;
  seen = r.seen;
  waits = λ x m. r.waits x (h x m);
}

-- p, which is marked, lists x, which is not
module _ (n p x : ℕ) (waiting : List ℕ) (marks : List Place) (r : Ranked n waiting marks)
    (b : p < n) (s : free marks p ≡ false) (f : free marks x ≡ true) where
  abbrev next : List Place
  next = set marks x (below p)

  abbrev heights : ℕ → ℕ
  heights i = pick (eqb i x) (n - unmarked next) (r.height i)

  at_new : heights x ≡ n - unmarked next
  at_new = ap (λ (t : Bool). pick t (n - unmarked next) (r.height x)) (eq-eqb x x refl)

  at_old : (i : ℕ) → free marks i ≡ false → heights i ≡ r.height i
  at_old i h =
      let d : i ≡ x → ⊥ = λ e. true≢false (sym f ∙ ap (free marks) (sym e) ∙ h) in
      ap (λ (t : Bool). pick t (n - unmarked next) (r.height i)) (ne_eqb i x d)

  fewer : suc (unmarked next) ≡ unmarked marks
  fewer = unmarked-fewer marks x (below p) refl f

  new-low : (i : ℕ) → heights i + unmarked next ≤ n
  new-low i = go (eqb i x)
    where
      go : (t : Bool) → pick t (n - unmarked next) (r.height i) + unmarked next ≤ n
      go true = omega (arith, unmarked_most next, length-set marks x (below p), r.count)
      go false = omega (arith, r.low i, fewer)

  new-falls : (i q : ℕ) → get_or next i unplaced ≡ below q → heights q < heights i
  new-falls i q h = go (set_cases marks x i (below p) (below q) unplaced h)
    where
      go : (get_or marks i unplaced ≡ below q) ⊎ ((i ≡ x) × (below q ≡ below p)) → heights q < heights i
      go (inl g) = omega (arith, at_old i (marked marks i q g), at_old q (r.seen i q g).1, r.falls i q g)
      go (inr g) =
          let e : q ≡ p = cc in
          omega (arith, ap heights g.0, ap heights e, at_new, at_old p s, r.low p, fewer)

  new-seen : (i q : ℕ) → get_or next i unplaced ≡ below q → (q < n) × (free next q ≡ false)
  new-seen i q h = go (set_cases marks x i (below p) (below q) unplaced h)
    where
      go : (get_or marks i unplaced ≡ below q) ⊎ ((i ≡ x) × (below q ≡ below p)) → (q < n) × (free next q ≡ false)
      go (inl g) = ((r.seen i q g).0, still_marked marks x q (below p) refl (r.seen i q g).1)
      go (inr g) =
          let e : p ≡ q = cc in
          subst (λ (k : ℕ). (k < n) × (free next k ≡ false)) e (b, still_marked marks x p (below p) refl s)

  new-waits : (y : ℕ) → Memᴰ y (x ∷ waiting) → free next y ≡ false
  new-waits y m = elim (Memᴰ.cases_cons m) [
    | inl e ↦ ap (free next) e ∙ now-taken marks x (below p) refl
    | inr m ↦ still_marked marks x y (below p) refl (r.waits y m)
  ]

  mark-new : Ranked n (x ∷ waiting) next
  mark-new = record {
    height = heights;
    count = length-set marks x (below p) ∙ r.count;
    low = new-low;
    falls = new-falls;
    seen = new-seen;
    waits = new-waits;
  }

-- ---- the walk

-- p, which is taken, stays marked
abbrev Taking : ℕ → ℕ → Marking → Type 0
Taking n p m = Ranked n m.waiting m.marks × (free m.marks p ≡ false)

module _ (n p : ℕ) (b : p < n) where
  mark-one : (x : ℕ) (m : Marking) → Taking n p m → Taking n p (mark_one p x m)
  unfolding mark_one
  mark-one x m h = go (free m.marks x) refl
    where
      go : (t : Bool) → free m.marks x ≡ t
          → Taking n p (pick t (record { waiting = x ∷ m.waiting; marks = set m.marks x (below p) }) m)
      go true f =
          (mark-new n p x m.waiting m.marks h.0 b h.1 f, still_marked m.marks x p (below p) refl h.1)
      go false f = h

  mark-all : (l : List ℕ) (m : Marking) → Taking n p m → Taking n p (mark_all p l m)
  unfolding mark_all
  mark-all [] m h = h
  mark-all (x ∷ l) m h = mark-one x (mark_all p l m) (mark-all l m h)

module _ (n : ℕ) (children : ℕ → List ℕ) where
  take-one : (x : ℕ) (rest : List ℕ) (marks : List Place) → Ranked n (x ∷ rest) marks
      → (let m = take_id children x (record { waiting = rest; marks = marks }) in Ranked n m.waiting m.marks)
  unfolding take_id
  take-one x rest marks r = go (ltb x (length marks)) refl
    where
      m : Marking
      m = record { waiting = rest; marks = marks }

      left : Ranked n rest marks
      left = fewer-wait n (x ∷ rest) rest marks r (λ y e. Memᴰ.tail e)

      go : (t : Bool) → ltb x (length marks) ≡ t
          → Ranked n (pick t (mark_all x (children x) m) m).waiting (pick t (mark_all x (children x) m) m).marks
      go true e =
          let b : x < n = omega (arith, ltb-true x (length marks) e, r.count) in
          (mark-all n x b (children x) m (left, r.waits x (Memᴰ.head refl))).0
      go false e = left

  explored : (k : ℕ) (waiting : List ℕ) (marks : List Place) → Ranked n waiting marks
      → Ranked n [] (explore k children waiting marks)
  unfolding explore
  explored zero waiting marks r = fewer-wait n waiting [] marks r (λ y m. absurd (Memᴰ.not-nil m))
  explored (suc k) [] marks r = r
  explored (suc k) (x ∷ rest) marks r = explored k _ _ (take-one x rest marks r)

-- ---- the roots

pub roots-count : (roots : List ℕ) (marks : List Place) → length (mark_roots roots marks) ≡ length marks
unfolding mark_roots
roots-count [] marks = refl
roots-count (r ∷ rs) marks = roots-count rs (set marks r root) ∙ length-set marks r root

roots-stay : (roots : List ℕ) (marks : List Place) (i : ℕ) → free marks i ≡ false
    → free (mark_roots roots marks) i ≡ false
unfolding mark_roots
roots-stay [] marks i h = h
roots-stay (r ∷ rs) marks i h = roots-stay rs (set marks r root) i (still_marked marks r i root refl h)

roots-marked : (roots : List ℕ) (marks : List Place) (x : ℕ) → Memᴰ x roots
    → free (mark_roots roots marks) x ≡ false
unfolding mark_roots
roots-marked [] marks x m = absurd (Memᴰ.not-nil m)
roots-marked (r ∷ rs) marks x m = elim (Memᴰ.cases_cons m) [
  | inl e ↦ roots-stay rs (set marks r root) x (ap (free (set marks r root)) e ∙ now-taken marks r root refl)
  | inr m ↦ roots-marked rs (set marks r root) x m
]

-- where nothing is marked below another, marking roots leaves it so
no-below : (roots : List ℕ) (marks : List Place) → ((i p : ℕ) → get_or marks i unplaced ≡ below p → ⊥)
    → (i p : ℕ) → get_or (mark_roots roots marks) i unplaced ≡ below p → ⊥
unfolding mark_roots
no-below [] marks h = h
no-below (r ∷ rs) marks h =
    no-below rs (set marks r root) (λ i p g. go i p (set_cases marks r i root (below p) unplaced g))
  where
    go : (i p : ℕ) → (get_or marks i unplaced ≡ below p) ⊎ ((i ≡ r) × (below p ≡ root)) → ⊥
    go i p (inl g) = h i p g
    go i p (inr g) = let z : ◌≡◌ {A = ℕ} 0 1 = cc in omega arith

rooted : (n : ℕ) (roots : List ℕ) → Ranked n roots (mark_roots roots (replicate n unplaced))
rooted n roots = record {
  height = λ i. 0;
  count = count;
  low = λ i. omega (arith, unmarked_most (mark_roots roots bare), count);
  falls = λ i p g. absurd (none_below i p g);
  seen = λ i p g. absurd (none_below i p g);
  waits = roots-marked roots bare;
}
  where
    bare : List Place
    bare = replicate n unplaced

    count : length (mark_roots roots bare) ≡ n
    count = roots-count roots bare ∙ length-replicate n unplaced

    none_below : (i p : ℕ) → get_or (mark_roots roots bare) i unplaced ≡ below p → ⊥
    none_below =
        no-below roots bare (λ i p g. let z : ◌≡◌ {A = ℕ} 0 1 = cc (replicate-at n i unplaced) in omega arith)

ranked : (s : Scene) → Ranked (node_count s) [] (marks_of s)
unfolding marks_of
ranked s =
    explored (node_count s) (children_at s) (length s.roots + node_count s) s.roots _
    (rooted (node_count s) s.roots)

-- ---- a node and its parent

parent-below : (q : Place) (p : ℕ) → parent_in q ≡ some p → q ≡ below p
parent-below unplaced p h = let z : ◌≡◌ {A = ℕ} 0 1 = cc in absurd (omega arith)
parent-below root p h = let z : ◌≡◌ {A = ℕ} 0 1 = cc in absurd (omega arith)
parent-below (below r) p h = let e : r ≡ p = cc in ap below e

pub height_of : Scene → ℕ → ℕ
height_of s = (ranked s).height

module _ (s : Scene) where
  pub height-low : (i : ℕ) → height_of s i ≤ node_count s
  unfolding height_of
  height-low i = omega (arith, (ranked s).low i)

  pub height-falls : (i p : ℕ) → parent_of s i ≡ some p → height_of s p < height_of s i
  unfolding height_of
  height-falls i p h = (ranked s).falls i p (parent-below (get_or (marks_of s) i unplaced) p h)

  -- a parent is a node of the scene
  pub parent-in-range : (i p : ℕ) → parent_of s i ≡ some p → p < node_count s
  parent-in-range i p h = ((ranked s).seen i p (parent-below (get_or (marks_of s) i unplaced) p h)).0
