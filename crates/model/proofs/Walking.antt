-- The walk of the placing: one induction for its laws. Every entry of the order names a node that is free then, and a place that stands then.
-- Assumes nothing.
use mathlib.Core.Path.{◌≡◌, refl, sym, ap, ◌∙◌, subst}
use mathlib.Core.Bool.{Bool, true, false, true≢false}
use mathlib.Core.List.Memᴰ
use mathlib.Core.List.{List, [], ◌∷◌, ◌++◌, Memᴰ}
use mathlib.Core.Logic.{◌⊎◌, inl, inr}
use Prim.Native.Nat.{ℕ, zero, suc, ◌+◌}
use lib.ListN.{length, get_or, set}
use Rattle.model.specs.Lists.{pick}
use Rattle.model.specs.Scene.{Scene, children_at}
use Rattle.model.specs.Placing.{Place, unplaced, root, below, Entry, listed, is_free, free, Taken, walk, placed_of, trace, start, child_entries, order}
use Rattle.model.specs.Agree.{Each}

-- a place stands: a root's always, one below p once p is placed
abbrev pub Stands : List Place → Place → Type 0
Stands ps unplaced = ⊥
Stands ps root = Unit {0}
Stands ps (below p) = is_free (get_or ps p unplaced) ≡ false

abbrev pub Standing : List Place → List Entry → Type 0
Standing ps waiting = Each (λ (e : Entry). Stands ps e.place) waiting

pub not_free : (ps : List Place) (q : Place) → Stands ps q → is_free q ≡ false
not_free ps unplaced h = absurd h
not_free ps root h = refl
not_free ps (below p) h = refl

-- what stands goes on standing, and what is placed stands
still_placed : (ps : List Place) (x p : ℕ) (q : Place) → is_free q ≡ false → is_free (get_or ps p unplaced) ≡ false → is_free (get_or (set ps x q) p unplaced) ≡ false
still_placed [] x p q n h = h
still_placed (r ∷ ps) zero zero q n h = n
still_placed (r ∷ ps) zero (suc p) q n h = h
still_placed (r ∷ ps) (suc x) zero q n h = h
still_placed (r ∷ ps) (suc x) (suc p) q n h = still_placed ps x p q n h

still-stands : (ps : List Place) (x : ℕ) (q r : Place) → is_free q ≡ false → Stands ps r → Stands (set ps x q) r
still-stands ps x q unplaced n h = h
still-stands ps x q root n h = h
still-stands ps x q (below p) n h = still_placed ps x p q n h

now-placed : (ps : List Place) (x : ℕ) (q : Place) → is_free q ≡ false → free ps x ≡ true → is_free (get_or (set ps x q) x unplaced) ≡ false
now-placed [] x q n f = absurd (true≢false (sym f))
now-placed (r ∷ ps) zero q n f = n
now-placed (r ∷ ps) (suc x) q n f = now-placed ps x q n f

module _ (ps : List Place) (e : Entry) (rest : List Entry) (f : free ps e.node ≡ true) (h : Standing ps (e ∷ rest)) where
  standing-rest : (waiting : List Entry) → Standing ps waiting → Standing (set ps e.node e.place) waiting
  standing-rest [] g = tt
  standing-rest (d ∷ waiting) g = (still-stands ps e.node e.place d.place (not_free ps e.place h.0) g.0, standing-rest waiting g.1)

  standing-next : (l : List ℕ) → Standing (set ps e.node e.place) (listed (below e.node) l ++ rest)
  unfolding listed
  standing-next [] = standing-rest rest h.1
  standing-next (x ∷ l) = (now-placed ps e.node e.place (not_free ps e.place h.0) f, standing-next l)

-- What holds where the walk stops, and goes on from what a taken entry leaves, holds of every walk.
module _ (children : ℕ → List ℕ) (P : ℕ → List Entry → List Place → List Taken → Type 0)
    (stop : (waiting : List Entry) (ps : List Place) → P 0 waiting ps [])
    (empty : (k : ℕ) (ps : List Place) → P (suc k) [] ps [])
    (place : (k : ℕ) (e : Entry) (rest : List Entry) (ps : List Place) (t : List Taken) → free ps e.node ≡ true → Stands ps e.place
    → P k (listed (below e.node) (children e.node) ++ rest) (set ps e.node e.place) t → P (suc k) (e ∷ rest) ps (record { entry = e; placed = true } ∷ t))
    (drop : (k : ℕ) (e : Entry) (rest : List Entry) (ps : List Place) (t : List Taken) → free ps e.node ≡ false
    → P k rest ps t → P (suc k) (e ∷ rest) ps (record { entry = e; placed = false } ∷ t)) where
  pub by-walk : (k : ℕ) (waiting : List Entry) (ps : List Place) → Standing ps waiting → P k waiting ps (walk k children waiting ps)
  unfolding walk
  by-walk zero waiting ps h = stop waiting ps
  by-walk (suc k) [] ps h = empty k ps
  by-walk (suc k) (e ∷ rest) ps h =
      let b = free ps e.node in
      go b refl (by-walk k (next b) (table b) (ready b refl))
    where
      next : Bool → List Entry
      next b = pick b (listed (below e.node) (children e.node) ++ rest) rest

      table : Bool → List Place
      table b = pick b (set ps e.node e.place) ps

      ready : (b : Bool) → free ps e.node ≡ b → Standing (table b) (next b)
      ready true f = standing-next ps e rest f h (children e.node)
      ready false f = h.1

      go : (b : Bool) → free ps e.node ≡ b → P k (next b) (table b) (walk k children (next b) (table b))
          → P (suc k) (e ∷ rest) ps (record { entry = e; placed = b } ∷ walk k children (next b) (table b))
      go true f r = place k e rest ps _ f h.0 r
      go false f r = drop k e rest ps _ f r

-- What holds of a walk from the roots, and where there are no nodes, holds of what is taken from a listing.
pub by-trace : (P : List Place → List Taken → Type 0) (roots : List ℕ) (children : ℕ → List ℕ) (total : ℕ) → P [] []
    → ((p : Place) (ps : List Place) → Standing (p ∷ ps) (listed root roots) → P (p ∷ ps) (walk (length roots + total) children (listed root roots) (p ∷ ps)))
    → (ps : List Place) → P ps (trace ps roots children total)
unfolding trace listed
by-trace P roots children total h g [] = h
by-trace P roots children total h g (p ∷ ps) = g p ps (stand roots)
  where
    stand : (l : List ℕ) → Standing (p ∷ ps) (listed root l)
    stand [] = tt
    stand (x ∷ l) = (tt, stand l)

-- every entry, when it comes, names a free node and a place that stands
abbrev pub InTurn : List Place → List Entry → Type 0
InTurn ps [] = Unit {0}
InTurn ps (e ∷ es) = (free ps e.node ≡ true) × Stands ps e.place × InTurn (set ps e.node e.place) es

pub in-turn : (s : Scene) → InTurn (start s) (order s)
unfolding order placed_of
in-turn s =
    by-trace (λ ps t. InTurn ps (placed_of t)) s.roots (children_at s) (child_entries s) tt
    (λ p ps. by-walk (children_at s) (λ k waiting ps t. InTurn ps (placed_of t)) (λ waiting ps. tt) (λ k ps. tt) (λ k e rest ps t f h r. (f, h, r)) (λ k e rest ps t f r. r)
    (length s.roots + child_entries s) (listed root s.roots) (p ∷ ps))
    (start s)

-- a node that is free after a placing was free before it, and is not the one that was placed
was_free : (ps : List Place) (x i : ℕ) (q : Place) → is_free q ≡ false → free (set ps x q) i ≡ true → free ps i ≡ true
was_free [] x i q n h = h
was_free (r ∷ ps) zero zero q n h = absurd (true≢false (sym h ∙ n))
was_free (r ∷ ps) zero (suc i) q n h = h
was_free (r ∷ ps) (suc x) zero q n h = h
was_free (r ∷ ps) (suc x) (suc i) q n h = was_free ps x i q n h

pub now-taken : (ps : List Place) (x : ℕ) (q : Place) → is_free q ≡ false → free (set ps x q) x ≡ false
now-taken [] x q n = refl
now-taken (r ∷ ps) zero q n = n
now-taken (r ∷ ps) (suc x) q n = now-taken ps x q n

pub was-free-at-first : (ps : List Place) (es : List Entry) → InTurn ps es → (d : Entry) → Memᴰ d es → free ps d.node ≡ true
was-free-at-first ps [] h d m = absurd (Memᴰ.not-nil m)
was-free-at-first ps (e ∷ es) h d m = go (Memᴰ.cases_cons m) (was-free-at-first (set ps e.node e.place) es h.2 d)
  where
    go : (d ≡ e) ⊎ Memᴰ d es → (Memᴰ d es → free (set ps e.node e.place) d.node ≡ true) → free ps d.node ≡ true
    go (inl q) r = ap (λ (c : Entry). free ps c.node) q ∙ h.0
    go (inr q) r = was_free ps e.node d.node e.place (not_free ps e.place h.1) (r q)

-- a node that is placed is not placed again
pub not-again : (ps : List Place) (es : List Entry) → InTurn ps es → (i : ℕ) → free ps i ≡ false → (d : Entry) → Memᴰ d es → d.node ≡ i → ⊥
not-again ps es h i f d m q = true≢false (sym (was-free-at-first ps es h d m) ∙ ap (λ (j : ℕ). free ps j) q ∙ f)

-- no node stands twice
abbrev pub Apart : List Entry → Type 0
Apart [] = Unit {0}
Apart (e ∷ es) = ((d : Entry) → Memᴰ d es → d.node ≡ e.node → ⊥) × Apart es

pub apart : (ps : List Place) (es : List Entry) → InTurn ps es → Apart es
apart ps [] h = tt
apart ps (e ∷ es) h =
    let qs = set ps e.node e.place in
    (not-again qs es h.2 e.node (now-taken ps e.node e.place (not_free ps e.place h.1)), apart qs es h.2)

-- each entry's parent is placed when the entry is
abbrev pub After : List Place → List Entry → Type 0
After ps [] = Unit {0}
After ps (e ∷ es) = ((p : ℕ) → e.place ≡ below p → is_free (get_or ps p unplaced) ≡ false) × After (set ps e.node e.place) es

pub after : (ps : List Place) (es : List Entry) → InTurn ps es → After ps es
after ps [] h = tt
after ps (e ∷ es) h = (λ p q. subst (Stands ps) q h.1, after (set ps e.node e.place) es h.2)
