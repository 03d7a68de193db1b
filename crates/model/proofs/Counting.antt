-- The entries that a walk takes: they are the roots and the child entries of placed nodes, and a larger bound changes nothing.
-- Assumes nothing.
use mathlib.Core.Path.{◌≡◌, refl, sym, ap, ◌∙◌}
use mathlib.Core.Bool.{Bool, true, false, true≢false}
use mathlib.Core.List.{List, [], ◌∷◌, ◌++◌, map}
use Prim.Native.Nat.{ℕ, zero, suc, ◌+◌, ◌≤◌}
use native.Mathlib.Nat.{le_of_suc-le-suc}
use native.Mathlib.Omega.{arith}
use lib.ListN.{length, get_or, set, replicate, length-set, length-append, length-replicate, length-map, get_or-map}
use Rattle.model.specs.Lists.{sum_of, pick}
use Rattle.model.specs.Scene.{Scene, Node, blank, children_at}
use Rattle.model.specs.Placing.{Place, unplaced, root, below, Entry, listed, is_free, free, Taken, walk, placed_of, trace, child_entries, start, taken_from}
use Rattle.model.proofs.Walking.{Stands, not_free, by-walk, by-trace}

-- the child entries of the nodes that are not placed, from the lengths of all child lists
unfoldable unlisted : List ℕ → List Place → ℕ
unlisted [] ps = 0
unlisted (c ∷ cs) [] = 0
unlisted (c ∷ cs) (p ∷ ps) = pick (is_free p) c 0 + unlisted cs ps

unlisted-place : (cs : List ℕ) (ps : List Place) (i : ℕ) (q : Place) → length cs ≡ length ps → free ps i ≡ true → is_free q ≡ false
    → unlisted cs (set ps i q) + get_or cs i 0 ≡ unlisted cs ps
unfolding unlisted
unlisted-place [] [] i q n f g = absurd (true≢false (sym f))
unlisted-place [] (p ∷ ps) i q n f g = absurd (omega arith)
unlisted-place (c ∷ cs) [] i q n f g = absurd (omega arith)
unlisted-place (c ∷ cs) (p ∷ ps) zero q n f g =
    let a : pick (is_free q) c 0 ≡ 0 = ap (λ (b : Bool). pick b c 0) g in
    let b : pick (is_free p) c 0 ≡ c = ap (λ (b : Bool). pick b c 0) f in
    omega arith
unlisted-place (c ∷ cs) (p ∷ ps) (suc i) q n f g = omega (arith, unlisted-place cs ps i q (omega arith) f g)

unlisted-start : (ns : List Node) → unlisted (map (λ (n : Node). length n.children) ns) (replicate (length ns) unplaced) ≡ sum_of (λ (n : Node). length n.children) ns
unfolding unlisted sum_of
unlisted-start [] = refl
unlisted-start (n ∷ ns) = ap (λ (k : ℕ). length n.children + k) (unlisted-start ns)

listed-length : (q : Place) (l : List ℕ) → length (listed q l) ≡ length l
unfolding listed
listed-length q [] = refl
listed-length q (x ∷ l) = ap suc (listed-length q l)

module _ (children : ℕ → List ℕ) where
  next-length : (e : Entry) (rest : List Entry) → length (listed (below e.node) (children e.node) ++ rest) ≡ length (children e.node) + length rest
  next-length e rest = omega (arith, length-append (listed (below e.node) (children e.node)) rest, listed-length (below e.node) (children e.node))

  walk-empty : (m : ℕ) (waiting : List Entry) (ps : List Place) → length waiting ≡ 0 → walk m children waiting ps ≡ []
  unfolding walk
  walk-empty zero waiting ps z = refl
  walk-empty (suc m) [] ps z = refl
  walk-empty (suc m) (e ∷ waiting) ps z = absurd (omega arith)

  walk-next : (k m : ℕ) (e : Entry) (rest : List Entry) (ps : List Place) (t : List Taken) (b : Bool) → free ps e.node ≡ b
      → ((m : ℕ) → k ≤ m → walk m children (pick b (listed (below e.node) (children e.node) ++ rest) rest) (pick b (set ps e.node e.place) ps) ≡ t)
      → suc k ≤ m → walk m children (e ∷ rest) ps ≡ record { entry = e; placed = b } ∷ t
  unfolding walk
  walk-next k zero e rest ps t b f w l = absurd (omega arith)
  walk-next k (suc m) e rest ps t b f w l =
      (λ j. record { entry = e; placed = f j } ∷ walk m children (pick (f j) (listed (below e.node) (children e.node) ++ rest) rest) (pick (f j) (set ps e.node e.place) ps))
      ∙ ap {B = List Taken} (λ r. record { entry = e; placed = b } ∷ r) (w m (le_of_suc-le-suc l))

  module _ (cs : List ℕ) (counts : (i : ℕ) → get_or cs i 0 ≡ length (children i)) where
    -- what a walk takes, if the bound is large enough, and that no larger bound takes more
    Counted : ℕ → List Entry → List Place → List Taken → Type 0
    Counted k waiting ps t =
        length cs ≡ length ps → length waiting + unlisted cs ps ≤ k
        → (length t ≡ length waiting + sum_of (λ (e : Entry). length (children e.node)) (placed_of t)) × ((m : ℕ) → k ≤ m → walk m children waiting ps ≡ t)

    counted-place : (k : ℕ) (e : Entry) (rest : List Entry) (ps : List Place) (t : List Taken) → free ps e.node ≡ true → Stands ps e.place
        → Counted k (listed (below e.node) (children e.node) ++ rest) (set ps e.node e.place) t → Counted (suc k) (e ∷ rest) ps (record { entry = e; placed = true } ∷ t)
    unfolding Counted placed_of sum_of
    counted-place k e rest ps t f g h c b =
        let n = next-length e rest in
        let r = h (c ∙ sym (length-set ps e.node e.place)) (omega (arith, unlisted-place cs ps e.node e.place c f (not_free ps e.place g), counts e.node)) in
        (omega (arith, r.0), λ m. walk-next k m e rest ps t true f r.1)

    counted-drop : (k : ℕ) (e : Entry) (rest : List Entry) (ps : List Place) (t : List Taken) → free ps e.node ≡ false
        → Counted k rest ps t → Counted (suc k) (e ∷ rest) ps (record { entry = e; placed = false } ∷ t)
    unfolding Counted placed_of
    counted-drop k e rest ps t f h c b =
        let r = h c (omega arith) in
        (omega (arith, r.0), λ m. walk-next k m e rest ps t false f r.1)

    counted_stop : (waiting : List Entry) (ps : List Place) → Counted 0 waiting ps []
    unfolding Counted placed_of sum_of
    counted_stop waiting ps c b = (omega arith, λ m l. walk-empty m waiting ps (omega arith))

    counted-empty : (k : ℕ) (ps : List Place) → Counted (suc k) [] ps []
    unfolding Counted placed_of sum_of
    counted-empty k ps c b = (refl, λ m l. walk-empty m [] ps refl)

    FromRoots : List ℕ → ℕ → List Place → List Taken → Type 0
    FromRoots roots total ps t =
        length cs ≡ length ps → unlisted cs ps ≡ total
        → (taken_from (length ps) roots children (placed_of t) ≡ length t) × ((k : ℕ) → trace ps roots children (total + k) ≡ t)

    from-roots : (roots : List ℕ) (total : ℕ) (ps : List Place) → FromRoots roots total ps (trace ps roots children total)
    unfolding FromRoots Counted trace
    from-roots roots total =
        by-trace (FromRoots roots total) roots children total (λ c w. (refl, λ k. refl))
        (λ p ps h c w.
        let r = by-walk children Counted counted_stop counted-empty counted-place counted-drop (length roots + total) (listed root roots) (p ∷ ps) h c (omega (arith, listed-length root roots)) in
        (omega (arith, r.0, listed-length root roots), λ k. r.1 (length roots + (total + k)) (omega arith)))

-- the formula counts what is taken, and a larger bound takes the same
pub counted : (s : Scene)
    → (taken_from (length (start s)) s.roots (children_at s) (placed_of (trace (start s) s.roots (children_at s) (child_entries s))) ≡ length (trace (start s) s.roots (children_at s) (child_entries s)))
    × ((k : ℕ) → trace (start s) s.roots (children_at s) (child_entries s + k) ≡ trace (start s) s.roots (children_at s) (child_entries s))
unfolding FromRoots
counted s =
    from-roots (children_at s) (map (λ (n : Node). length n.children) s.nodes) (λ i. get_or-map (λ (n : Node). length n.children) s.nodes i blank) s.roots (child_entries s) (start s)
    (length-map s.nodes _ ∙ sym (length-replicate (length s.nodes) unplaced)) (unlisted-start s.nodes)
