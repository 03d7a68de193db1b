-- Where the placing puts each node: once, after its parent, in range; how many entries it takes; its path and its world.
-- Assumes nothing.
use mathlib.Core.Path.{◌≡◌, refl, sym, ap, ◌∙◌, subst}
use mathlib.Core.Bool.{false}
use mathlib.Core.List.Memᴰ
use mathlib.Core.List.{List, [], ◌∷◌, Memᴰ}
use mathlib.Core.Option.{Option, none, some}
use mathlib.Core.Logic.{◌⊎◌, inl, inr}
use Prim.Native.Nat.{ℕ, zero, suc, ◌+◌, ◌<◌}
use native.Mathlib.Omega.{arith}
use lib.ListN.{length, get_or, set, replicate, length-set, length-replicate}
use lib.Seq.{get_or-set_same}
use Rattle.model.specs.Lists.{foldl, or_else}
use Rattle.model.specs.Matrix.{Matrix, identity, mul}
use Rattle.model.specs.Scene.{Scene, node_count, children_at}
use Rattle.model.specs.Placing.{Place, unplaced, root, below, Entry, is_free, free, trace, child_entries, start, order, places, taken_from, taken}
use Rattle.model.specs.Pose.{Pose}
use Rattle.model.specs.World.{local_at, above, place_one, worlds_from, worlds, world_at}
use Rattle.model.specs.Agree.{OnPath, itself, up}
use Rattle.model.proofs.Walking.{Stands, InTurn, in-turn, was-free-at-first, not-again, Apart, apart, After, after}
use Rattle.model.proofs.Counting.{counted}
use Rattle.model.proofs.Paths.{free-in-range, replicate-at, untouched, told, said}

pub placed-once : (s : Scene) → Apart (order s)
placed-once s = apart (start s) (order s) (in-turn s)

pub parent-first : (s : Scene) → After (start s) (order s)
parent-first s = after (start s) (order s) (in-turn s)

pub placed-in-range : (s : Scene) (e : Entry) → Memᴰ e (order s) → (e.node < node_count s) × (get_or (places s) e.node unplaced ≡ e.place)
placed-in-range s e m =
    let b = free-in-range (start s) e.node (was-free-at-first (start s) (order s) (in-turn s) e m) in
    (omega (arith, length-replicate (node_count s) unplaced), told (start s) (order s) (in-turn s) e m)

-- the roots and the child entries of placed nodes are as many as the entries that the walk takes
pub taken-is-counted : (s : Scene) → taken s ≡ length (trace (start s) s.roots (children_at s) (child_entries s))
unfolding taken order
taken-is-counted s = ap (λ (n : ℕ). taken_from n s.roots (children_at s) (order s)) (sym (length-replicate (node_count s) unplaced)) ∙ (counted s).0

-- the bound of roots and child entries suffices
pub more-fuel : (s : Scene) (k : ℕ) → trace (start s) s.roots (children_at s) (child_entries s + k) ≡ trace (start s) s.roots (children_at s) (child_entries s)
more-fuel s = (counted s).1

-- i and the nodes above it, by the table of places
pub data OnTable (ps : List Place) (i : ℕ) : ℕ → Type 0 where
  here : OnTable ps i i
  over : {a p : ℕ} → OnTable ps i a → get_or ps a unplaced ≡ below p → OnTable ps i p

pub to-table : (s : Scene) (i a : ℕ) → OnPath (order s) i a → OnTable (places s) i a
to-table s i a itself = here
to-table s i a (up {a = b} h m) = over (to-table s i b h) (placed-in-range s _ m).1

pub from-table : (s : Scene) (i a : ℕ) → OnTable (places s) i a → OnPath (order s) i a
from-table s i a here = itself
from-table s i a (over {a = b} h m) = up (from-table s i b h) (go (said (order s) (start s) b (below a) m))
  where
    go : (get_or (start s) b unplaced ≡ below a) ⊎ Memᴰ (record { node = b; place = below a }) (order s) → Memᴰ (record { node = b; place = below a }) (order s)
    go (inl g) = let z : ◌≡◌ {A = ℕ} 0 1 = cc (replicate-at (node_count s) b unplaced) in absurd (omega arith)
    go (inr m) = m

not-free-at : (ps : List Place) (p : ℕ) → is_free (get_or ps p unplaced) ≡ false → free ps p ≡ false
not-free-at [] p h = refl
not-free-at (q ∷ ps) zero h = h
not-free-at (q ∷ ps) (suc p) h = not-free-at ps p h

module _ (local : ℕ → Matrix) where
  world-kept : (es : List Entry) (ws : List (Option Matrix)) (i : ℕ) → ((e : Entry) → Memᴰ e es → e.node ≡ i → ⊥) → world_at (worlds_from local ws es) i ≡ world_at ws i
  world-kept es ws i = untouched (λ vs e. some (mul (above vs e.place) (local e.node))) es ws i none

  -- the world above an entry is what it was when the entry came
  above_kept : (ps : List Place) (es : List Entry) (ws : List (Option Matrix)) (q : Place) → InTurn ps es → Stands ps q → above ws q ≡ above (worlds_from local ws es) q
  above_kept ps es ws unplaced h g = absurd g
  above_kept ps es ws root h g = refl
  above_kept ps es ws (below p) h g =
      ap (λ (o : Option Matrix). or_else o identity) (sym (world-kept es ws p (not-again ps es h p (not-free-at ps p g))))

  world-at-entry : (ps : List Place) (es : List Entry) (ws : List (Option Matrix)) → InTurn ps es → length ws ≡ length ps → (d : Entry) → Memᴰ d es
      → world_at (worlds_from local ws es) d.node ≡ some (mul (above (worlds_from local ws es) d.place) (local d.node))
  unfolding foldl
  world-at-entry ps [] ws h n d m = absurd (Memᴰ.not-nil m)
  world-at-entry ps (e ∷ es) ws h n d m =
      go (Memᴰ.cases_cons m) (world-at-entry (set ps e.node e.place) es (place_one local ws e) h.2 (length-set ws e.node _ ∙ n ∙ sym (length-set ps e.node e.place)) d)
    where
      final : List (Option Matrix)
      final = worlds_from local (place_one local ws e) es

      Right : Entry → Type 0
      Right c = world_at final c.node ≡ some (mul (above final c.place) (local c.node))

      first : Right e
      first =
          let b = free-in-range ps e.node h.0 in
          world-kept es (place_one local ws e) e.node (apart ps (e ∷ es) h).0
          ∙ get_or-set_same ws e.node _ none (omega arith)
          ∙ (λ j. some (mul (above_kept ps (e ∷ es) ws e.place h h.1 j) (local e.node)))

      go : (d ≡ e) ⊎ Memᴰ d es → (Memᴰ d es → Right d) → Right d
      go (inl q) r = subst Right (sym q) first
      go (inr q) r = r q

module _ (ps : List Pose) (s : Scene) where
  -- the world of a placed node is its parent's world, or for a root the identity, times its local matrix
  pub world-of-placed : (e : Entry) → Memᴰ e (order s) → world_at (worlds ps s) e.node ≡ some (mul (above (worlds ps s) e.place) (local_at ps s e.node))
  unfolding worlds
  world-of-placed =
      world-at-entry (local_at ps s) (start s) (order s) (replicate (node_count s) none) (in-turn s) (length-replicate (node_count s) none ∙ sym (length-replicate (node_count s) unplaced))

  pub world-of-unplaced : (i : ℕ) → ((e : Entry) → Memᴰ e (order s) → e.node ≡ i → ⊥) → world_at (worlds ps s) i ≡ none
  unfolding worlds
  world-of-unplaced i h = world-kept (local_at ps s) (order s) (replicate (node_count s) none) i h ∙ replicate-at (node_count s) i none
