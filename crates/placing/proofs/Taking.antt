-- An entry that is taken: what is to come is one entry less. Assumes nothing.
use mathlib.Core.Path.{◌≡◌, refl, ap, ◌∙◌}
use mathlib.Core.Bool.{Bool, true, false}
use mathlib.Core.List.{List, [], ◌∷◌, ◌++◌}
use Prim.Native.Nat.{ℕ, zero, suc, ◌+◌}
use native.Mathlib.Omega.{arith}
use borrow.Author.Tests.{eqb-true, eq-eqb, ne_eqb}
use lib.Dec.{eqb}
use lib.ListN.{length, get_or, set, replicate, length-append, length-map, get_or-map}
use Rattle.model.specs.Lists.{pick}
use Rattle.model.specs.Scene.{Scene, Node, blank, node_count, children_at}
use Rattle.placing.specs.WalkRoom.{Item, listed_as, waiting, child_counts, Marks, State, marked, take_one, drained, Named}
use Rattle.placing.proofs.Stack.{listed-length, named-listed}
use Rattle.placing.proofs.Unplaced.{waiting-place, free-place}

abbrev pub placed : (ℕ → List ℕ) → Item → List Item → Marks → State
placed children e rest m = record { stack = listed_as (e.id + 3) (children e.id) ++ rest; marks = marked e m }

abbrev pub dropped : List Item → Marks → State
dropped rest m = record { stack = rest; marks = m }

module _ (children : ℕ → List ℕ) (e : Item) (rest : List Item) (m : Marks) where
  -- what holds where the node is placed, and where the entry is dropped, holds after the entry is taken
  pub by_cases : (P : State → Type 0) → (get_or m.places e.id 1 ≡ 0 → P (placed children e rest m)) → P (dropped rest m) → P (take_one children e rest m)
  unfolding take_one
  by_cases P f d = go (eqb (get_or m.places e.id 1) 0) refl
    where
      go : (b : Bool) → eqb (get_or m.places e.id 1) 0 ≡ b → P (pick b (placed children e rest m) (dropped rest m))
      go true h = f (eqb-true _ _ h)
      go false h = d

  pub is-placed : get_or m.places e.id 1 ≡ 0 → take_one children e rest m ≡ placed children e rest m
  unfolding take_one
  is-placed h = ap (λ (b : Bool). pick b (placed children e rest m) (dropped rest m)) (eq-eqb _ _ h)

  pub is-dropped : (get_or m.places e.id 1 ≡ 0 → ⊥) → take_one children e rest m ≡ dropped rest m
  unfolding take_one
  is-dropped h = ap (λ (b : Bool). pick b (placed children e rest m) (dropped rest m)) (ne_eqb _ _ h)

  pub drained-one : (k t : ℕ) → drained (suc k) children (e ∷ rest) m t ≡ drained k children (take_one children e rest m).stack (take_one children e rest m).marks (t + 1)
  unfolding drained
  drained-one k t = refl

pub drained-none : (k : ℕ) (children : ℕ → List ℕ) (m : Marks) (t : ℕ) → drained k children [] m t ≡ record { marks = m; taken = t }
unfolding drained
drained-none zero children m t = refl
drained-none (suc k) children m t = refl

pub count_at : (s : Scene) (i : ℕ) → get_or (child_counts s) i 0 ≡ length (children_at s i)
count_at s i = get_or-map (λ (n : Node). length n.children) s.nodes i blank

pub counts-length : (s : Scene) → length (child_counts s) ≡ node_count s
counts-length s = length-map s.nodes _

module _ (s : Scene) (e : Item) (rest : List Item) (m : Marks) (names : Named (e ∷ rest)) (nodes : node_count s ≡ length m.places) where
  abbrev after : State
  after = take_one (children_at s) e rest m

  pub one_less : length after.stack + waiting (child_counts s) after.marks.places ≡ length rest + waiting (child_counts s) m.places
  one_less = by_cases (children_at s) e rest m (λ (x : State). length x.stack + waiting (child_counts s) x.marks.places ≡ length rest + waiting (child_counts s) m.places) place refl
    where
      place : get_or m.places e.id 1 ≡ 0
          → length (listed_as (e.id + 3) (children_at s e.id) ++ rest) + waiting (child_counts s) (set m.places e.id e.code) ≡ length rest + waiting (child_counts s) m.places
      place z =
          omega (
            arith,
            length-append (listed_as (e.id + 3) (children_at s e.id)) rest,
            listed-length (e.id + 3) (children_at s e.id),
            count_at s e.id,
            waiting-place (child_counts s) m.places e.id e.code (counts-length s ∙ nodes) z names.0,
          )

  pub still-named : Named after.stack
  still-named = by_cases (children_at s) e rest m (λ (x : State). Named x.stack) (λ z. named-listed (e.id + 3) (children_at s e.id) rest (omega arith) names.1) names.1

  pub still-left : after.marks.placed + waiting (replicate (length m.places) 1) after.marks.places ≡ m.placed + waiting (replicate (length m.places) 1) m.places
  still-left = by_cases (children_at s) e rest m (λ (x : State). x.marks.placed + waiting (replicate (length m.places) 1) x.marks.places ≡ m.placed + waiting (replicate (length m.places) 1) m.places) place refl
    where
      place : get_or m.places e.id 1 ≡ 0
          → m.placed + 1 + waiting (replicate (length m.places) 1) (set m.places e.id e.code) ≡ m.placed + waiting (replicate (length m.places) 1) m.places
      place z = omega (arith, free-place (length m.places) m.places e.id e.code refl z names.0)
