-- What the loop of `placing::drain` keeps to, and that a step keeps it. Assumes nothing.
use mathlib.Core.Path.{◌≡◌, refl, sym, ap, ◌∙◌, subst}
use mathlib.Core.List.{List, [], ◌∷◌, map, append-nil}
use Prim.Native.Nat.{ℕ, suc, ◌+◌, ◌-◌, ◌*◌, ◌≤◌, ◌<◌}
use native.Mathlib.Omega.{arith}
use lib.ListN.{length, replicate, length-replicate}
use Rattle.borrowed.specs.Slices.{Change}
use Rattle.model.specs.Lists.{sum_of}
use Rattle.model.specs.Scene.{Scene, Node, node_count, children_at}
use Rattle.placing.specs.Walk.{entries_of}
use Rattle.placing.specs.WalkRoom.{Item, listed_as, item_at, stack_of, waiting, child_counts, pending, Marks, State, take_one, drained, Named, Ready, Started, Stepped}
use Rattle.placing.proofs.Stack.{stack-length, stack_top, named-listed}
use Rattle.placing.proofs.Unplaced.{free_all}
use Rattle.placing.proofs.Taking.{drained-one, drained-none, one_less, still-named, still-left}

abbrev pub marks : List ℕ → List ℕ → ℕ → Marks
marks places order placed = record { places = places; order = order; placed = placed }

-- the run from where it stands ends as the run from the start does
pub record Going (s : Scene) (walk₀ : List ℕ) (top₀ : ℕ) (m₀ : Marks) (walk : List ℕ) (top : ℕ) (m : Marks) (taken : ℕ) : Type 0 where
  pub ready : Ready s walk m.places m.order top m.placed
  pub named : Named (stack_of walk top)
  pub turns : taken + pending s top m.places ≡ pending s top₀ m₀.places
  pub goes : drained (pending s top m.places) (children_at s) (stack_of walk top) m taken ≡ drained (pending s top₀ m₀.places) (children_at s) (stack_of walk₀ top₀) m₀ 0

-- no node is placed: all child entries are to come
all-to-come : (ns : List Node) → sum_of (λ (n : Node). length n.children) ns ≡ waiting (map (λ (n : Node). length n.children) ns) (replicate (length ns) 0)
unfolding sum_of waiting
all-to-come [] = refl
all-to-come (n ∷ ns) = ap (λ (k : ℕ). length n.children + k) (all-to-come ns)

module _ (s : Scene) (codes room : Change (List ℕ)) (top : ℕ) (S : Started s codes room top)
    (nodes : node_count s ≡ length codes.from) where
  pub bound : entries_of s ≡ pending s top codes.to
  bound =
      omega (
        arith,
        S.higher,
        all-to-come s.nodes,
        ap (waiting (child_counts s)) S.places,
        ap (λ (k : ℕ). waiting (child_counts s) (replicate k 0)) nodes,
      )

  pub roots-ready : (order : List ℕ) → length codes.from ≤ 1024 → length codes.from ≤ length order
      → 2 * entries_of s ≤ length room.to
      → Ready s room.to codes.to order top 0 × Named (stack_of room.to top)
  roots-ready order few long room =
      let same : length codes.to ≡ length codes.from =
      ap length S.places ∙ length-replicate {A = ℕ} (length codes.from) 0 in (
        record {
          nodes = nodes ∙ sym same;
          few = omega arith;
          room = omega (arith, bound);
          left = omega (arith, (λ j. waiting (replicate (same j) 1) (S.places j)) ∙ free_all (length codes.from));
        },
        subst Named (append-nil (listed_as 1 s.roots) ∙ sym S.stack) (named-listed 1 s.roots [] (omega arith) tt),
      )

pub at_first : (s : Scene) (walk : List ℕ) (top : ℕ) (m : Marks) → Ready s walk m.places m.order top m.placed → Named (stack_of walk top) → Going s walk top m walk top m 0
at_first s walk top m r n = record { ready = r; named = n; turns = omega arith; goes = refl }

module _ (s : Scene) (walk₀ : List ℕ) (top₀ : ℕ) (m₀ : Marks) (walk : List ℕ) (top : ℕ) (m : Marks) (taken : ℕ) (g : Going s walk₀ top₀ m₀ walk top m taken) (b : 0 < top)
    (walk' : List ℕ) (top' : ℕ) (m' : Marks) (S : Stepped s walk top m (record { stack = stack_of walk' top'; marks = m' })) where
  abbrev e : Item
  e = item_at walk (top - 1)

  abbrev rest : List Item
  rest = stack_of walk (top - 1)

  names : Named (e ∷ rest)
  names = subst Named (stack_top walk top b) g.named

  stack_is : (take_one (children_at s) e rest m).stack ≡ stack_of walk' top'
  stack_is = ap (λ (x : State). x.stack) S

  marks-are : (take_one (children_at s) e rest m).marks ≡ m'
  marks-are = ap (λ (x : State). x.marks) S

  -- one entry less is to take
  pub less : suc (pending s top' m'.places) ≡ pending s top m.places
  less =
      omega (
        arith,
        one_less s e rest m names g.ready.nodes,
        ap length stack_is,
        stack-length walk' top',
        ap (λ (x : Marks). waiting (child_counts s) x.places) marks-are,
        stack-length walk (top - 1),
      )

  ready-next : length walk' ≡ length walk → length m'.places ≡ length m.places → length m'.order ≡ length m.order → Ready s walk' m'.places m'.order top' m'.placed
  ready-next lw lp lo = record {
    nodes = g.ready.nodes ∙ sym lp;
    few = omega (arith, g.ready.few);
    room = omega (arith, less, g.ready.room);
    left = omega (
      arith,
      g.ready.left,
      still-left s e rest m names g.ready.nodes,
      ap (λ (x : Marks). x.placed + waiting (replicate (length m.places) 1) x.places) marks-are,
      ap (λ (n : ℕ). waiting (replicate n 1) m'.places) lp,
    );
  }

  pub next : length walk' ≡ length walk → length m'.places ≡ length m.places → length m'.order ≡ length m.order → Going s walk₀ top₀ m₀ walk' top' m' (taken + 1)
  next lw lp lo = record {
    ready = ready-next lw lp lo;
    named = subst Named stack_is (still-named s e rest m names g.ready.nodes);
    turns = omega (arith, less, g.turns);
    goes = (λ j. drained (pending s top' m'.places) (children_at s) (sym stack_is j) (sym marks-are j) (taken + 1))
        ∙ sym (drained-one (children_at s) e rest m (pending s top' m'.places) taken)
        ∙ (λ j. drained (less j) (children_at s) (sym (stack_top walk top b) j) m taken)
        ∙ g.goes;
  }

-- nothing is left to take
pub at_last : (s : Scene) (walk₀ : List ℕ) (top₀ : ℕ) (m₀ : Marks) (walk : List ℕ) (top : ℕ) (m : Marks) (taken : ℕ) → Going s walk₀ top₀ m₀ walk top m taken → top ≡ 0
    → drained (pending s top₀ m₀.places) (children_at s) (stack_of walk₀ top₀) m₀ 0
    ≡ record { marks = m; taken = taken }
unfolding stack_of
at_last s walk₀ top₀ m₀ walk top m taken g z =
    sym g.goes
    ∙ ap (λ (n : ℕ). drained (pending s top m.places) (children_at s) (stack_of walk n) m taken) z
    ∙ drained-none (pending s top m.places) (children_at s) m taken
