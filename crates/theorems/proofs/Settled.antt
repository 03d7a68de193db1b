-- No bound cuts off the marking of parents or a line of ancestors: a larger one gives the same. Assumes nothing.
use mathlib.Core.Path.{◌≡◌, refl, ap, ◌∙◌}
use mathlib.Core.Bool.{Bool, true, false}
use mathlib.Core.List.{List, [], ◌∷◌}
use mathlib.Core.Option.{Option, none, some}
use Prim.Native.Nat.{ℕ, zero, suc, ◌+◌, ◌≤◌, ◌<◌}
use native.Mathlib.Nat.{le_of_suc-le-suc}
use native.Mathlib.Omega.{arith}
use lib.Dec.{ltb}
use lib.ListN.{length, set, replicate, length-replicate}
use Rattle.model.specs.Lists.{pick}
use Rattle.model.specs.Scene.{Scene, node_count, children_at}
use Rattle.model.specs.Placing.{Place, unplaced, below, free}
use Rattle.model.specs.Parents.{Marking, mark_roots, mark_one, mark_all, take_id, explore, marks_of, parent_of}
use Rattle.model.specs.Skin.{ancestors, line_of}
use Rattle.theorems.proofs.Heights.{unmarked, unmarked-fewer, unmarked_most, roots-count, height_of, height-low}
use Rattle.theorems.proofs.Heights.{height-falls}

-- ---- the marking

-- the ids that wait and the nodes that are not marked: each is taken at most once
abbrev pending : Marking → ℕ
pending m = length m.waiting + unmarked m.marks

pending-one : (p x : ℕ) (m : Marking) → pending (mark_one p x m) ≡ pending m
unfolding mark_one
pending-one p x m = go (free m.marks x) refl
  where
    go : (t : Bool) → free m.marks x ≡ t
        → pending (pick t (record { waiting = x ∷ m.waiting; marks = set m.marks x (below p) }) m) ≡ pending m
    go true f = omega (arith, unmarked-fewer m.marks x (below p) refl f)
    go false f = refl

pending-all : (p : ℕ) (l : List ℕ) (m : Marking) → pending (mark_all p l m) ≡ pending m
unfolding mark_all
pending-all p [] m = refl
pending-all p (x ∷ l) m = pending-one p x (mark_all p l m) ∙ pending-all p l m

module _ (children : ℕ → List ℕ) where
  pending-take : (x : ℕ) (m : Marking) → pending (take_id children x m) ≡ pending m
  unfolding take_id
  pending-take x m = go (ltb x (length m.marks))
    where
      go : (t : Bool) → pending (pick t (mark_all x (children x) m) m) ≡ pending m
      go true = pending-all x (children x) m
      go false = refl

  none-waits : (k : ℕ) (marks : List Place) → explore k children [] marks ≡ marks
  unfolding explore
  none-waits zero marks = refl
  none-waits (suc k) marks = refl

  settled : (k m : ℕ) (waiting : List ℕ) (marks : List Place) → length waiting + unmarked marks ≤ k → k ≤ m
      → explore m children waiting marks ≡ explore k children waiting marks
  unfolding explore
  settled zero m [] marks h l = none-waits m marks
  settled zero m (x ∷ rest) marks h l = absurd (omega arith)
  settled (suc k) m [] marks h l = none-waits m marks
  settled (suc k) zero (x ∷ rest) marks h l = absurd (omega arith)
  settled (suc k) (suc m) (x ∷ rest) marks h l =
      settled k m _ _ (omega (arith, pending-take x (record { waiting = rest; marks = marks }))) (le_of_suc-le-suc l)

-- the bound of roots and nodes suffices
pub marks-settled : (s : Scene) (k : ℕ)
    → (let marks = mark_roots s.roots (replicate (node_count s) unplaced) in
    explore (length s.roots + node_count s + k) (children_at s) s.roots marks ≡ marks_of s)
unfolding marks_of
marks-settled s k =
    let bare = replicate (node_count s) unplaced in
    let marks = mark_roots s.roots bare in
    let e : length marks ≡ node_count s = roots-count s.roots bare ∙ length-replicate (node_count s) unplaced in
    settled (children_at s) (length s.roots + node_count s) (length s.roots + node_count s + k) s.roots marks
    (omega (arith, unmarked_most marks, e)) (omega arith)

-- ---- a line

module _ (s : Scene) where
  no_line : (k : ℕ) → ancestors k (parent_of s) none ≡ []
  unfolding ancestors
  no_line zero = refl
  no_line (suc k) = refl

  whole-line : (k m : ℕ) (o : Option ℕ) → ((i : ℕ) → o ≡ some i → height_of s i < k) → k ≤ m
      → ancestors m (parent_of s) o ≡ ancestors k (parent_of s) o
  unfolding ancestors
  whole-line zero m none h l = no_line m
  whole-line zero m (some i) h l = absurd (omega (arith, h i refl))
  whole-line (suc k) m none h l = no_line m
  whole-line (suc k) zero (some i) h l = absurd (omega arith)
  whole-line (suc k) (suc m) (some i) h l =
      ap (λ (r : List ℕ). i ∷ r)
      (whole-line k m (parent_of s i) (λ p e. omega (arith, height-falls s i p e, h i refl)) (le_of_suc-le-suc l))

  -- so many entries suffice
  pub line-settled : (k i : ℕ) → ancestors (suc (node_count s + k)) (parent_of s) (some i) ≡ line_of s i
  line-settled k i =
      whole-line (suc (node_count s)) (suc (node_count s + k)) (some i) (λ j e. omega (arith, height-low s j))
      (omega arith)
