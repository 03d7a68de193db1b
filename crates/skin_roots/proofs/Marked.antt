-- The codes of the nodes' marks say what is above a node: it is one of the nodes, and it is the model's. Assumes nothing.
use mathlib.Core.Path.{◌≡◌, refl, sym, ap, ◌∙◌}
use mathlib.Core.Bool.{Bool, true, false}
use mathlib.Core.List.{List, [], ◌∷◌}
use mathlib.Core.Option.{none, some, none-ne-some}
use Prim.Native.Nat.{ℕ, zero, suc, ◌+◌, ◌-◌, ◌<◌}
use native.Mathlib.Omega.{arith}
use borrow.Author.Tests.{le-ltb, ltb-true}
use lib.Dec.{ltb}
use lib.ListN.{length, get_or, set, replicate, length-set, length-map, length-replicate, get_or-map}
use Rattle.model.specs.Lists.{pick, every, first_that}
use Rattle.model.specs.Scene.{Scene, node_count, children_at}
use Rattle.model.specs.Placing.{Place, unplaced, root, below, free}
use Rattle.model.specs.Parents.{Marking, mark_roots, mark_one, mark_all, take_id, explore, marks_of, parent_in, parent_of}
use Rattle.model.specs.Skin.{ancestors, is_among, common_root}
use Rattle.model.specs.Agree.{Each}
use Rattle.tables.specs.Codes.{code_of, codes_of}
use Rattle.skin_roots.specs.Lines.{id_in, up_in, line_in, Inside, common_in}

-- ---- marks name nodes
abbrev Fine : ℕ → Place → Type 0
Fine n unplaced = Unit {0}
Fine n root = Unit {0}
Fine n (below p) = p < n

each_set : {A : Type 0} (P : A → Type 0) (l : List A) (i : ℕ) (x : A) → Each P l → P x → Each P (set l i x)
each_set P [] i x h p = tt
each_set P (y ∷ l) zero x h p = (p, h.1)
each_set P (y ∷ l) (suc i) x h p = (h.0, each_set P l i x h.1 p)

each_at : {A : Type 0} (P : A → Type 0) (l : List A) (i : ℕ) (d : A) → Each P l → P d → P (get_or l i d)
each_at P [] i d h p = p
each_at P (y ∷ l) zero d h p = h.0
each_at P (y ∷ l) (suc i) d h p = each_at P l i d h.1 p

record Kept (n : ℕ) (marks : List Place) : Type 0 where
  count : length marks ≡ n
  fine : Each (Fine n) marks

module _ (n : ℕ) where
  set-kept : (marks : List Place) (i : ℕ) (q : Place) → Kept n marks → Fine n q → Kept n (set marks i q)
  set-kept marks i q k f = record { count = length-set marks i q ∙ k.count; fine = each_set (Fine n) marks i q k.fine f }

  none_kept : (k : ℕ) → Each (Fine n) (replicate k unplaced)
  none_kept zero = tt
  none_kept (suc k) = (tt, none_kept k)

  roots_kept : (rs : List ℕ) (marks : List Place) → Kept n marks → Kept n (mark_roots rs marks)
  unfolding mark_roots
  roots_kept [] marks k = k
  roots_kept (r ∷ rs) marks k = roots_kept rs (set marks r root) (set-kept marks r root k tt)

  module _ (p : ℕ) (b : p < n) where
    one_kept : (x : ℕ) (m : Marking) → Kept n m.marks → Kept n (mark_one p x m).marks
    unfolding mark_one
    one_kept x m k = go (free m.marks x)
      where
        go : (t : Bool) → Kept n (pick t (record { waiting = x ∷ m.waiting; marks = set m.marks x (below p) }) m).marks
        go true = set-kept m.marks x (below p) k b
        go false = k

    all-kept : (xs : List ℕ) (m : Marking) → Kept n m.marks → Kept n (mark_all p xs m).marks
    unfolding mark_all
    all-kept [] m k = k
    all-kept (x ∷ xs) m k = one_kept x (mark_all p xs m) (all-kept xs m k)

  take-kept : (children : ℕ → List ℕ) (x : ℕ) (m : Marking) → Kept n m.marks → Kept n (take_id children x m).marks
  unfolding take_id
  take-kept children x m k = go (ltb x (length m.marks)) refl
    where
      go : (t : Bool) → ltb x (length m.marks) ≡ t → Kept n (pick t (mark_all x (children x) m) m).marks
      go true e = all-kept x (omega (arith, ltb-true x (length m.marks) e, k.count)) (children x) m k
      go false e = k

  explored-kept : (k : ℕ) (children : ℕ → List ℕ) (waiting : List ℕ) (marks : List Place) → Kept n marks → Kept n (explore k children waiting marks)
  unfolding explore
  explored-kept zero children waiting marks h = h
  explored-kept (suc k) children [] marks h = h
  explored-kept (suc k) children (x ∷ rest) marks h =
      let m = take_id children x (record { waiting = rest; marks = marks }) in
      explored-kept k children m.waiting m.marks (take-kept children x (record { waiting = rest; marks = marks }) h)

marks-kept : (s : Scene) → Kept (node_count s) (marks_of s)
unfolding marks_of
marks-kept s =
    let n = node_count s in
    explored-kept n (length s.roots + n) (children_at s) s.roots _
    (roots_kept n s.roots (replicate n unplaced) (record { count = length-replicate n unplaced; fine = none_kept n n }))

-- ---- codes say the same
id-is : (q : Place) → id_in (code_of q) ≡ parent_in q
id-is unplaced = refl
id-is root = refl
id-is (below p) = let e : p + 3 - 3 ≡ p = omega arith in (λ i. pick (le-ltb (p + 3) 3 (omega arith) i) none (some (e i)))

module _ (s : Scene) where
  up_is : (i : ℕ) → up_in (codes_of (marks_of s)) i ≡ parent_of s i
  up_is i = ap id_in (get_or-map code_of (marks_of s) i unplaced) ∙ id-is (get_or (marks_of s) i unplaced)

  pub codes-length : length (codes_of (marks_of s)) ≡ node_count s
  codes-length = length-map (marks_of s) code_of ∙ (marks-kept s).count

  pub codes-inside : Inside (codes_of (marks_of s))
  codes-inside i p h = go (get_or (marks_of s) i unplaced) (each_at (Fine (node_count s)) (marks_of s) i unplaced (marks-kept s).fine tt) (sym (up_is i) ∙ h)
    where
      go : (q : Place) → Fine (node_count s) q → parent_in q ≡ some p → p < length (codes_of (marks_of s))
      go unplaced f e = absurd (none-ne-some p e)
      go root f e = absurd (none-ne-some p e)
      go (below r) f e = let z : r ≡ p = cc in omega (arith, codes-length)

  pub common-linked : (js : List ℕ) → common_in (codes_of (marks_of s)) js ≡ common_root s js
  unfolding common_in common_root line_in
  common-linked [] = refl
  common-linked (j ∷ js) =
      (λ i. pick (every (λ x. ltb x (codes-length i)) (j ∷ js))
      (first_that (λ a. every (λ x. is_among a (ancestors (suc (codes-length i)) (λ k. up_is k i) (some x))) js) (ancestors (suc (codes-length i)) (λ k. up_is k i) (some j)))
      none)
