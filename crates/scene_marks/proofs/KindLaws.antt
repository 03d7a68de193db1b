-- What is made of the fields of a form by its kind: the words of its record, and whether of each group of fields just
-- one is there. Assumes nothing.
use mathlib.Core.Path.{◌≡◌, refl, ap}
use mathlib.Core.Bool.{Bool, true, false, ◌&&◌}
use mathlib.Core.List.{List}
use Prim.Native.Nat.{ℕ, suc, ◌+◌, ◌*◌, ◌-◌, ◌%◌, ◌≤◌, ◌<◌}
use native.Mathlib.Nat.{add-zero, sub-zero}
use native.Mathlib.Omega.{arith}
use borrow.Author.Tests.{ltb-true, ltb-false, eq-eqb, ne_eqb}
use lib.Dec.{ltb, eqb}
use lib.ListN.{length, get_or, set, get_or-eq_default}
use lib.Seq.{sets, length-sets}
use Rattle.std.proofs.Common.{None}
use Rattle.scene_schema.specs.Layout.{layout}
use Rattle.scene_schema.specs.Numbers.{strides, slot_counts, slot_rules, no_rule}
use Rattle.scene_schema.proofs.Numbers.{kind-is, stride_few}
use Rattle.scene_marks.specs.declared.Mark.{Mark}
use Rattle.scene_marks.specs.Marks.{word_from, words_from, stride_of, row_of, present_from}
use Rattle.scene_marks.specs.Marks.{group_at, groups_from, groups_of}

-- ---- kinds
in_table : (l : List ℕ) (k j : ℕ) → j < get_or l k 0 → k < length l
in_table l k j h = go (ltb k (length l)) refl
  where
    go : (b : Bool) → ltb k (length l) ≡ b → k < length l
    go true e = ltb-true k (length l) e
    go false e = absurd (omega (arith, get_or-eq_default l 0 (ltb-false k (length l) e)))

pub kind-of-slot : (k j : ℕ) → j < get_or slot_counts k 0 → (k < 9) × (j < 16)
kind-of-slot k j h =
    let known : k < 9 = in_table slot_counts k j h in
    (known, omega (arith, (kind-is k known).count, (kind-is k known).few))

pub kind-of-word : (k w : ℕ) → w < stride_of k → (k < 9) × (w < 16)
kind-of-word k w h = (in_table strides k w h, omega (arith, stride_few k))

-- ---- words

-- what is still to be put makes up what was to be put
pub record Putting (k : ℕ) (marks : List Mark) (lent : List ℕ) (at n : ℕ) (words : List ℕ) (w : ℕ) : Type 0 where
  same : sets words (at + w) (words_from (n - w) k w marks) ≡ sets lent at (row_of k marks)
  pub stride : n ≡ stride_of k

module _ {k : ℕ} {marks : List Mark} {lent : List ℕ} {at n : ℕ} where
  pub putting-starts : n ≡ stride_of k → Putting k marks lent at n lent 0
  putting-starts e = record { same = simp (add-zero, sub-zero, e); stride = e }

  module _ {words : List ℕ} {w : ℕ} (g : Putting k marks lent at n words w) where
    pub putting-length : length words ≡ length lent
    putting-length = simp length-sets at (ap length g.same)

    pub putting-more : {next : List ℕ} {x : ℕ} → w < n
        → next ≡ set words (at + w) (x % 0x1_0000_0000)
        → x ≡ word_from k marks (get_or layout (16 * k + w) None)
        → Putting k marks lent at n next (w + 1)
    unfolding words_from
    putting-more h e f =
        let t : n - w ≡ suc (n - (w + 1)) = omega arith in
        let u : at + (w + 1) ≡ suc (at + w) = omega arith in
        record { same = rw (u, e, f) (rw t at g.same); stride = g.stride }

    pub putting-ends : n ≤ w → words ≡ sets lent at (row_of k marks)
    unfolding words_from
    putting-ends h =
        let t : n - w ≡ 0 = omega arith in
        rw t at g.same

-- ---- groups
module _ (k j : ℕ) (marks : List Mark) {n : ℕ} (e : n ≡ (get_or slot_rules (16 * k + j) no_rule).one_of) where
  pub group-none : n ≡ 0 → true ≡ group_at k j marks
  group-none z = rw (← e, eq-eqb n 0 z)

  pub group-one : {count : ℕ} → (n ≡ 0 → ⊥) → count ≡ present_from n j marks → eqb count 1 ≡ group_at k j marks
  group-one d f = rw (← e, ne_eqb n 0 d, f)

-- what is still to be looked at makes up what was to be looked at
pub record Grouping (k : ℕ) (marks : List Mark) (n j : ℕ) : Type 0 where
  same : groups_from (n - j) k j marks ≡ groups_of k marks
  pub slots : n ≡ get_or slot_counts k 0

module _ {k : ℕ} {marks : List Mark} {n : ℕ} where
  pub grouping-starts : n ≡ get_or slot_counts k 0 → Grouping k marks n 0
  grouping-starts e = record { same = simp (sub-zero, e); slots = e }

  module _ {j : ℕ} (g : Grouping k marks n j) where
    grouping-turn : j < n → (group_at k j marks && groups_from (n - (j + 1)) k (j + 1) marks) ≡ groups_of k marks
    unfolding groups_from
    grouping-turn h = let t : n - j ≡ suc (n - (j + 1)) = omega arith in rw t at g.same

    pub grouping-on : {r : Bool} → j < n → r ≡ group_at k j marks → r ≡ true → Grouping k marks n (j + 1)
    grouping-on h e t = record { same = rw (← e, t) at (grouping-turn h); slots = g.slots }

    pub grouping-fails : {r : Bool} → j < n → r ≡ group_at k j marks → r ≡ false → false ≡ groups_of k marks
    grouping-fails h e t = rw (← e, t) at (grouping-turn h)

    pub grouping-ends : n ≤ j → true ≡ groups_of k marks
    unfolding groups_from
    grouping-ends h = let t : n - j ≡ 0 = omega arith in rw t at g.same
