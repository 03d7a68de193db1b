-- The fields of a form are those that its record and the lent tables say. Assumes nothing.
use mathlib.Core.Path.{◌≡◌, refl, sym, ap, subst, ◌∙◌}
use mathlib.Core.Bool.{Bool, true, false, not}
use mathlib.Core.List.{List, [], ◌∷◌}
use mathlib.Core.Option.{none, some}
use Prim.Native.Nat.{ℕ, zero, suc, ◌+◌, ◌*◌, ◌/◌, ◌%◌, ◌≤◌, ◌<◌}
use native.Mathlib.Nat.{mod-eq_of_lt, div-le_self, div-add-mod'}
use native.Mathlib.Omega.{arith}
use borrow.Author.Tests.{eqb-true}
use lib.Dec.{T, eqb, eqb→eq}
use lib.ListN.{length, get_or, take}
use Rattle.model.specs.Lists.{part}
use Rattle.model.proofs.ListLaws.{entries_from, by_entries}
use Rattle.tables.specs.Tags.{is_marked}
use Rattle.tables.specs.Decoded.{Lent}
use Rattle.grammar.specs.Forms.{Size, exactly, entries_of, Slot, Field, Form, Small, SmallField, FitsSlots}
use Rattle.grammar.specs.Digits.{Sort}
use Rattle.grammar.specs.Shape.{sorted, sized, field_holds, fields_hold, groups_hold, form_holds}
use Rattle.grammar.proofs.Words.{both}
use Rattle.scene_schema.specs.declared.Pool.{Pool}
use Rattle.scene_schema.specs.declared.Pool.TheVariants as pool
use Rattle.scene_schema.specs.declared.Rule.{Rule}
use Rattle.scene_schema.specs.Schema.{kind_at, slot_at, no_slot}
use Rattle.scene_schema.specs.Numbers.{slot_counts, slot_rules, no_rule, sort_of, size_for}
use Rattle.scene_schema.proofs.Numbers.{kind-is}
use Rattle.scene_marks.specs.declared.Mark.{Mark}
use Rattle.scene_marks.specs.Marks.{mark_at, chosen, present_from}
use Rattle.scene_forms.specs.declared.Counts.{Counts}
use Rattle.scene_forms.specs.Filled.{pool_of, start_in}
use Rattle.scene_forms.specs.Laid.{items_of, field_at, item_of, mark_in, count_fields, marks_of}
use Rattle.scene_forms.proofs.MarkLaws.{there_in, mark-laid, mark-told}
use Rattle.scene_forms.proofs.TextLaws.{form-long, form-few, item-small}
use Rattle.scene_forms.proofs.ShapeLaws.{form-groups}
use Rattle.scene_spelling.specs.Written.{bits_of, there}
use Rattle.scene_round.proofs.Placed.{Table}
use Rattle.scene_round.proofs.Groups.{group-at, group-one, absent, chosen-few, chosen-one}

-- a word of a record
abbrev pub cut : ℕ → ℕ
cut n = n % 0x1_0000_0000

abbrev pub rule_at : ℕ → ℕ → Rule
rule_at k j = get_or slot_rules (16 * k + j) no_rule

-- so many items of a pool from a place on
abbrev pub read_at : Pool → Lent → ℕ → ℕ → List ℕ
read_at pool.Number l at n = []
read_at pool.Bits l at n = []
read_at pool.Ids l at n = part l.words at n
read_at pool.Floats l at n = bits_of (part l.floats at n)
read_at pool.NodeWeights l at n = bits_of (part l.node_weights at n)
read_at pool.MeshWeights l at n = bits_of (part l.mesh_weights at n)

-- how long the slice of a pool is
abbrev pub room_of : Pool → Lent → ℕ
room_of pool.Number l = 0
room_of pool.Bits l = 0
room_of pool.Ids l = length l.words
room_of pool.Floats l = length l.floats
room_of pool.NodeWeights l = length l.node_weights
room_of pool.MeshWeights l = length l.mesh_weights

-- where the items of slot j start
abbrev pub start_at : ℕ → Form → Counts → ℕ → ℕ
start_at k f c j = start_in (pool_of k j) (count_fields k 0 (take j f) c)

-- a form of kind k whose items stand in the lent tables from the counts on
pub record FormIn (l : Lent) (k : ℕ) (f : Form) (c : Counts) : Type 0 where
  pub known : k < 9
  pub fits : FitsSlots (kind_at k).slots f
  pub shaped : T (form_holds (kind_at k) f)
  pub short : (j : ℕ) (xs : List ℕ) → Table (pool_of k j) → field_at f j ≡ some xs
      → start_at k f c j + length xs < 0x1_0000_0000
  pub inside : (j : ℕ) (xs : List ℕ) → Table (pool_of k j) → field_at f j ≡ some xs
      → start_at k f c j + length xs ≤ room_of (pool_of k j) l
  pub items : (j : ℕ) (xs : List ℕ) → Table (pool_of k j) → field_at f j ≡ some xs → Small xs
      → T (sorted (sort_of (pool_of k j)) xs) → read_at (pool_of k j) l (start_at k f c j) (length xs) ≡ xs

-- where a field is there, its items are these
abbrev pub Says : Form → ℕ → List ℕ → Type 0
Says f j xs = (ys : List ℕ) → field_at f j ≡ some ys → xs ≡ ys

-- ---- what the schema asks of one field

fields_at : (ts : List Slot) (f : Form) (j : ℕ) → FitsSlots ts f → T (fields_hold ts f)
    → SmallField (get_or f j none) × T (field_holds (get_or ts j no_slot) (get_or f j none))
unfolding fields_hold
fields_at [] [] j p h = (tt, tt)
fields_at [] (x ∷ f) j p h = absurd p
fields_at (t ∷ ts) [] j p h = absurd p
fields_at (t ∷ ts) (x ∷ f) zero p h = (p.0, (both (field_holds t x) (fields_hold ts f) h).0)
fields_at (t ∷ ts) (x ∷ f) (suc j) p h = fields_at ts f j p.1 (both (field_holds t x) (fields_hold ts f) h).1

pub there-inside : (f : Form) (j : ℕ) (xs : List ℕ) → field_at f j ≡ some xs → j < length f
there-inside [] j xs e = let z : ◌≡◌ {A = ℕ} 0 1 = cc in absurd (omega arith)
there-inside (x ∷ f) zero xs e = omega arith
there-inside (x ∷ f) (suc j) xs e = omega (arith, there-inside f j xs e)

pub record FieldTold (k j : ℕ) (xs : List ℕ) : Type 0 where
  pub small : Small xs
  pub sorts : T (sorted (sort_of (pool_of k j)) xs)
  pub sizes : T (sized (size_for (rule_at k j)) (length xs))

absent_none : (x : Field) → eqb (there_in x) 0 ≡ true → x ≡ none
absent_none none e = refl
absent_none (some xs) e = let z : ◌≡◌ {A = ℕ} 0 1 = cc in absurd (omega arith)

there-some : (x : Field) (xs : List ℕ) → eqb (there_in x) 0 ≡ false → ((ys : List ℕ) → x ≡ some ys → xs ≡ ys)
    → some xs ≡ x
there-some none xs e s = let z : ◌≡◌ {A = ℕ} 0 1 = cc in absurd (omega arith)
there-some (some ys) xs e s = ap some (s ys refl)

module _ {l : Lent} {k : ℕ} {f : Form} {c : Counts} (r : FormIn l k f c) where
  pub told : (j : ℕ) (xs : List ℕ) → field_at f j ≡ some xs → FieldTold k j xs
  told j xs e =
      let slots = (kind_at k).slots in
      let p = fields_at slots f j r.fits (both (fields_hold slots f) (groups_hold slots f) r.shaped).0 in
      let inside : j < length slots = omega (arith, form-long slots f r.fits, there-inside f j xs e) in
      let s = (kind-is k r.known).slots j inside in
      let t = slot_at k j in
      let holds = both (sorted t.sort xs) (sized t.size (length xs))
      (subst (λ (x : Field). T (field_holds t x)) e p.1) in
      record {
        small = subst SmallField e p.0;
        sorts = subst (λ (s : Sort). T (sorted s xs)) (sym s.sort) holds.0;
        sizes = subst (λ (s : Size). T (sized s (length xs))) (sym s.size) holds.1;
      }

  few : length f ≤ 16
  few = form-few k f r.known r.fits

  pub form-count : length f ≡ get_or slot_counts k 0
  form-count = form-long (kind_at k).slots f r.fits ∙ sym (kind-is k r.known).count

  pub laid : (j : ℕ) (xs : List ℕ) → field_at f j ≡ some xs
      → mark_at (marks_of k f c) j ≡ mark_in k j (some xs) (count_fields k 0 (take j f) c)
  laid j xs e =
      mark-laid k f c j few ∙ ap (λ (x : Field). mark_in k j x (count_fields k 0 (take j f) c)) e

  -- ---- items that are told by the record alone

  exact-long : (j n : ℕ) (xs : List ℕ) → size_for (rule_at k j) ≡ exactly n → field_at f j ≡ some xs → length xs ≡ n
  exact-long j n xs s e =
      eqb→eq (length xs) n (subst (λ (s : Size). T (sized s (length xs))) s (told j xs e).sizes)

  pub none_said : (j : ℕ) → size_for (rule_at k j) ≡ exactly 0 → Says f j []
  unfolding entries_from
  none_said j s xs e = sym (by_entries 0 xs 0 (exact-long j 0 xs s e))

  pub item-said : (j : ℕ) → size_for (rule_at k j) ≡ exactly 1 → Says f j (item_of f j 0 ∷ [])
  unfolding entries_from
  item-said j s xs e =
      ap (λ (x : Field). get_or (items_of x) 0 0 ∷ []) e ∙ sym (by_entries 0 xs 1 (exact-long j 1 xs s e))

  pub first_word : (j : ℕ) → cut (mark_at (marks_of k f c) j).first ≡ item_of f j 0
  first_word j =
      ap (λ (m : Mark). cut m.first) (mark-told k f c j few)
      ∙ mod-eq_of_lt (item-small (kind_at k).slots f j 0 r.fits)

  pub second_word : (j : ℕ) → cut (mark_at (marks_of k f c) j).second ≡ item_of f j 1
  second_word j =
      ap (λ (m : Mark). cut m.second) (mark-told k f c j few)
      ∙ mod-eq_of_lt (item-small (kind_at k).slots f j 1 r.fits)

  pub one-said : (j : ℕ) → size_for (rule_at k j) ≡ exactly 1 → Says f j (cut (mark_at (marks_of k f c) j).first ∷ [])
  one-said j s xs e = ap (λ (x : ℕ). x ∷ []) (first_word j) ∙ item-said j s xs e

  pub two_said : (j : ℕ) → size_for (rule_at k j) ≡ exactly 2
      → Says f j (cut (mark_at (marks_of k f c) j).first ∷ cut (mark_at (marks_of k f c) j).second ∷ [])
  unfolding entries_from
  two_said j s xs e =
      (λ t. first_word j t ∷ second_word j t ∷ [])
      ∙ ap (λ (x : Field). get_or (items_of x) 0 0 ∷ get_or (items_of x) 1 0 ∷ []) e
      ∙ sym (by_entries 0 xs 2 (exact-long j 2 xs s e))

  -- ---- items that stand in a table

  pub start_is : (j : ℕ) (xs : List ℕ) → Table (pool_of k j) → field_at f j ≡ some xs
      → cut (mark_at (marks_of k f c) j).start ≡ start_at k f c j
  start_is j xs t e =
      let near : start_at k f c j < 0x1_0000_0000 = omega (arith, r.short j xs t e) in
      ap (λ (m : Mark). cut m.start) (laid j xs e) ∙ mod-eq_of_lt near

  items-said : (j n : ℕ) → Table (pool_of k j) → ((xs : List ℕ) → field_at f j ≡ some xs → n ≡ length xs)
      → Says f j (read_at (pool_of k j) l (cut (mark_at (marks_of k f c) j).start) n)
  items-said j n t long xs e =
      (λ i. read_at (pool_of k j) l (start_is j xs t e i) (long xs e i))
      ∙ r.items j xs t e (told j xs e).small (told j xs e).sorts

  pub exact-said : (j n : ℕ) → Table (pool_of k j) → size_for (rule_at k j) ≡ exactly n
      → Says f j (read_at (pool_of k j) l (cut (mark_at (marks_of k f c) j).start) n)
  exact-said j n t s = items-said j n t (λ xs e. sym (exact-long j n xs s e))

  pub entries-said : (j w : ℕ) → Table (pool_of k j) → size_for (rule_at k j) ≡ entries_of w
      → Says f j
      (read_at (pool_of k j) l (cut (mark_at (marks_of k f c) j).start) (cut ((mark_at (marks_of k f c) j).count / w) * w))
  entries-said j w t s =
      items-said j (cut ((mark_at (marks_of k f c) j).count / w) * w) t
      (λ xs e.
      let n = length xs in
      let short = r.short j xs t e in
      let whole : n % w ≡ 0 =
      eqb→eq (n % w) 0 (subst (λ (s : Size). T (sized s n)) s (told j xs e).sizes) in
      let near : n / w < 0x1_0000_0000 = omega (arith, div-le_self n w) in
      ap (λ (m : Mark). cut (m.count / w) * w) (laid j xs e)
      ∙ ap (λ (q : ℕ). q * w) (mod-eq_of_lt near)
      ∙ omega (arith, div-add-mod' n w))

  -- ---- which fields are there

  pub is-there : (j : ℕ) → (mark_at (marks_of k f c) j).there ≡ there_in (field_at f j)
  is-there j = ap (λ (m : Mark). m.there) (mark-told k f c j few)

  pub optional : (j : ℕ) {xs : List ℕ} → Says f j xs
      → there (is_marked (cut (mark_at (marks_of k f c) j).there)) xs ≡ field_at f j
  optional j {xs} s =
      ap (λ (n : ℕ). there (is_marked (cut n)) xs) (is-there j) ∙ go (field_at f j) s
    where
      go : (x : Field) → ((ys : List ℕ) → x ≡ some ys → xs ≡ ys) → there (is_marked (cut (there_in x))) xs ≡ x
      go none s = refl
      go (some ys) s = ap some (s ys refl)

  one-there : (j n : ℕ) → j < get_or slot_counts k 0 → (rule_at k j).one_of ≡ suc n
      → present_from (suc n) j (marks_of k f c) ≡ 1
  one-there j n h e =
      let slots = (kind_at k).slots in
      let marks = marks_of k f c in
      let groups = (both (fields_hold slots f) (groups_hold slots f) r.shaped).1 in
      group-one k j n marks e
      (group-at (get_or slot_counts k 0) k 0 marks
      (subst T (sym (form-groups k f c r.known r.fits)) groups) j j (omega arith) h)

  -- one of a group, by its number
  pub grouped : (j n o : ℕ) → j < get_or slot_counts k 0 → (rule_at k j).one_of ≡ suc n → o ≤ n → n < 16
      → (xs : ℕ → List ℕ) → Says f (j + o) (xs o)
      → there (eqb (cut (chosen (marks_of k f c) j n)) o) (xs (chosen (marks_of k f c) j n)) ≡ field_at f (j + o)
  grouped j n o h e u b xs s =
      let marks = marks_of k f c in
      let m = chosen marks j n in
      let near : m < 0x1_0000_0000 = omega (arith, chosen-few marks j n) in
      let other : absent marks (j + o) ≡ not (eqb m o) =
      chosen-one marks n j o (j + o) (one-there j n h e) refl u in
      ap (λ (x : ℕ). there (eqb x o) (xs m)) (mod-eq_of_lt near)
      ∙ go (eqb m o) refl (sym (ap (λ (x : ℕ). eqb x 0) (is-there (j + o))) ∙ other)
    where
      go : (b : Bool) → eqb (chosen (marks_of k f c) j n) o ≡ b → eqb (there_in (field_at f (j + o))) 0 ≡ not b
          → there b (xs (chosen (marks_of k f c) j n)) ≡ field_at f (j + o)
      go true e z =
          there-some (field_at f (j + o)) (xs (chosen (marks_of k f c) j n)) z
          (λ ys p. ap xs (eqb-true (chosen (marks_of k f c) j n) o e) ∙ s ys p)
      go false e z = sym (absent_none (field_at f (j + o)) z)

  pub needed : (j : ℕ) → j < get_or slot_counts k 0 → (rule_at k j).one_of ≡ 1 → {xs : List ℕ} → Says f j xs
      → some xs ≡ field_at f j
  unfolding chosen
  needed j h e {xs} s =
      let marks = marks_of k f c in
      there-some (field_at f j) xs
      (sym (ap (λ (x : ℕ). eqb x 0) (is-there j))
      ∙ chosen-one marks 0 j 0 j (one-there j 0 h e) (omega arith) (omega arith)) s
