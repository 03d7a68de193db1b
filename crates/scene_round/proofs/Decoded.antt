-- A form that stands in lent tables is the one that its record says, kind by kind. Assumes nothing.
use mathlib.Core.Path.{◌≡◌, refl, sym, ap, ◌∙◌}
use mathlib.Core.Bool.{Bool, not}
use mathlib.Core.List.{List, [], ◌∷◌}
use mathlib.Core.Option.{none}
use Prim.Native.Nat.{ℕ, zero, suc, ◌+◌, ◌*◌, ◌≤◌, ◌<◌}
use native.Mathlib.Nat.{mod-eq_of_lt}
use native.Mathlib.Omega.{arith}
use lib.Dec.{eqb, lit<, lit≤}
use lib.Ieee.{binary32, of_bits}
use lib.ListN.{length, take}
use Rattle.model.specs.Lists.{part}
use Rattle.model.proofs.ListLaws.{entries_from, by_entries}
use Rattle.tables.specs.Records.{alone, word_of, node_row, channel_row, mesh_row, primitive_row, target_row, in_between_row}
use Rattle.tables.specs.Records.{skin_row, skeleton_row}
use Rattle.tables.specs.Decoded.{Lent}
use Rattle.grammar.specs.Forms.{exactly, Field, Form}
use Rattle.scene_schema.specs.declared.Pool.TheVariants as pool
use Rattle.scene_schema.specs.Numbers.{size_for}
use Rattle.scene_marks.specs.Marks.{mark_at, chosen, entries_in, words_from, row_of}
use Rattle.scene_forms.specs.declared.Counts.{Counts}
use Rattle.scene_forms.specs.Filled.{reals_of, start_in}
use Rattle.scene_forms.specs.Laid.{items_of, field_at, item_of, no_counts, count_fields, marks_of}
use Rattle.scene_forms.proofs.TextLaws.{roots-first}
use Rattle.scene_spelling.specs.Written.{bits_of, there, tag_field, from, scene_form, node_form, channel_form, mesh_form}
use Rattle.scene_spelling.specs.Written.{primitive_form, target_form, in_between_form, skin_form, skeleton_form}
use Rattle.scene_round.proofs.Bits.{floats-kept}
use Rattle.scene_round.proofs.Groups.{chosen-few}
use Rattle.scene_round.proofs.Fields.{cut, rule_at, read_at, FormIn, Says, form-count, none_said, one-said}
use Rattle.scene_round.proofs.Fields.{told, item-said, two_said, exact-said, entries-said, optional, needed}
use Rattle.scene_round.proofs.Fields.{grouped}

-- ---- the scene form, which comes first

pub scene-is : {l : Lent} {f : Form} → FormIn l 0 f no_counts
    → scene_form l.words (from 0 (length (items_of (field_at f 2)))) (item_of f 0 0) (of_bits binary32 (item_of f 1 0))
    ≡ f
unfolding entries_from
scene-is {l} {f} r =
    (λ t.
    needed r 0 (lit< tt) refl (item-said r 0 refl) t
    ∷ needed r 1 (lit< tt) refl
    (λ xs e.
    ap (λ (l : List ℕ). bits_of (reals_of l)) (item-said r 1 refl xs e)
    ∙ floats-kept xs (told r 1 xs e).small (told r 1 xs e).sorts) t
    ∷ needed r 2 (lit< tt) refl
    (λ xs e.
    let start : start_in pool.Ids (count_fields 0 0 (take 2 f) no_counts) ≡ 0 =
    ap (start_in pool.Ids) (roots-first f no_counts) in
    let long : length xs ≡ length (items_of (field_at f 2)) = ap (λ (x : Field). length (items_of x)) (sym e) in
    let whole : length (items_of (field_at f 2)) * 1 ≡ length xs = omega arith in
    (λ i. part l.words (sym start i) (whole i)) ∙ r.items 2 xs tt e (told r 2 xs e).small tt) t
    ∷ [])
    ∙ sym (by_entries none f 3 (form-count r))

-- ---- what is one of a group

-- of two, the other is the second
second-of : (n : ℕ) → n ≤ 1 → not (eqb n 0) ≡ eqb n 1
second-of zero h = refl
second-of (suc zero) h = refl
second-of (suc (suc n)) h = absurd (omega arith)

-- so many floats from where a base transform starts, which is in slot o
abbrev base_items : Lent → Form → Counts → ℕ → ℕ → List ℕ
base_items l f c n o = read_at pool.Floats l (cut (mark_at (marks_of 1 f c) (0 + o)).start) n

-- values in entries of w floats, which are in slot 9 + o
abbrev value_items : Lent → Form → Counts → ℕ → ℕ → List ℕ
value_items l f c w o =
    let m = mark_at (marks_of 2 f c) (9 + o) in
    read_at pool.Floats l (cut m.start) (cut (entries_in (rule_at 2 (9 + o)).width m) * w)

module _ {l : Lent} {f : Form} {c : Counts} where
  matrix-is : (r : FormIn l 1 f c) → let m = chosen (marks_of 1 f c) 0 1 in
      there (not (eqb (cut m) 0)) (base_items l f c 16 m) ≡ field_at f 1
  matrix-is r =
      let m = chosen (marks_of 1 f c) 0 1 in
      let few = chosen-few (marks_of 1 f c) 0 1 in
      let near : m < 0x1_0000_0000 = omega arith in
      let same : cut m ≡ m = mod-eq_of_lt near in
      ap (λ (b : Bool). there b (base_items l f c 16 m)) (second-of (cut m) (omega arith))
      ∙ grouped r 0 1 1 (lit< tt) refl (lit≤ tt) (lit< tt) (base_items l f c 16) (exact-said r 1 16 tt refl)

  tag_is : (r : FormIn l 2 f c) (j n o : ℕ) → j < 12 → (rule_at 2 j).one_of ≡ suc n → o ≤ n → n < 16
      → size_for (rule_at 2 (j + o)) ≡ exactly 0 → tag_field (cut (chosen (marks_of 2 f c) j n)) o ≡ field_at f (j + o)
  tag_is r j n o h e u b s = grouped r j n o h e u b (λ m. []) (none_said r (j + o) s)

  values-is : (r : FormIn l 2 f c) (o w : ℕ) → o ≤ 2 → Says f (9 + o) (value_items l f c w o)
      → let m = chosen (marks_of 2 f c) 9 2 in
      there (eqb (cut m) o) (value_items l f c w m) ≡ field_at f (9 + o)
  values-is r o w u s = grouped r 9 2 o (lit< tt) refl u (lit< tt) (value_items l f c w) s

  -- ---- forms

  pub node-is : FormIn l 1 f c
      → node_form l.words l.floats l.node_weights (node_row (row_of 1 (marks_of 1 f c)) alone 0) ≡ f
  unfolding word_of words_from entries_from chosen
  node-is r =
      (λ t.
      grouped r 0 1 0 (lit< tt) refl (lit≤ tt) (lit< tt) (base_items l f c 10) (exact-said r 0 10 tt refl) t
      ∷ matrix-is r t
      ∷ needed r 2 (lit< tt) refl (entries-said r 2 1 tt refl) t
      ∷ optional r 3 (one-said r 3 refl) t
      ∷ optional r 4 (one-said r 4 refl) t
      ∷ optional r 5 (entries-said r 5 1 tt refl) t
      ∷ [])
      ∙ sym (by_entries none f 6 (form-count r))

  pub channel-is : FormIn l 2 f c → channel_form l.floats (channel_row (row_of 2 (marks_of 2 f c)) alone 0) ≡ f
  unfolding word_of words_from entries_from chosen
  channel-is r =
      (λ t.
      needed r 0 (lit< tt) refl (one-said r 0 refl) t
      ∷ tag_is r 1 3 0 (lit< tt) refl (lit≤ tt) (lit< tt) refl t
      ∷ tag_is r 1 3 1 (lit< tt) refl (lit≤ tt) (lit< tt) refl t
      ∷ tag_is r 1 3 2 (lit< tt) refl (lit≤ tt) (lit< tt) refl t
      ∷ tag_is r 1 3 3 (lit< tt) refl (lit≤ tt) (lit< tt) refl t
      ∷ tag_is r 5 2 0 (lit< tt) refl (lit≤ tt) (lit< tt) refl t
      ∷ tag_is r 5 2 1 (lit< tt) refl (lit≤ tt) (lit< tt) refl t
      ∷ tag_is r 5 2 2 (lit< tt) refl (lit≤ tt) (lit< tt) refl t
      ∷ needed r 8 (lit< tt) refl (entries-said r 8 1 tt refl) t
      ∷ values-is r 0 3 (lit≤ tt) (entries-said r 9 3 tt refl) t
      ∷ values-is r 1 4 (lit≤ tt) (entries-said r 10 4 tt refl) t
      ∷ values-is r 2 1 (lit≤ tt) (entries-said r 11 1 tt refl) t
      ∷ [])
      ∙ sym (by_entries none f 12 (form-count r))

  pub mesh-is : FormIn l 3 f c → mesh_form l.mesh_weights (mesh_row (row_of 3 (marks_of 3 f c)) alone 0) ≡ f
  unfolding word_of words_from entries_from chosen
  mesh-is r =
      (λ t.
      needed r 0 (lit< tt) refl (two_said r 0 refl) t
      ∷ needed r 1 (lit< tt) refl (entries-said r 1 1 tt refl) t
      ∷ [])
      ∙ sym (by_entries none f 2 (form-count r))

  pub primitive-is : FormIn l 4 f c
      → primitive_form l.words l.floats (primitive_row (row_of 4 (marks_of 4 f c)) alone 0) ≡ f
  unfolding word_of words_from entries_from chosen
  primitive-is r =
      (λ t.
      needed r 0 (lit< tt) refl (entries-said r 0 3 tt refl) t
      ∷ optional r 1 (entries-said r 1 3 tt refl) t
      ∷ optional r 2 (entries-said r 2 4 tt refl) t
      ∷ optional r 3 (entries-said r 3 4 tt refl) t
      ∷ optional r 4 (entries-said r 4 4 tt refl) t
      ∷ needed r 5 (lit< tt) refl (two_said r 5 refl) t
      ∷ [])
      ∙ sym (by_entries none f 6 (form-count r))

  pub target_is : FormIn l 5 f c → target_form l.floats (target_row (row_of 5 (marks_of 5 f c)) alone 0) ≡ f
  unfolding word_of words_from entries_from chosen
  target_is r =
      (λ t.
      optional r 0 (entries-said r 0 3 tt refl) t
      ∷ optional r 1 (entries-said r 1 3 tt refl) t
      ∷ optional r 2 (entries-said r 2 3 tt refl) t
      ∷ needed r 3 (lit< tt) refl (two_said r 3 refl) t
      ∷ [])
      ∙ sym (by_entries none f 4 (form-count r))

  pub between_is : FormIn l 6 f c → in_between_form l.floats (in_between_row (row_of 6 (marks_of 6 f c)) alone 0) ≡ f
  unfolding word_of words_from entries_from chosen
  between_is r =
      (λ t.
      needed r 0 (lit< tt) refl (exact-said r 0 1 tt refl) t
      ∷ optional r 1 (entries-said r 1 3 tt refl) t
      ∷ optional r 2 (entries-said r 2 3 tt refl) t
      ∷ [])
      ∙ sym (by_entries none f 3 (form-count r))

  pub skin-is : FormIn l 7 f c → skin_form (skin_row (row_of 7 (marks_of 7 f c)) alone 0) ≡ f
  unfolding word_of words_from entries_from
  skin-is r =
      (λ t. needed r 0 (lit< tt) refl (one-said r 0 refl) t ∷ optional r 1 (one-said r 1 refl) t ∷ [])
      ∙ sym (by_entries none f 2 (form-count r))

  pub skeleton-is : FormIn l 8 f c
      → skeleton_form l.words l.floats (skeleton_row (row_of 8 (marks_of 8 f c)) alone 0) ≡ f
  unfolding word_of words_from entries_from chosen
  skeleton-is r =
      (λ t.
      needed r 0 (lit< tt) refl (entries-said r 0 1 tt refl) t
      ∷ needed r 1 (lit< tt) refl (entries-said r 1 16 tt refl) t
      ∷ [])
      ∙ sym (by_entries none f 2 (form-count r))
