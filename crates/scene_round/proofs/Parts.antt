-- The parts of a record lie in their slices, and have as many entries as its form says. Assumes nothing.
use mathlib.Core.Path.{◌≡◌, refl, sym, ap, ◌∙◌}
use mathlib.Core.Bool.{Bool, true, false, ◌&&◌}
use mathlib.Core.List.{List}
use mathlib.Core.Option.{none, some}
use Prim.Native.Nat.{ℕ, suc, ◌+◌, ◌*◌, ◌/◌, ◌≤◌, ◌<◌}
use native.Mathlib.Nat.{mod-eq_of_lt, mul-div_cancel, mul-le-mul_left, mul-one}
use native.Mathlib.Omega.{arith}
use borrow.Author.Tests.{leb-true, le-leb, eqb-true}
use lib.Dec.{eqb, leb}
use lib.Ieee.{Float, binary32, to_bits}
use lib.ListN.{length, get_or, length-map}
use Rattle.model.specs.Lists.{pick}
use Rattle.model.specs.Limits.{vertex_limit}
use Rattle.model.proofs.Tests.{both}
use Rattle.tracks.specs.declared.Part.{Part}
use Rattle.tables.specs.declared.Slot.{Slot}
use Rattle.tables.specs.Tags.{is_marked}
use Rattle.tables.specs.Decoded.{Lent, span_in}
use Rattle.row_checks.specs.Places.{fits_in, slot_fits}
use Rattle.row_checks.specs.Bounds.{is_known, slot_within}
use Rattle.grammar.specs.Forms.{Field, Form}
use Rattle.scene_schema.specs.Numbers.{slot_counts}
use Rattle.scene_marks.specs.declared.Mark.{Mark}
use Rattle.scene_marks.specs.Marks.{mark_at, chosen}
use Rattle.scene_forms.specs.declared.Counts.{Counts}
use Rattle.scene_forms.specs.Filled.{pool_of}
use Rattle.scene_forms.specs.Laid.{items_of, field_at, marks_of}
use Rattle.scene_forms.proofs.MarkLaws.{there_in}
use Rattle.scene_spelling.specs.Written.{bits_of, there, listed, slot_field}
use Rattle.scene_round.proofs.Placed.{Table}
use Rattle.scene_round.proofs.Groups.{chosen-few}
use Rattle.scene_round.proofs.Filling.{part-long, marked-fits}
use Rattle.scene_round.proofs.Fields.{cut, rule_at, room_of, FormIn, laid, first_word, second_word, start_is}
use Rattle.scene_round.proofs.Fields.{is-there, grouped}

-- a part lies in a slice that is so long, and has as many entries as the part p of another slice
pub record Alike (q p : Part) (w room : ℕ) : Type 0 where
  pub fits : fits_in q w room ≡ true
  pub count : q.count ≡ p.count

-- the same where it is there, and within its limits where the slot s is
pub record SlotAlike (q s : Slot) (w room : ℕ) : Type 0 where
  pub fits : slot_fits q w room ≡ true
  pub within : slot_within s ≡ true → slot_within q ≡ true

-- as a record says them, by the mark of a slot
abbrev pub part_as : ℕ → Mark → Part
part_as w m = record { at = cut m.start; count = cut (m.count / w) }

abbrev pub slot_as : ℕ → Mark → Slot
slot_as w m = record { mark = cut m.there; part = part_as w m }

abbrev pub listed_as : Mark → Part
listed_as m = record { at = cut m.first; count = cut m.second }

known-there : (x : Field) → is_known (cut (there_in x)) 1 ≡ true
known-there none = refl
known-there (some xs) = refl

there-true : (b : Bool) (xs ys : List ℕ) → there b xs ≡ some ys → b ≡ true
there-true true xs ys e = refl
there-true false xs ys e = cc

numbers-long : {A : Type 0} (l : List A) (p : Part) (w : ℕ) → fits_in p w (length l) ≡ true
    → length (span_in l p w) ≡ p.count * w
numbers-long l p w h =
    part-long l p.at (p.count * w) (leb-true (p.at + p.count * w) (length l) h)

floats-long : (l : List Float) (p : Part) (w : ℕ) → fits_in p w (length l) ≡ true
    → length (bits_of (span_in l p w)) ≡ p.count * w
floats-long l p w h = length-map (span_in l p w) (to_bits binary32) ∙ numbers-long l p w h

module _ {l : Lent} {k : ℕ} {f : Form} {c : Counts} (r : FormIn l k f c) where
  -- a mark is 0 or 1
  pub mark-known : (j : ℕ) → is_known (cut (mark_at (marks_of k f c) j).there) 1 ≡ true
  mark-known j = ap (λ (n : ℕ). is_known (cut n) 1) (is-there r j) ∙ known-there (field_at f j)

  -- a tag is the number of the one that is there
  pub tag-number : (j n o : ℕ) → j < get_or slot_counts k 0 → (rule_at k j).one_of ≡ suc n → o ≤ n → n < 16
      → (xs : List ℕ) → field_at f (j + o) ≡ some xs → cut (chosen (marks_of k f c) j n) ≡ o
  tag-number j n o h e u b xs p =
      let m = cut (chosen (marks_of k f c) j n) in
      let here = grouped r j n o h e u b (λ i. items_of (field_at f (j + i))) (λ ys q. ap items_of q) in
      eqb-true m o (there-true (eqb m o) _ xs (here ∙ p))

  pub chosen_is : (j n o : ℕ) → j < get_or slot_counts k 0 → (rule_at k j).one_of ≡ suc n → o ≤ n → n < 16
      → (xs : List ℕ) → field_at f (j + o) ≡ some xs → chosen (marks_of k f c) j n ≡ o
  chosen_is j n o h e u b xs p =
      let near : chosen (marks_of k f c) j n < 0x1_0000_0000 = omega (arith, chosen-few (marks_of k f c) j n) in
      sym (mod-eq_of_lt near) ∙ tag-number j n o h e u b xs p

  pub tag-known : (j n : ℕ) → n < 16 → is_known (cut (chosen (marks_of k f c) j n)) n ≡ true
  tag-known j n b =
      let m = chosen (marks_of k f c) j n in
      let few : m ≤ n = chosen-few (marks_of k f c) j n in
      let near : m < 0x1_0000_0000 = omega arith in
      le-leb (cut m) n (omega (arith, mod-eq_of_lt near))

  -- the first and how many of a list of records
  pub listed-is : (j : ℕ) (p : Part) → field_at f j ≡ listed p → listed_as (mark_at (marks_of k f c) j) ≡ p
  listed-is j p e = λ i. record {
    at = (first_word r j ∙ ap (λ (x : Field). get_or (items_of x) 0 0) e) i;
    count = (second_word r j ∙ ap (λ (x : Field). get_or (items_of x) 1 0) e) i;
  }

  -- so many items from where those of slot j start
  pub exact-fits : (j n : ℕ) (xs : List ℕ) → Table (pool_of k j) → field_at f j ≡ some xs → length xs ≡ n
      → fits_in (record { at = cut (mark_at (marks_of k f c) j).start; count = n }) 1 (room_of (pool_of k j) l) ≡ true
  exact-fits j n xs t e long =
      le-leb (cut (mark_at (marks_of k f c) j).start + n * 1) (room_of (pool_of k j) l)
      (omega (arith, start_is r j xs t e, r.inside j xs t e))

  part-alike : (j w : ℕ) (p : Part) (xs : List ℕ) → Table (pool_of k j) → 0 < w → field_at f j ≡ some xs
      → length xs ≡ p.count * w → Alike (part_as w (mark_at (marks_of k f c) j)) p w (room_of (pool_of k j) l)
  part-alike j w p xs t pos e long =
      let m = mark_at (marks_of k f c) j in
      let many : m.count / w ≡ p.count =
      ap (λ (m : Mark). m.count / w) (laid r j xs e)
      ∙ ap (λ (n : ℕ). n / w) long
      ∙ mul-div_cancel p.count pos in
      let near : p.count < 0x1_0000_0000 =
      omega (arith, r.short j xs t e, mul-le-mul_left p.count pos, mul-one p.count) in
      let count : cut (m.count / w) ≡ p.count = ap cut many ∙ mod-eq_of_lt near in
      let size : cut (m.count / w) * w ≡ p.count * w = ap (λ (n : ℕ). n * w) count in
      record {
        fits = le-leb (cut m.start + cut (m.count / w) * w) (room_of (pool_of k j) l)
            (omega (arith, start_is r j xs t e, r.inside j xs t e));
        count = count;
      }

  slot-alike : (j w : ℕ) (s : Slot) (xs : List ℕ) → Table (pool_of k j) → 0 < w
      → field_at f j ≡ there (is_marked s.mark) xs
      → (is_marked s.mark ≡ true → length xs ≡ s.part.count * w)
      → SlotAlike (slot_as w (mark_at (marks_of k f c) j)) s w (room_of (pool_of k j) l)
  slot-alike j w s xs t pos e long = go (is_marked s.mark) refl e long
    where
      m : Mark
      m = mark_at (marks_of k f c) j

      go : (b : Bool) → is_marked s.mark ≡ b → field_at f j ≡ there b xs → (b ≡ true → length xs ≡ s.part.count * w)
          → SlotAlike (slot_as w m) s w (room_of (pool_of k j) l)
      go true a e long =
          let p = part-alike j w s.part xs t pos e (long refl) in
          let marked : cut m.there ≡ 1 = ap cut (is-there r j ∙ ap there_in e) in
          record {
            fits =
                ap (λ (n : ℕ). pick (is_marked n) (fits_in (part_as w m) w (room_of (pool_of k j) l)) true) marked
                ∙ p.fits;
            within = λ h.
                (λ i. pick (is_marked (marked i)) (is_known (marked i) 1 && leb (p.count i) vertex_limit) true)
                ∙ (both (is_known s.mark 1) (leb s.part.count vertex_limit)
                (sym (ap (λ (b : Bool). pick b (is_known s.mark 1 && leb s.part.count vertex_limit) true) a) ∙ h)
                ).1;
          }
      go false a e long =
          let absent : cut m.there ≡ 0 = ap cut (is-there r j ∙ ap there_in e) in
          record {
            fits = ap (λ (n : ℕ). pick (is_marked n) (fits_in (part_as w m) w (room_of (pool_of k j) l)) true) absent;
            within = λ h.
                ap (λ (n : ℕ). pick (is_marked n) (is_known n 1 && leb (part_as w m).count vertex_limit) true) absent;
          }

  -- ---- fields of a record of another scene

  pub numbers-alike : (j w : ℕ) (words : List ℕ) (p : Part) → Table (pool_of k j) → 0 < w
      → field_at f j ≡ some (span_in words p w) → fits_in p w (length words) ≡ true
      → Alike (part_as w (mark_at (marks_of k f c) j)) p w (room_of (pool_of k j) l)
  numbers-alike j w words p t pos e h =
      part-alike j w p (span_in words p w) t pos e (numbers-long words p w h)

  pub floats_alike : (j w : ℕ) (floats : List Float) (p : Part) → Table (pool_of k j) → 0 < w
      → field_at f j ≡ some (bits_of (span_in floats p w)) → fits_in p w (length floats) ≡ true
      → Alike (part_as w (mark_at (marks_of k f c) j)) p w (room_of (pool_of k j) l)
  floats_alike j w floats p t pos e h =
      part-alike j w p (bits_of (span_in floats p w)) t pos e (floats-long floats p w h)

  pub joints-alike : (j w : ℕ) (words : List ℕ) (s : Slot) → Table (pool_of k j) → 0 < w
      → field_at f j ≡ there (is_marked s.mark) (span_in words s.part w) → slot_fits s w (length words) ≡ true
      → SlotAlike (slot_as w (mark_at (marks_of k f c) j)) s w (room_of (pool_of k j) l)
  joints-alike j w words s t pos e h =
      slot-alike j w s (span_in words s.part w) t pos e
      (λ a.
      numbers-long words s.part w (marked-fits (is_marked s.mark) (fits_in s.part w (length words)) h a))

  pub rows_alike : (j w : ℕ) (floats : List Float) (s : Slot) → Table (pool_of k j) → 0 < w
      → field_at f j ≡ slot_field floats s w → slot_fits s w (length floats) ≡ true
      → SlotAlike (slot_as w (mark_at (marks_of k f c) j)) s w (room_of (pool_of k j) l)
  rows_alike j w floats s t pos e h =
      slot-alike j w s (bits_of (span_in floats s.part w)) t pos e
      (λ a.
      floats-long floats s.part w (marked-fits (is_marked s.mark) (fits_in s.part w (length floats)) h a))
