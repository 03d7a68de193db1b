-- The fields of a form: the letters of a name, the items of a field, a field, and the fields one after the other.
-- Assumes nothing.
use mathlib.Core.Path.{◌≡◌, refl, sym, ap, subst, ◌∙◌}
use mathlib.Core.Bool.{Bool, true, false, ◌&&◌}
use mathlib.Core.List.{List, [], ◌∷◌, ◌++◌, map, map-id}
use mathlib.Core.Option.{none, some}
use Prim.Native.Nat.{ℕ, suc, ◌+◌, ◌*◌, ◌≤◌, ◌<◌}
use native.Mathlib.Numerals.{add-one}
use native.Mathlib.Omega.{arith}
use borrow.Author.Tests.{eq-eqb, ne_eqb}
use lib.Dec.{eqb}
use lib.Ieee.{Float, binary32, of_bits}
use lib.ListN.{length, get_or, drop, drop_of_length-le}
use lib.Seq.{drop-cons, sets, set_out, length-sets}
use Rattle.borrowed.specs.Slices.{Change}
use Rattle.model.specs.Lists.{pick}
use Rattle.grammar.specs.Digits.{Sort, numbers, floats, base_of, items_text}
use Rattle.grammar.specs.Forms.{Size, Slot, Field, Form}
use Rattle.grammar.specs.Shape.{sorted, sized}
use Rattle.grammar.specs.Parsed.{Got, got, onto, code_of, name_in, items_in, field_in, fields_in}
use Rattle.brackets.specs.declared.Listed.{Listed}
use Rattle.brackets.specs.declared.Met.{Met}
use Rattle.brackets.specs.declared.Spelling.{Spelling}
use Rattle.brackets.specs.Met.{meet, meets, judge}
use Rattle.brackets.specs.Read.{Passed, WordRead, ItemsRead, items_at}
use Rattle.brackets.proofs.MeetingLaws.{meets-append}
use Rattle.brackets.proofs.ReadingLaws.{stay, further}
use Rattle.scene_schema.specs.declared.Pool.{Pool}
use Rattle.scene_schema.specs.declared.Rule.{Rule}
use Rattle.scene_schema.specs.declared.Pool.TheVariants as pool
use Rattle.scene_schema.specs.Schema.{no_slot, kind_at, slot_at}
use Rattle.scene_schema.specs.Numbers.{Named, slot_names, slot_rules, no_name, no_rule}
use Rattle.scene_schema.specs.Numbers.{size_for, sort_of}
use Rattle.scene_schema.proofs.Numbers.{SlotTold}
use Rattle.scene_marks.specs.declared.Mark.{Mark}
use Rattle.scene_marks.specs.Marks.{clear, no_mark, set_mark}
use Rattle.scene_forms.specs.declared.Counts.{Counts}
use Rattle.scene_forms.specs.declared.Spot.{Spot}
use Rattle.scene_forms.specs.declared.Entry.{Entry}
use Rattle.scene_forms.specs.Filled.{Tables, start_in, count_items, tables_as, store_items, put_items, Filled}
use Rattle.scene_forms.specs.Filled.{mark_of, put_field, put_fields}
use Rattle.scene_forms.specs.declared.Tables as code
use Rattle.scene_forms.specs.Read.{Slices, SameSlices, tables_at, SameLengths, ItemsPut, mark_for, behind_items, Within}
use Rattle.scene_forms.specs.Read.{filled_at, FieldRead, marked_at, FieldsRead}

-- ---- the items of a field
sets-out : {A : Type 0} (cells : List A) (k : ℕ) (xs : List A) → length cells ≤ k → sets cells k xs ≡ cells
sets-out cells k [] h = refl
sets-out cells k (x ∷ xs) h = rw (set_out cells k x) (sets-out cells (suc k) xs (omega arith))

stays : {A : Type 0} {f : ℕ → A} {s : Sort} {text : List ℕ} {at : ℕ} {met : Met} {lent left : List A} {r : Listed}
    → ItemsRead f s text at (length lent) met lent left r → left ≡ lent
stays {f = f} {s} {text} {at} {lent = lent} i =
    i.filled ∙ sets-out lent (length lent) (map f (items_at s text at).made) (omega arith)

put-as : {A : Type 0} {f : ℕ → A} {text : List ℕ} {at n : ℕ} {p : Pool} {c : Counts} {met : Met} {lent left : List A}
    {s : Change Slices} {r : Listed} → ItemsRead f (sort_of p) text at n met lent left r
    → tables_at s.to ≡ store_items p (items_at (sort_of p) text at).made (tables_at s.from c)
    → ItemsPut text at p c met s r
put-as i e = record {
  counted = i.counted;
  first = i.first;
  second = i.second;
  sorts = i.sorts;
  compared = i.compared;
  passed = i.passed;
  stored = e;
  few = i.few;
}

-- the slices as they are lent, and as they are left
abbrev pub from-to : List ℕ → List Float → List Float → List Float → List ℕ → List Float → List Float → List Float
    → Change Slices
from-to w f n m w' f' n' m' = record {
  from = record { words = w; floats = f; node_weights = n; mesh_weights = m };
  to = record { words = w'; floats = f'; node_weights = n'; mesh_weights = m' };
}

-- each to its table; a number, or a float's bits, behind the end of one
module _ {text : List ℕ} {at : ℕ} {p : Pool} {c : Counts} {met : Met} {w : List ℕ} {f n m : List Float}
    {r : Listed} where
  pub number_put : {left : List ℕ} → p ≡ pool.Number
      → ItemsRead (λ (x : ℕ). x) numbers text at (length w) met w left r
      → ItemsPut text at p c met (from-to w f n m left f n m) r
  number_put e i = rw e (put-as i (ap (λ (l : List ℕ). tables_as l f n m) (stays i)))

  pub bits_put : {left : List Float} → p ≡ pool.Bits
      → ItemsRead (of_bits binary32) floats text at (length f) met f left r
      → ItemsPut text at p c met (from-to w f n m w left n m) r
  bits_put e i = rw e (put-as i (ap (λ (l : List Float). tables_as w l n m) (stays i)))

  pub ids-put : {left : List ℕ} → p ≡ pool.Ids → ItemsRead (λ (x : ℕ). x) numbers text at c.ids met w left r
      → ItemsPut text at p c met (from-to w f n m left f n m) r
  ids-put e i =
      let filled = i.filled ∙ ap (sets w c.ids) (map-id (items_at numbers text at).made) in
      rw e (put-as i (ap (λ (l : List ℕ). tables_as l f n m) filled))

  pub floats-put : {left : List Float} → p ≡ pool.Floats
      → ItemsRead (of_bits binary32) floats text at c.floats met f left r
      → ItemsPut text at p c met (from-to w f n m w left n m) r
  floats-put e i = rw e (put-as i (ap (λ (l : List Float). tables_as w l n m) i.filled))

  pub node-weights-put : {left : List Float} → p ≡ pool.NodeWeights
      → ItemsRead (of_bits binary32) floats text at c.node_weights met n left r
      → ItemsPut text at p c met (from-to w f n m w f left m) r
  node-weights-put e i = rw e (put-as i (ap (λ (l : List Float). tables_as w f l m) i.filled))

  pub mesh-weights-put : {left : List Float} → p ≡ pool.MeshWeights
      → ItemsRead (of_bits binary32) floats text at c.mesh_weights met m left r
      → ItemsPut text at p c met (from-to w f n m w f n left) r
  mesh-weights-put e i = rw e (put-as i (ap (λ (l : List Float). tables_as w f n l) i.filled))

pub same-more : (a b d : code.Tables) → SameSlices a b → SameSlices b d → SameSlices a d
same-more a b d p q = (q.0 ∙ p.0, q.1 ∙ p.1, q.2 ∙ p.2, q.3 ∙ p.3)

pub long-stays : (s : Slices) → SameLengths (record { from = s; to = s })
long-stays s = record { words = refl; floats = refl; node_weights = refl; mesh_weights = refl }

pub long-more : {a b c : Slices} → SameLengths (record { from = a; to = b }) → SameLengths (record { from = b; to = c })
    → SameLengths (record { from = a; to = c })
long-more p q = record {
  words = q.words ∙ p.words;
  floats = q.floats ∙ p.floats;
  node_weights = q.node_weights ∙ p.node_weights;
  mesh_weights = q.mesh_weights ∙ p.mesh_weights;
}

abbrev slices_of : Tables → Slices
slices_of t =
    record { words = t.words; floats = t.floats; node_weights = t.node_weights; mesh_weights = t.mesh_weights }

items-long : (p : Pool) (xs : List ℕ) (s : Slices) (c : Counts)
    → SameLengths (record { from = s; to = slices_of (store_items p xs (tables_at s c) c) })
items-long pool.Number xs s c = long-stays s
items-long pool.Bits xs s c = long-stays s
items-long pool.Ids xs s c = search length-sets
items-long pool.Floats xs s c = search length-sets
items-long pool.NodeWeights xs s c = search length-sets
items-long pool.MeshWeights xs s c = search length-sets

module _ {text : List ℕ} {at : ℕ} {c : Counts} (w : Within text at c) where
  start-low : (p : Pool) → start_in p c ≤ at
  start-low pool.Number = omega arith
  start-low pool.Bits = omega arith
  start-low pool.Ids = omega arith
  start-low pool.Floats = omega arith
  start-low pool.NodeWeights = omega arith
  start-low pool.MeshWeights = omega arith

  within_on : (p : Pool) (n : ℕ) {next : ℕ} → at + n ≤ next → next ≤ length text → Within text next (count_items p n c)
  within_on pool.Number n h l = omega arith
  within_on pool.Bits n h l = omega arith
  within_on pool.Ids n h l = omega arith
  within_on pool.Floats n h l = omega arith
  within_on pool.NodeWeights n h l = omega arith
  within_on pool.MeshWeights n h l = omega arith

-- ---- a field

-- some items put, as a slot with this name, sort and size asks
abbrev put_as : List ℕ → Pool → Sort → Size → List ℕ → List ℕ → Filled → Filled
put_as text p sort size name xs s =
    let m = meets text (32 ∷ 40 ∷ name ++ items_text sort xs) s.met in
    record {
      tables = put_items p xs s.tables;
      met = meet text 41 m;
      shape = judge (sorted sort xs && sized size (length xs)) m.at s.shape;
    }

abbrev mark_as : Pool → Counts → ℕ → ℕ → ℕ → Mark
mark_as p c count first second =
    record { there = 1; start = start_in p c; count = count; first = first; second = second }

-- behind a space, the name that stands there
module _ {text : List ℕ} (s : Spot) {a : ℕ} {w : Spelling}
    (b : Passed text s.next a (drop 1 (drop s.next text))) (r : WordRead text a (name_in (drop a text)) w)
    (h : Within text s.next s.counts) where
  -- it is the slot's, or not
  compared : (t : Slot) (v : Bool) → eqb w.value (code_of t.name) ≡ v
      → field_in (length text) t (drop s.next text)
      ≡ pick v (got (some (items_at t.sort text w.next).made) (items_at t.sort text w.next).rest)
      (got none (drop s.next text))
  unfolding field_in
  compared t v e =
      let field : Bool → List ℕ → Got Field = λ x l.
      let g = items_in (length text) (base_of t.sort) l in
      pick x (got (some g.made) g.rest) (got none (drop s.next text)) in
      ap (λ (l : List ℕ). field (eqb (name_in l).made (code_of t.name)) (name_in l).rest) (sym b.left)
      ∙ (λ i. field (eqb (sym r.told i) (code_of t.name)) (sym r.passed.left i))
      ∙ ap (λ (x : Bool). field x (drop w.next text)) e

  -- there cannot be more items than bytes
  pub items-fit : {p : Pool} {met : Met} {l : Change Slices} {i : Listed}
      → ItemsPut text w.next p s.counts met l i → start_in p s.counts + i.count ≤ length text
  items-fit {p} put =
      let inside = put.passed.inside (r.passed.inside (b.inside h.inside)) in
      omega (arith, start-low h p, b.forth, r.passed.forth, put.few)

  module _ {k j : ℕ} (t : SlotTold k j) {name : Named} (en : name ≡ get_or slot_names (16 * k + j) no_name) where
    code_is : name.code ≡ code_of (slot_at k j).name
    code_is = ap (λ (x : Named). x.code) en ∙ t.code

    pub field-missing : {l : Slices} {mark : Mark} → (w.value ≡ name.code → ⊥) → mark ≡ no_mark
        → FieldRead text k j s (record { from = l; to = l }) (record { spot = s; mark = mark })
    field-missing {l} d e =
        let test = ne_eqb w.value (code_of (slot_at k j).name) (λ x. d (x ∙ sym code_is)) in
        let same = sym (compared (slot_at k j) false test) in
        record {
          filled = ap (λ (g : Got Field). put_field text k j g.made (filled_at l s)) same;
          marked = e ∙ ap (λ (g : Got Field). mark_of k j g.made (filled_at l s)) same;
          passed =
              subst (Passed text s.next s.next) (ap (λ (g : Got Field). g.rest) same) (stay text s.next);
          within = h;
          long = long-stays l;
        }

    pub field-there : {rule : Rule} {spaced opened met : Met} {l : Change Slices} {i : Listed} {q : Spot} {mark : Mark}
        → w.value ≡ name.code → rule ≡ get_or slot_rules (16 * k + j) no_rule → spaced ≡ meet text 32 s.met
        → opened ≡ meet text 40 spaced → met ≡ meets text (name.letters) opened
        → ItemsPut text w.next rule.pool s.counts met l i → q ≡ behind_items text rule s i
        → mark ≡ mark_for rule.pool s.counts i → FieldRead text k j s l (record { spot = q; mark = mark })
    unfolding meets
    field-there {rule} {l = l} {i} d er e₁ e₂ e₃ put eq ek =
        let test = eq-eqb w.value (code_of (slot_at k j).name) (d ∙ code_is) in
        let same = sym (compared (slot_at k j) true test) in
        let p = rule.pool in
        let f = filled_at l.from s in
        let xs : Sort → List ℕ = λ x. (items_at x text w.next).made in
        let sort = ap (λ (x : Rule). sort_of x.pool) er ∙ t.sort in
        let size = ap (λ (x : Rule). size_for x) er ∙ t.size in
        let letters = ap (λ (x : Named). x.letters) en ∙ t.letters in
        let tail = items_text (sort_of p) (xs (sort_of p)) in
        let upto : i.met ≡ meets text (32 ∷ 40 ∷ name.letters ++ tail) s.met
        = put.compared ∙ ap (meets text tail) (e₃ ∙ ap (meets text (name.letters)) (e₂ ∙ ap (meet text 40) e₁))
        ∙ sym (meets-append text (name.letters) tail (meet text 40 (meet text 32 s.met))) in
        let passed = further b (further r.passed put.passed) in
        let rest =
        ap (λ (x : Sort). (items_at x text w.next).rest) sort ∙ ap (λ (g : Got Field). g.rest) same in
        rw (eq, ek) (record {
          filled =
              (λ x. record {
                tables = put.stored x (count_items p (put.counted x) s.counts);
                met = meet text 41 (upto x);
                shape = judge (put.sorts x && sized (size_for rule) (put.counted x)) (upto x).at s.shape;
              })
              ∙ (λ x. put_as text (er x).pool (sort x) (size x) (letters x) (xs (sort x)) f)
              ∙ ap (λ (g : Got Field). put_field text k j g.made f) same;
          marked =
              (λ x. mark_as p s.counts (put.counted x) (put.first x) (put.second x))
              ∙ (λ x. let l = xs (sort x) in
              mark_as (er x).pool s.counts (length l) (get_or l 0 0) (get_or l 1 0))
              ∙ ap (λ (g : Got Field). mark_of k j g.made f) same;
          passed = subst (Passed text s.next i.next) rest passed;
          within = within_on h p i.count (omega (arith, b.forth, r.passed.forth, put.few))
              (passed.inside h.inside);
          long =
              subst (λ (o : Slices). SameLengths (record { from = l.from; to = o }))
              (sym (ap (λ (g : Counts → Tables). slices_of (g s.counts)) put.stored))
              (items-long p (xs (sort_of p)) l.from s.counts);
        })

-- ---- the fields one after the other

-- what is still to be put makes up what was to be put
pub record FieldsGoing (text : List ℕ) (k : ℕ) (p : Spot) (l : Change Slices) (marks : List Mark) (q : Spot) (j : ℕ)
    : Type 0 where
  pub marked : put_fields text k j (fields_in (length text) (drop j (kind_at k).slots) (drop q.next text)).made
      (marked_at l.to q marks)
      ≡ put_fields text k 0 (fields_in (length text) (kind_at k).slots (drop p.next text)).made
      (marked_at l.from p clear)
  pub rest : (fields_in (length text) (drop j (kind_at k).slots) (drop q.next text)).rest
      ≡ (fields_in (length text) (kind_at k).slots (drop p.next text)).rest
  pub forth : p.next ≤ q.next
  pub within : Within text q.next q.counts
  pub long : SameLengths l

pub fields-start : {text : List ℕ} (k : ℕ) {p : Spot} (l : Slices) → Within text p.next p.counts
    → FieldsGoing text k p (record { from = l; to = l }) clear p 0
fields-start k l h = record {
  marked = refl;
  rest = refl;
  forth = omega arith;
  within = h;
  long = long-stays l;
}

module _ {text : List ℕ} {k : ℕ} {p : Spot} {l : Change Slices} {marks : List Mark} {q : Spot} {j : ℕ}
    (g : FieldsGoing text k p l marks q j) where
  pub fields-more : {to : Slices} {next : List Mark} {e : Entry} → j < length (kind_at k).slots
      → FieldRead text k j q (record { from = l.to; to = to }) e → next ≡ set_mark marks j e.mark
      → FieldsGoing text k p (record { from = l.from; to = to }) next e.spot (j + 1)
  unfolding fields_in put_fields
  fields-more {e = e} h r m =
      let n = length text in
      let ts = (kind_at k).slots in
      let f = (field_in n (slot_at k j) (drop q.next text)).made in
      let then = fields_in n (drop (j + 1) ts) (drop e.spot.next text) in
      let cons : fields_in n (drop j ts) (drop q.next text) ≡ onto f then
      = ap (λ (x : List Slot). fields_in n x (drop q.next text)) (drop-cons ts j no_slot h)
      ∙ (λ i. onto f (fields_in n (drop (sym (add-one j) i) ts) (sym r.passed.left i))) in
      record {
        marked =
            (λ i. put_fields text k (add-one j i) then.made (record {
              marks = (m ∙ ap (set_mark marks j) r.marked) i;
              filled = r.filled i;
            }))
            ∙ ap (λ (x : Got Form). put_fields text k j x.made (marked_at l.to q marks)) (sym cons) ∙ g.marked;
        rest = ap (λ (x : Got Form). x.rest) (sym cons) ∙ g.rest;
        forth = omega (arith, r.passed.forth, g.forth);
        within = r.within;
        long = long-more g.long r.long;
      }

  pub fields-done : length (kind_at k).slots ≤ j → FieldsRead text k p l (record { spot = q; marks = marks })
  unfolding fields_in put_fields
  fields-done h =
      let s = drop q.next text in
      let end : fields_in (length text) (drop j (kind_at k).slots) s ≡ got [] (drop 2 s)
      = ap (λ (x : List Slot). fields_in (length text) x s) (drop_of_length-le (kind_at k).slots h) in
      record {
        marked = ap (λ (x : Got Form). put_fields text k j x.made (marked_at l.to q marks)) (sym end) ∙ g.marked;
        rest = ap (λ (x : Got Form). x.rest) (sym end) ∙ g.rest;
        forth = g.forth;
        within = g.within;
        long = g.long;
      }
