-- What the reader draws, leaves in the tables and answers, from what its passes over the text tell. Assumes nothing.
use mathlib.Core.Path.{◌≡◌, refl, sym, ap, subst, ◌∙◌}
use mathlib.Core.Bool.{Bool, true, false, ◌&&◌, ◌||◌, not, true≢false}
use mathlib.Core.List.{List, [], ◌∷◌, map}
use mathlib.Core.Option.{Option, none, some}
use Rattle.std.proofs.Common.{Ok}
use Prim.Native.Nat.{ℕ, suc, ◌+◌, ◌*◌, ◌%◌, ◌≤◌, ◌<◌, min}
use native.Mathlib.Nat.{mod-eq_of_lt}
use native.Mathlib.Omega.{arith}
use borrow.Author.Tests.{lt-ltb, le-ltb, ltb-true, ltb-false}
use lib.Dec.{T, eqb, ltb, eqb→eq}
use lib.Ieee.{binary32, of_bits}
use lib.ListN.{length, get_or, length-append, length-map}
use Rattle.borrowed.specs.Slices.{Change}
use Rattle.model.specs.Lists.{pick, or_else, is_some}
use Rattle.model.specs.Refusals.{Test, number, bad_form, out_of_table, short_output, first_of}
use Rattle.grammar.specs.Forms.{Document, FitsKinds}
use Rattle.grammar.specs.Parsed.{parsed, is_text, reading_of}
use Rattle.grammar.proofs.Found.{made-fits}
use Rattle.brackets.specs.declared.Met.{Met}
use Rattle.scene_schema.specs.declared.Pool.TheVariants as pool
use Rattle.scene_schema.specs.Schema.{kinds, kind_at}
use Rattle.scene_marks.specs.Marks.{stride_of}
use Rattle.scene_forms.specs.declared.Found.{Found}
use Rattle.scene_forms.specs.declared.Request.{Request}
use Rattle.scene_forms.specs.declared.Counts.{Counts}
use Rattle.spelling.specs.Pushed.{farthest}
use Rattle.scene_forms.specs.Filled.{Whole, reals_of, put_document}
use Rattle.scene_forms.specs.Laid.{item_of, items_from, rows_from, no_counts, request_of}
use Rattle.scene_forms.specs.Said.{ids_of, tables_of, header_from, table_at, header_of, count_of, scene_form, leaves}
use Rattle.scene_forms.specs.Read.{Slices, DocumentRead, whole_at, start_at}
use Rattle.scene_forms.proofs.TextLaws.{item-small, document-request}
use Rattle.scene_forms.proofs.TableLaws.{document-laid, whole_words, row_words, rows_long}
use Rattle.scene_text.specs.declared.Lengths.{Lengths}
use Rattle.scene_text.specs.Scanned.{Scanned, is_reading, words_of_counts, room_in, lengths_from, is_short}
use Rattle.scene_text.specs.Scanned.{unread_for, number_for, accepted_from}
use Rattle.scene_text.specs.Reading.{read, needed_by, read_number, laid_in}
use Rattle.scene_text.specs.Reading.{answer_of, accepted_as, room_tests}
use Rattle.scene_text.proofs.ScanLaws.{count_at, told-counts, told-leaves, reading-told}

-- ---- lengths

count-words : (k : ℕ) (d : Document) → words_of_counts k (map length d) ≡ row_words k d
unfolding words_of_counts row_words
count-words k [] = refl
count-words k (fs ∷ d) = ap (λ (n : ℕ). length fs * stride_of k + n) (count-words (suc k) d)

-- a number past the end of any slice is no more short than what it stands for
far-short : (len x : ℕ) → ltb (room_in len) (min x farthest) ≡ ltb (room_in len) x
far-short len x = go (ltb (room_in len) x) refl
  where
    go : (t : Bool) → ltb (room_in len) x ≡ t → ltb (room_in len) (min x farthest) ≡ t
    go true e = lt-ltb (room_in len) (min x farthest) (let h = ltb-true (room_in len) x e in omega arith)
    go false e = le-ltb (room_in len) (min x farthest) (let h = ltb-false (room_in len) x e in omega arith)

words_long : (d : Document) → length (tables_of d).words ≡ length (ids_of d) + row_words 0 d
unfolding tables_of
words_long d =
    length-append (ids_of d) (rows_from 0 d no_counts) ∙ ap (λ (n : ℕ). length (ids_of d) + n) (rows_long 0 d no_counts)

module _ {text : List ℕ} {f : Found} (s : Scanned text f) where
  abbrev d : Document
  d = parsed kinds text

  words-told : f.place.counts.ids + words_of_counts 0 f.counts ≡ length (tables_of d).words
  words-told =
      (λ i. (told-counts s.read i).ids + (ap (words_of_counts 0) s.read.counted ∙ count-words 0 d) i)
      ∙ sym (words_long d)

  reals-long : (xs : List ℕ) → length xs ≡ length (reals_of xs)
  reals-long xs = sym (length-map xs (of_bits binary32))

  -- the lengths of the tables
  abbrev pub told : Lengths
  told = record {
    words = f.place.counts.ids + words_of_counts 0 f.counts;
    floats = f.place.counts.floats;
    node_weights = f.place.counts.node_weights;
    mesh_weights = f.place.counts.mesh_weights;
  }

  pub lengths-told : told ≡ needed_by d
  unfolding tables_of
  lengths-told = λ i. record {
    words = words-told i;
    floats = (ap (λ (c : Counts). c.floats) (told-counts s.read) ∙ reals-long (items_from pool.Floats 0 d)) i;
    node_weights =
        (ap (λ (c : Counts). c.node_weights) (told-counts s.read)
        ∙ reals-long (items_from pool.NodeWeights 0 d)) i;
    mesh_weights =
        (ap (λ (c : Counts). c.mesh_weights) (told-counts s.read)
        ∙ reals-long (items_from pool.MeshWeights 0 d)) i;
  }

  pub short-told : (lent : Lengths) → is_short lent (lengths_from f) ≡ is_short lent (needed_by d)
  short-told lent =
      ap (λ (b : Bool). b || (ltb (room_in lent.floats) told.floats
      || (ltb (room_in lent.node_weights) told.node_weights
      || ltb (room_in lent.mesh_weights) told.mesh_weights)))
      (far-short lent.words told.words)
      ∙ ap (is_short lent) lengths-told

  -- the tests, by what has been found of a reading
  abbrev tests : Lengths → Option Document → List Test
  tests lent o =
      record { applies = not (is_some o); refusal = bad_form }
      ∷ record { applies = leaves (or_else o []); refusal = out_of_table }
      ∷ record { applies = is_short lent (needed_by (or_else o [])); refusal = short_output }
      ∷ []

  pub number-told : (lent : Lengths) → number_for (length text) f lent ≡ read_number text lent
  unfolding first_of reading_of
  number-told lent =
      (λ i. pick (reading-told s i)
      (pick (told-leaves s.read i) (number out_of_table) (pick (short-told lent i) (number short_output) 0))
      (number bad_form))
      ∙ go (is_text kinds text d)
    where
      go : (t : Bool)
          → pick t (pick (leaves d) (number out_of_table) (pick (is_short lent (needed_by d)) (number short_output) 0))
          (number bad_form)
          ≡ first_of (tests lent (pick t (some d) none))
      go true = refl
      go false = refl

  pub room-told : unread_for (length text) f ≡ first_of (room_tests text)
  unfolding first_of reading_of
  room-told =
      (λ i. pick (reading-told s i) (pick (told-leaves s.read i) (number out_of_table) 0) (number bad_form))
      ∙ go (is_text kinds text d)
    where
      go : (t : Bool) → pick t (pick (leaves d) (number out_of_table) 0) (number bad_form)
          ≡ first_of (record { applies = not (is_some (pick {A = Option Document} t (some d) none)); refusal = bad_form }
          ∷ record { applies = leaves (or_else (pick t (some d) none) []); refusal = out_of_table }
          ∷ [])
      go true = refl
      go false = refl

  -- where it is a reading, it is what was made of the text
  pub read_is : is_reading (length text) f ≡ true → read text ≡ d
  unfolding reading_of
  read_is e = ap (λ (t : Bool). or_else (pick t (some d) none) []) (sym (reading-told s) ∙ e)

  -- ---- the tables

  -- the second pass fills them
  pub slices-told : {met : Met} {l : Change Slices} {g : Found} → DocumentRead text f.place.counts.ids met l g
      → length (tables_of d).words ≤ farthest → l.to ≡ laid_in d l.from
  unfolding tables_of
  slices-told {met} {l} {g} r h =
      let w : Whole = whole_at l.from [] (start_at f.place.counts.ids met) in
      let t = document-laid text 0 d w in
      let ids : f.place.counts.ids ≡ length (ids_of d) = ap (λ (c : Counts). c.ids) (told-counts s.read) in
      let bound : f.place.counts.ids + length (rows_from 0 d no_counts) ≤ farthest
      = omega (arith, h, ids, length-append (ids_of d) (rows_from 0 d no_counts)) in
      λ i. record {
        words = (ap (λ (x : Whole). x.read.filled.tables.words) r.read ∙ whole_words text d w refl ids bound) i;
        floats = (ap (λ (x : Whole). x.read.filled.tables.floats) r.read ∙ t.floats) i;
        node_weights = (ap (λ (x : Whole). x.read.filled.tables.node_weights) r.read ∙ t.node_weights) i;
        mesh_weights = (ap (λ (x : Whole). x.read.filled.tables.mesh_weights) r.read ∙ t.mesh_weights) i;
      }

-- ---- what is asked for

request-of : (text : List ℕ) (d : Document) → FitsKinds kinds d → count_of d 0 ≡ 1 → (w : Whole)
    → w.read.filled.tables.counts ≡ no_counts → (put_document text 0 d w).read.request ≡ request_of (scene_form d)
unfolding kinds
request-of text [] k h w z = absurd k
request-of text ([] ∷ d) k h w z = absurd (omega arith)
request-of text ((g ∷ []) ∷ d) k h w z = document-request text g d w k z
request-of text ((g ∷ i ∷ fs) ∷ d) k h w z = absurd (omega arith)

-- an item of the scene form is a word
scene-small : (d : Document) → FitsKinds kinds d → (j o : ℕ) → item_of (scene_form d) j o < 0x1_0000_0000
unfolding kinds
scene-small [] k j o = absurd k
scene-small ([] ∷ d) k j o = nothing j o
  where
    nothing : (j o : ℕ) → item_of [] j o < 0x1_0000_0000
    nothing j o = omega arith
scene-small ((g ∷ fs) ∷ d) k j o = item-small (kind_at 0).slots g j o k.0.0

and_last : (a b c e : Bool) → (a && (b && (c && e))) ≡ true → e ≡ true
and_last true true true e h = h
and_last true true false e h = absurd (true≢false (sym h))
and_last true false c e h = absurd (true≢false (sym h))
and_last false b c e h = absurd (true≢false (sym h))

module _ {text : List ℕ} {f : Found} (s : Scanned text f) (h : is_reading (length text) f ≡ true) where
  pub accepted-told : answer_of (Ok (accepted_from f)) ≡ accepted_as (parsed kinds text)
  unfolding header_of
  accepted-told =
      let d = parsed kinds text in
      let fits = made-fits (length text) kinds text in
      let n : (k : ℕ) → get_or f.counts k 0 ≡ count_of d k
      = λ k. ap (λ (c : List ℕ). get_or c k 0) s.read.counted ∙ count_at d k in
      let one : count_of d 0 ≡ 1
      = sym (n 0) ∙ eqb→eq _ 1 (subst T (sym (and_last f.place.met.ok (eqb f.place.met.at (length text))
      f.place.shape.ok (eqb (get_or f.counts 0 0) 1) h)) tt) in
      let r : f.place.request ≡ request_of (scene_form d)
      = ap (λ (w : Whole). w.read.request) s.read.read ∙ request-of text d fits one _ refl in
      let ids : f.place.counts.ids ≡ length (ids_of d) = ap (λ (c : Counts). c.ids) (told-counts s.read) in
      λ i. record {
        number = 0;
        header = header_from (ids i) (table_at 0 (r i).roots) (λ k. n k i);
        node = (ap (λ (q : Request). q.node % 0x1_0000_0000) r ∙ mod-eq_of_lt (scene-small d fits 0 0)) i;
        time = of_bits binary32
            ((ap (λ (q : Request). q.time % 0x1_0000_0000) r ∙ mod-eq_of_lt (scene-small d fits 1 0)) i);
      }
