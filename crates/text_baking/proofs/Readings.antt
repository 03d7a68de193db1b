-- A text that draws nothing before it is baked: its tables have room, and the slices that were read into hold them.
-- Assumes nothing.
use mathlib.Core.Path.{◌≡◌, refl, sym, ap, subst, ◌∙◌}
use mathlib.Core.Bool.{Bool, true, false, not, ◌||◌}
use mathlib.Core.List.{List, [], ◌∷◌}
use mathlib.Core.Option.{Option, none, some}
use Prim.Native.Nat.{ℕ, ◌≤◌}
use native.Mathlib.Omega.{arith}
use borrow.Author.Tests.{eq-eqb, le-ltb}
use lib.Dec.{T}
use lib.Ieee.{Float}
use lib.ListN.{length, take, replicate, length-replicate}
use lib.Seq.{sets, length-sets}
use Rattle.std.proofs.Common.{Ok, Err}
use Rattle.borrowed.specs.Slices.{Change}
use Rattle.float.specs.F32.{zero32}
use Rattle.model.specs.Lists.{pick, is_some, or_else}
use Rattle.model.specs.Refusals.{number, bad_form, out_of_table, short_output, first_of}
use Rattle.refusals.specs.declared.Refusal.{Refusal}
use Rattle.refusals.proofs.Told.{not-none}
use Rattle.checks.specs.Drawn.{lent_as}
use Rattle.grammar.specs.Forms.{Document}
use Rattle.grammar.specs.Shape.{Reads}
use Rattle.grammar.specs.Parsed.{reading_of}
use Rattle.grammar.proofs.Found.{found-reads}
use Rattle.spelling.specs.Pushed.{Out, pushes}
use Rattle.scene_schema.specs.Schema.{kinds}
use Rattle.scene_forms.specs.Read.{Slices}
use Rattle.scene_forms.specs.Said.{tables_of, leaves}
use Rattle.scene_forms.proofs.StoreLaws.{front}
use Rattle.scene_text.specs.declared.Reading.{Reading}
use Rattle.scene_text.specs.declared.Needed.{Needed}
use Rattle.scene_text.specs.declared.Contents.{Contents}
use Rattle.scene_text.specs.declared.Lengths.{Lengths}
use Rattle.scene_text.specs.Scanned.{room_in, is_short}
use Rattle.scene_text.specs.Reading.{read, lengths_of, needed_by, read_number, SceneRead, laid_in}
use Rattle.scene_text.specs.Reading.{accepted_as, refused_by, answer_of, needed_as, told_by, room_of}
use Rattle.text_sizes.specs.Few.{FewerThan}
use Rattle.text_sizes.proofs.Tables.{tables-few}
use Rattle.text_baking.specs.Printed.{text_limit, float_room, Readable, bake_text, baked_text}

-- ---- a reading

tests-clear : (a b : Bool)
    → first_of (record { applies = not a; refusal = bad_form } ∷ record { applies = b; refusal = out_of_table } ∷ []) ≡ 0
    → (a ≡ true) × (b ≡ false)
unfolding first_of
tests-clear true true h = absurd (omega (arith, h))
tests-clear true false h = (refl, refl)
tests-clear false b h = absurd (omega (arith, h))

some_of : (o : Option Document) → is_some o ≡ true → o ≡ some (or_else o [])
some_of (some d) h = refl
some_of none h = absurd (subst T (sym h) tt)

module _ (text : List ℕ) (h : Readable text) where
  clear : (is_some (reading_of kinds text) ≡ true) × (leaves (read text) ≡ false)
  clear = tests-clear (is_some (reading_of kinds text)) (leaves (read text)) h.reads

  pub stays : leaves (read text) ≡ false
  stays = clear.1

  pub reads : Reads kinds text (read text)
  reads = found-reads kinds text (read text) (some_of (reading_of kinds text) clear.0)

  pub few : FewerThan (length text) (read text)
  few =
      subst (λ (t : List ℕ). FewerThan (length t) (read text)) reads.spelled
      (tables-few (read text) reads.fits reads.shaped)

-- ---- room

-- the room that a text is read into
abbrev pub room_lengths : Lengths
room_lengths = record { words = text_limit; floats = float_room; node_weights = float_room; mesh_weights = float_room }

pub zeros-long : lengths_of (record {
  words = replicate text_limit 0;
  floats = replicate float_room zero32;
  node_weights = replicate float_room zero32;
  mesh_weights = replicate float_room zero32;
}) ≡ room_lengths
zeros-long = λ j. record {
  words = length-replicate {A = ℕ} text_limit 0 j;
  floats = length-replicate {A = Float} float_room zero32 j;
  node_weights = length-replicate {A = Float} float_room zero32 j;
  mesh_weights = length-replicate {A = Float} float_room zero32 j;
}

none-short : (text : List ℕ) (h : Readable text) → is_short room_lengths (needed_by (read text)) ≡ false
none-short text h =
    let n = needed_by (read text) in
    let f = few text h in
    let a = le-ltb (room_in text_limit) n.words (omega (arith, f.words, h.short)) in
    let b = le-ltb (room_in float_room) n.floats (omega (arith, f.floats, h.short)) in
    let c = le-ltb (room_in float_room) n.node_weights (omega (arith, f.node_weights, h.short)) in
    let d = le-ltb (room_in float_room) n.mesh_weights (omega (arith, f.mesh_weights, h.short)) in
    (λ j. a j || (b j || (c j || d j)))

no_number : (a b c : Bool) → (a ≡ true) × (b ≡ false) → c ≡ false
    → first_of (record { applies = not a; refusal = bad_form } ∷ record { applies = b; refusal = out_of_table }
    ∷ record { applies = c; refusal = short_output } ∷ []) ≡ 0
unfolding first_of
no_number a b c e f =
    λ j. pick (not (e.0 j)) (number bad_form) (pick (e.1 j) (number out_of_table) (pick (f j) (number short_output) 0))

-- ---- what was read

-- a table stands at the start of its slice
pub record Stored {A : Type 0} (table : List A) (slice : List A) (n : ℕ) : Type 0 where
  pub inside : n ≤ length slice
  pub taken : take n slice ≡ table

pub reach : {A : Type 0} {xs ys : List A} {n : ℕ} → n ≤ length ys → xs ≡ ys → n ≤ length xs
reach h e = omega (arith, h, ap length e)

stands : {A : Type 0} (lent slice table : List A) (n room : ℕ) → slice ≡ sets lent 0 table → n ≡ length table
    → length lent ≡ room → length table ≤ room → Stored table slice n
stands lent slice table n room e l r h = record {
  inside = omega (arith, ap length e, length-sets lent 0 table);
  taken = ap (take n) e ∙ front lent table n l (omega arith);
}

module _ {text : List ℕ} (h : Readable text) {c : Change Slices} (lent : lengths_of c.from ≡ room_lengths) where
  module _ {r : Reading} (took : SceneRead text c r) where
    zero_is : read_number text (lengths_of c.from) ≡ 0
    zero_is =
        ap (read_number text) lent
        ∙ no_number (is_some (reading_of kinds text)) (leaves (read text))
        (is_short room_lengths (needed_by (read text))) (clear text h) (none-short text h)

    answer : r ≡ accepted_as (read text)
    answer = took.answer ∙ (λ j. pick (eq-eqb _ 0 zero_is j) (accepted_as (read text)) (refused_by (zero_is j)))

    filled : c.to ≡ laid_in (read text) c.from
    filled = took.slices ∙ (λ j. pick (eq-eqb _ 0 zero_is j) (laid_in (read text) c.from) c.from)

  -- nothing is refused
  pub none-refused : (e : Refusal) → SceneRead text c (answer_of (Err e)) → ⊥
  none-refused e took = not-none e (ap (λ (r : Reading). r.number) (answer took))

module _ {text : List ℕ} (h : Readable text) {n : Lengths} (told : told_by (Ok n) ≡ room_of text) {c : Change Slices}
    {r : Contents} (took : SceneRead text c (answer_of (Ok r))) (lent : lengths_of c.from ≡ room_lengths) where
  needs : told_by (Ok n) ≡ needed_as 0 (needed_by (read text))
  needs =
      told
      ∙ (λ j. pick (eq-eqb _ 0 h.reads j) (needed_as 0 (needed_by (read text)))
      (needed_as (h.reads j) (record { words = 0; floats = 0; node_weights = 0; mesh_weights = 0 })))

  pub words-in : Stored (tables_of (read text)).words c.to.words n.words
  words-in =
      let f = (few text h).words in
      stands c.from.words c.to.words (tables_of (read text)).words n.words text_limit
      (ap (λ (s : Slices). s.words) (filled h lent took)) (omega (arith, ap (λ (x : Needed). x.words) needs, h.short))
      (ap (λ (x : Lengths). x.words) lent) (omega (arith, h.short))

  pub floats-in : Stored (tables_of (read text)).floats c.to.floats n.floats
  floats-in =
      let f = (few text h).floats in
      stands c.from.floats c.to.floats (tables_of (read text)).floats n.floats float_room
      (ap (λ (s : Slices). s.floats) (filled h lent took)) (ap (λ (x : Needed). x.floats) needs)
      (ap (λ (x : Lengths). x.floats) lent) (omega (arith, h.short))

  pub node-weights-in : Stored (tables_of (read text)).node_weights c.to.node_weights n.node_weights
  node-weights-in =
      let f = (few text h).node_weights in
      stands c.from.node_weights c.to.node_weights (tables_of (read text)).node_weights n.node_weights float_room
      (ap (λ (s : Slices). s.node_weights) (filled h lent took)) (ap (λ (x : Needed). x.node_weights) needs)
      (ap (λ (x : Lengths). x.node_weights) lent) (omega (arith, h.short))

  pub mesh-weights-in : Stored (tables_of (read text)).mesh_weights c.to.mesh_weights n.mesh_weights
  mesh-weights-in =
      let f = (few text h).mesh_weights in
      stands c.from.mesh_weights c.to.mesh_weights (tables_of (read text)).mesh_weights n.mesh_weights float_room
      (ap (λ (s : Slices). s.mesh_weights) (filled h lent took)) (ap (λ (x : Needed). x.mesh_weights) needs)
      (ap (λ (x : Lengths). x.mesh_weights) lent) (omega (arith, h.short))

  -- what is printed of the tables is what is printed of the document
  text-is : bake_text (lent_as (take n.words c.to.words) (take n.floats c.to.floats)
      (take n.node_weights c.to.node_weights) (take n.mesh_weights c.to.mesh_weights) r.header)
      r.node r.time ≡ baked_text (read text)
  unfolding baked_text
  text-is =
      λ j. bake_text (lent_as (words-in.taken j) (floats-in.taken j) (node-weights-in.taken j)
      (mesh-weights-in.taken j) (answer h lent took j).header) (answer h lent took j).node (answer h lent took j).time

  pub put-read : (out : Out) {left : Out} {words : List ℕ} {floats node_weights mesh_weights : List Float}
      → left ≡ pushes (bake_text (lent_as (take n.words words) (take n.floats floats)
      (take n.node_weights node_weights) (take n.mesh_weights mesh_weights) r.header)
      r.node r.time) out
      → words ≡ c.to.words → floats ≡ c.to.floats → node_weights ≡ c.to.node_weights
      → mesh_weights ≡ c.to.mesh_weights → left ≡ pushes (baked_text (read text)) out
  put-read out p a b d e =
      p
      ∙ (λ j. pushes (bake_text (lent_as (take n.words (a j)) (take n.floats (b j)) (take n.node_weights (d j))
      (take n.mesh_weights (e j)) r.header) r.node r.time) out)
      ∙ ap (λ (bs : List ℕ). pushes bs out) text-is
