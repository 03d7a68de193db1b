-- What the reader answers, and leaves in the slices, by the number that it found. Assumes nothing.
use mathlib.Core.Path.{◌≡◌, refl, sym, ap, ◌∙◌}
use mathlib.Core.Bool.{Bool, true, false, ◌||◌, true≢false}
use mathlib.Core.List.{List}
use Rattle.std.proofs.Common.{Result, Ok}
use Rattle.std.specs.Result.{IsErrAnd}
use Prim.Native.Nat.{ℕ, ◌+◌, ◌≤◌, min}
use native.Mathlib.Omega.{arith}
use borrow.Author.Tests.{ne_eqb, ltb-false}
use lib.Dec.{eqb}
use lib.ListN.{length}
use Rattle.borrowed.specs.Slices.{Change}
use Rattle.model.specs.Lists.{pick}
use Rattle.model.specs.Refusals.{number, bad_form, out_of_table, short_output}
use Rattle.refusals.specs.Drawn.{number_of}
use Rattle.refusals.specs.declared.Refusal.{Refusal}
use Rattle.refusals.proofs.Told.{not-none, passed-on}
use Rattle.brackets.specs.declared.Met.{Met}
use Rattle.scene_forms.specs.declared.Found.{Found}
use Rattle.spelling.specs.Pushed.{farthest}
use Rattle.scene_forms.specs.Read.{Slices, DocumentRead}
use Rattle.scene_text.specs.declared.Contents.{Contents}
use Rattle.scene_text.specs.declared.Lengths.{Lengths}
use Rattle.scene_text.specs.Scanned.{Scanned, is_reading, leaves_table, words_of_counts, room_in, lengths_from}
use Rattle.scene_text.specs.Scanned.{is_short, unread_for, number_for, accepted_from}
use Rattle.scene_text.specs.Reading.{read, lengths_of, needed_by, read_number, laid_in, accepted_as, answer_of, told_by}
use Rattle.scene_text.specs.Reading.{refused_by, SceneRead, needed_as, room_of}
use Rattle.scene_text.proofs.ReadLaws.{lengths-told, number-told, room-told, read_is, slices-told, accepted-told}

-- ---- where nothing is refused

-- the text has a reading, and no slice is short
record Clear (reading short : Bool) : Type 0 where
  reads : reading ≡ true
  fits : short ≡ false

clear-by : (a b c : Bool)
    → pick a (pick b (number out_of_table) (pick c (number short_output) 0)) (number bad_form) ≡ 0 → Clear a c
clear-by true true c h = absurd (omega arith)
clear-by true false true h = absurd (omega arith)
clear-by true false false h = record { reads = refl; fits = refl }
clear-by false b c h = absurd (omega arith)

-- what is drawn whatever the slices are
unread-clear : (a b : Bool) → pick a (pick b (number out_of_table) 0) (number bad_form) ≡ 0 → a ≡ true
unread-clear true b h = refl
unread-clear false b h = absurd (omega (arith, h))

-- comes first
pub first-drawn : (a b c : Bool) (n : ℕ) → (n ≡ 0 → ⊥)
    → n ≡ pick a (pick b (number out_of_table) 0) (number bad_form)
    → n ≡ pick a (pick b (number out_of_table) (pick c (number short_output) 0)) (number bad_form)
first-drawn true true c n h e = e
first-drawn true false c n h e = absurd (h e)
first-drawn false b c n h e = e

pub last-drawn : (a b c : Bool) → 0 ≡ pick a (pick b (number out_of_table) 0) (number bad_form)
    → pick c (number short_output) 0
    ≡ pick a (pick b (number out_of_table) (pick c (number short_output) 0)) (number bad_form)
last-drawn true true c e = absurd (omega (arith, e))
last-drawn true false c e = refl
last-drawn false b c e = absurd (omega (arith, e))

or-first : (a b : Bool) → (a || b) ≡ false → a ≡ false
or-first true b h = absurd (true≢false h)
or-first false b h = refl

module _ (len : ℕ) (f : Found) (lent : Lengths) (h : 0 ≡ number_for len f lent) where
  clear : Clear (is_reading len f) (is_short lent (lengths_from f))
  clear = clear-by (is_reading len f) (leaves_table f) (is_short lent (lengths_from f)) (sym h)

  -- the places of all words are words
  pub words-fit : f.place.counts.ids + words_of_counts 0 f.counts ≤ 0xffff_ffff
  words-fit =
      let x = f.place.counts.ids + words_of_counts 0 f.counts in
      let l = ltb-false (room_in lent.words) (min x farthest) (or-first _ _ clear.fits) in
      omega arith

-- ---- a scene

pub scene-refused : {text : List ℕ} {l : Change Slices} (r : Result Contents Refusal) (e : Refusal)
    → IsErrAnd r (λ y. y ≡ e) → number_of e ≡ read_number text (lengths_of l.from) → l.to ≡ l.from
    → SceneRead text l (answer_of r)
scene-refused {text} {l} r e p h k =
    let no = sym (ne_eqb (read_number text (lengths_of l.from)) 0 (λ z. not-none e (h ∙ z))) in
    record {
      answer = ap answer_of (passed-on r e p) ∙ (λ i. pick (no i) (accepted_as (read text)) (refused_by (h i)));
      slices = k ∙ (λ i. pick (no i) (laid_in (read text) l.from) l.from);
    }

pub scene-accepted : {text : List ℕ} {f : Found} {met : Met} {l : Change Slices} {g : Found} {r : Contents}
    → Scanned text f → DocumentRead text f.place.counts.ids met l g
    → 0 ≡ number_for (length text) f (lengths_of l.from) → r ≡ accepted_from f → SceneRead text l (answer_of (Ok r))
scene-accepted {text} {f} {l = l} s g e a =
    let lent = lengths_of l.from in
    let reads = (clear (length text) f lent e).reads in
    let is = sym (read_is s reads) in
    let yes = ap (λ (m : ℕ). eqb m 0) (e ∙ number-told s lent) in
    let long = ap (λ (n : Lengths). n.words) (lengths-told s) in
    record {
      answer = ap (λ (x : Contents). answer_of (Ok x)) a ∙ accepted-told s reads
          ∙ (λ i. pick (yes i) (accepted_as (is i)) (refused_by (read_number text lent)));
      slices = slices-told s g (omega (arith, words-fit (length text) f lent e))
          ∙ (λ i. pick (yes i) (laid_in (is i) l.from) l.from);
    }

-- ---- how much room a text needs

abbrev pub no_lengths : Lengths
no_lengths = record { words = 0; floats = 0; node_weights = 0; mesh_weights = 0 }

module _ {text : List ℕ} {f : Found} (s : Scanned text f) where
  pub room-refused : (r : Result Lengths Refusal) (e : Refusal) → IsErrAnd r (λ y. y ≡ e)
      → number_of e ≡ unread_for (length text) f → told_by r ≡ room_of text
  room-refused r e p h =
      let n = h ∙ room-told s in
      let no = sym (ne_eqb _ 0 (λ z. not-none e (n ∙ z))) in
      ap told_by (passed-on r e p)
      ∙ (λ i. pick (no i) (needed_as 0 (needed_by (read text))) (needed_as (n i) no_lengths))

  pub room-read : {n : Lengths} → 0 ≡ unread_for (length text) f → n ≡ lengths_from f → told_by (Ok n) ≡ room_of text
  room-read h e =
      let none = h ∙ room-told s in
      let reads = unread-clear (is_reading (length text) f) (leaves_table f) (sym h) in
      ap (λ (l : Lengths). told_by (Ok l)) e
      ∙ ap (needed_as 0) (lengths-told s ∙ ap needed_by (sym (read_is s reads)))
      ∙ (λ i. pick (eqb (none i) 0) (needed_as 0 (needed_by (read text))) (needed_as (none i) no_lengths))
