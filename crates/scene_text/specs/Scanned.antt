-- What one pass over a text tells, and what is drawn from it. Definitions only.
use Rattle.std.specs.Prelude.{Bool, true, ◌&&◌, ◌||◌, List, [], ◌∷◌, ℕ, suc, ◌+◌, ◌*◌, ◌%◌, min, ltb, eqb, get_or}
use Rattle.std.specs.Float.{binary32}
use Rattle.std.specs.Float.Ieee.{of_bits}
use Rattle.borrowed.specs.Slices.{Change}
use Rattle.model.specs.Lists.{pick}
use Rattle.model.specs.Refusals.{number, bad_form, out_of_table, short_output}
use Rattle.brackets.specs.Met.{met_at}
use Rattle.scene_marks.specs.Marks.{stride_of}
use Rattle.scene_forms.specs.declared.Found.{Found}
use Rattle.spelling.specs.Pushed.{farthest}
use Rattle.scene_forms.specs.Read.{Slices, DocumentRead}
use Rattle.scene_forms.specs.Said.{header_from, table_at}
use Rattle.scene_text.specs.declared.Contents.{Contents}
use Rattle.scene_text.specs.declared.Lengths.{Lengths}

-- all that is made of the text, put into some slices, and the text compared from its start
pub record Scanned (text : List ℕ) (f : Found) : Type 0 where
  pub slices : Change Slices
  pub read : DocumentRead text 0 (met_at 0 true) slices f

-- a text of so many bytes is that of what was made of it, which has its shape, with one scene form
abbrev pub is_reading : ℕ → Found → Bool
is_reading len f =
    f.place.met.ok && (eqb f.place.met.at len && (f.place.shape.ok && eqb (get_or f.counts 0 0) 1))

abbrev pub leaves_table : Found → Bool
leaves_table f =
    ltb (get_or f.counts 4 0) (get_or f.reaches 3 0)
    || (ltb (get_or f.counts 5 0) (get_or f.reaches 4 0) || ltb (get_or f.counts 6 0) (get_or f.reaches 5 0))

-- the words of so many records of each kind, from kind k on
unfoldable pub words_of_counts : ℕ → List ℕ → ℕ
words_of_counts k [] = 0
words_of_counts k (n ∷ ns) = n * stride_of k + words_of_counts (suc k) ns

-- with the ids, or a number that no slice has room for
abbrev pub words_for : ℕ → List ℕ → ℕ
words_for ids counts = min (ids + words_of_counts 0 counts) farthest

-- a place is a word of 32 bits, so that no table has room for more
abbrev pub room_in : ℕ → ℕ
room_in len = min len 0xffff_ffff

-- how long the tables are
abbrev pub lengths_from : Found → Lengths
lengths_from f = record {
  words = words_for f.place.counts.ids f.counts;
  floats = f.place.counts.floats;
  node_weights = f.place.counts.node_weights;
  mesh_weights = f.place.counts.mesh_weights;
}

abbrev pub is_short : Lengths → Lengths → Bool
is_short lent needed =
    ltb (room_in lent.words) needed.words
    || (ltb (room_in lent.floats) needed.floats
    || (ltb (room_in lent.node_weights) needed.node_weights
    || ltb (room_in lent.mesh_weights) needed.mesh_weights))

-- the number that is drawn whatever the slices are, and with slices of such lengths
abbrev pub unread_for : ℕ → Found → ℕ
unread_for len f = pick (is_reading len f) (pick (leaves_table f) (number out_of_table) 0) (number bad_form)

abbrev pub number_for : ℕ → Found → Lengths → ℕ
number_for len f lent =
    pick (is_reading len f)
    (pick (leaves_table f) (number out_of_table) (pick (is_short lent (lengths_from f)) (number short_output) 0))
    (number bad_form)

-- where the tables lie, and what is asked for
abbrev pub accepted_from : Found → Contents
accepted_from f = record {
  header = header_from f.place.counts.ids (table_at 0 f.place.request.roots) (λ k. get_or f.counts k 0);
  node = f.place.request.node % 0x1_0000_0000;
  time = of_bits binary32 (f.place.request.time % 0x1_0000_0000);
}
