-- What reading a document fills, field by field and form by form: the items of each table one behind the other, the
-- record of each form, and how the text compares with the document's. A store past the end of a slice is left out, so
-- that the same measures and fills. Definitions only.
use Rattle.std.specs.Prelude.{List, [], ◌∷◌, ◌++◌, map, ℕ, suc, ◌+◌, ◌*◌, ◌%◌, max, ltb, eqb, Float, length, get_or}
use Rattle.std.proofs.Math.Option.{none, some}
use Rattle.std.specs.Float.{binary32}
use Rattle.std.specs.Float.Ieee.{of_bits}
use Rattle.std.proofs.lemmas.List.Edits.{sets}
use Rattle.model.specs.Lists.{pick}
use Rattle.grammar.specs.Digits.{items_text}
use Rattle.grammar.specs.Forms.{Field, Form, Document}
use Rattle.grammar.specs.Shape.{field_holds}
use Rattle.spelling.specs.Pushed.{farthest}
use Rattle.brackets.specs.declared.Met.{Met}
use Rattle.brackets.specs.Met.{meet, meets, judge}
use Rattle.scene_schema.specs.declared.Pool.{Pool}
use Rattle.scene_schema.specs.declared.Pool.TheVariants as pool
use Rattle.scene_schema.specs.Schema.{kind_at, slot_at}
use Rattle.scene_schema.specs.Numbers.{slot_rules, no_rule}
use Rattle.scene_forms.specs.declared.Counts.{Counts}
use Rattle.scene_marks.specs.declared.Mark.{Mark}
use Rattle.scene_forms.specs.declared.Request.{Request}
use Rattle.scene_marks.specs.Marks.{clear, no_mark, set_mark, mark_at, row_of, stride_of, groups_of}

-- the four slices of a scene, and how far each is filled with items
pub record Tables : Type 0 where
  pub words : List ℕ
  pub floats : List Float
  pub node_weights : List Float
  pub mesh_weights : List Float
  pub counts : Counts

abbrev pub reals_of : List ℕ → List Float
reals_of xs = map (of_bits binary32) xs

-- ---- the items of a field

abbrev pub pool_of : ℕ → ℕ → Pool
pool_of k j = (get_or slot_rules (16 * k + j) no_rule).pool

-- a number, or a float's bits, that goes to no table starts nowhere
abbrev pub start_in : Pool → Counts → ℕ
start_in pool.Number c = 0
start_in pool.Bits c = 0
start_in pool.Ids c = c.ids
start_in pool.Floats c = c.floats
start_in pool.NodeWeights c = c.node_weights
start_in pool.MeshWeights c = c.mesh_weights

abbrev pub counts_as : ℕ → ℕ → ℕ → ℕ → Counts
counts_as ids floats node_weights mesh_weights =
    record { ids = ids; floats = floats; node_weights = node_weights; mesh_weights = mesh_weights }

abbrev pub count_items : Pool → ℕ → Counts → Counts
count_items pool.Number n c = c
count_items pool.Bits n c = c
count_items pool.Ids n c = counts_as (c.ids + n) c.floats c.node_weights c.mesh_weights
count_items pool.Floats n c = counts_as c.ids (c.floats + n) c.node_weights c.mesh_weights
count_items pool.NodeWeights n c = counts_as c.ids c.floats (c.node_weights + n) c.mesh_weights
count_items pool.MeshWeights n c = counts_as c.ids c.floats c.node_weights (c.mesh_weights + n)

abbrev pub tables_as : List ℕ → List Float → List Float → List Float → Counts → Tables
tables_as words floats node_weights mesh_weights counts = record {
  words = words;
  floats = floats;
  node_weights = node_weights;
  mesh_weights = mesh_weights;
  counts = counts;
}

-- the slices alone
abbrev pub store_items : Pool → List ℕ → Tables → Counts → Tables
store_items pool.Number xs t = tables_as t.words t.floats t.node_weights t.mesh_weights
store_items pool.Bits xs t = tables_as t.words t.floats t.node_weights t.mesh_weights
store_items pool.Ids xs t =
    tables_as (sets t.words t.counts.ids xs) t.floats t.node_weights t.mesh_weights
store_items pool.Floats xs t =
    tables_as t.words (sets t.floats t.counts.floats (reals_of xs)) t.node_weights t.mesh_weights
store_items pool.NodeWeights xs t =
    tables_as t.words t.floats (sets t.node_weights t.counts.node_weights (reals_of xs)) t.mesh_weights
store_items pool.MeshWeights xs t =
    tables_as t.words t.floats t.node_weights (sets t.mesh_weights t.counts.mesh_weights (reals_of xs))

abbrev pub put_items : Pool → List ℕ → Tables → Tables
put_items p xs t = store_items p xs t (count_items p (length xs) t.counts)

-- ---- a field

-- the tables, how the text compares, and whether every field and form so far has its shape
pub record Filled : Type 0 where
  pub tables : Tables
  pub met : Met
  pub shape : Met

abbrev pub mark_of : ℕ → ℕ → Field → Filled → Mark
mark_of k j none s = no_mark
mark_of k j (some xs) s = record {
  there = 1;
  start = start_in (pool_of k j) s.tables.counts;
  count = length xs;
  first = get_or xs 0 0;
  second = get_or xs 1 0;
}

-- the text is compared as far as the closing bracket, where the field's shape is judged
abbrev pub put_field : List ℕ → ℕ → ℕ → Field → Filled → Filled
put_field text k j none s = s
put_field text k j (some xs) s =
    let t = slot_at k j in
    let m = meets text (32 ∷ 40 ∷ t.name ++ items_text t.sort xs) s.met in
    record {
      tables = put_items (pool_of k j) xs s.tables;
      met = meet text 41 m;
      shape = judge (field_holds t (some xs)) m.at s.shape;
    }

-- the fields of a form from slot j on, and their marks
pub record Marked : Type 0 where
  pub marks : List Mark
  pub filled : Filled

unfoldable pub put_fields : List ℕ → ℕ → ℕ → Form → Marked → Marked
put_fields text k j [] s = s
put_fields text k j (f ∷ fs) s = put_fields text k (suc j) fs (record {
  marks = set_mark s.marks j (mark_of k j f s.filled);
  filled = put_field text k j f s.filled;
})

-- ---- a form

-- with the place of the next record, how far the lists of records of this kind reach, and what is asked for
pub record Read : Type 0 where
  pub filled : Filled
  pub rows : ℕ
  pub reach : ℕ
  pub request : Request

-- the place of the next record but n words; it stands still where no slice reaches
abbrev pub ahead : ℕ → ℕ → ℕ
ahead at n = pick (ltb at farthest) (at + n) at

-- the slot that lists records of the next kind, first and count; any other kind has none
abbrev pub list_slot : ℕ → ℕ
list_slot k = pick (eqb k 3) 0 (pick (eqb k 4) 5 (pick (eqb k 5) 3 15))

abbrev pub reach_in : ℕ → List Mark → ℕ
reach_in k marks =
    let m = mark_at marks (list_slot k) in m.first % 0x1_0000_0000 + m.second % 0x1_0000_0000

-- of the scene form: node, time, and where the roots are
abbrev pub request_in : ℕ → List Mark → Request → Request
request_in k marks r =
    pick (eqb k 0) (record {
      node = (mark_at marks 0).first;
      time = (mark_at marks 1).first;
      roots_at = (mark_at marks 2).start;
      roots = (mark_at marks 2).count;
    }) r

abbrev pub put_row : ℕ → ℕ → List Mark → Tables → Tables
put_row k at marks t = record {
  words = sets t.words at (row_of k marks);
  floats = t.floats;
  node_weights = t.node_weights;
  mesh_weights = t.mesh_weights;
  counts = t.counts;
}

abbrev pub opened : List ℕ → ℕ → Filled → Marked
opened text k s = record {
  marks = clear;
  filled = record { tables = s.tables; met = meets text (40 ∷ (kind_at k).title) s.met; shape = s.shape };
}

-- its record is put behind those before it, and at its closing bracket its groups are judged
abbrev pub closed : List ℕ → ℕ → Marked → Read → Read
closed text k m r = record {
  filled = record {
    tables = put_row k r.rows m.marks m.filled.tables;
    met = meets text (41 ∷ 10 ∷ []) m.filled.met;
    shape = judge (groups_of k m.marks) m.filled.met.at m.filled.shape;
  };
  rows = ahead r.rows (stride_of k);
  reach = max r.reach (reach_in k m.marks);
  request = request_in k m.marks r.request;
}

unfoldable pub put_form : List ℕ → ℕ → Form → Read → Read
put_form text k f r = closed text k (put_fields text k 0 f (opened text k r.filled)) r

unfoldable pub put_forms : List ℕ → ℕ → List Form → Read → Read
put_forms text k [] r = r
put_forms text k (f ∷ fs) r = put_forms text k fs (put_form text k f r)

-- ---- a document

abbrev pub afresh : Read → Read
afresh r = record { filled = r.filled; rows = r.rows; reach = 0; request = r.request }

-- how far the lists of each kind reach, and all that is read
pub record Whole : Type 0 where
  pub reaches : List ℕ
  pub read : Read

unfoldable pub put_document : List ℕ → ℕ → Document → Whole → Whole
put_document text k [] w = w
put_document text k (fs ∷ d) w =
    let r = put_forms text k fs (afresh w.read) in
    put_document text (suc k) d (record { reaches = w.reaches ++ (r.reach ∷ []); read = r })
