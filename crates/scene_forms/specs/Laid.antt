-- The tables of a document, form by form and field by field: the items of each table one behind the other, and the
-- record of each form; how far its lists of records reach; what its scene form asks for (docs/TEXT.md). Definitions
-- only.
use Rattle.std.specs.Prelude.{List, [], ◌∷◌, ◌++◌, ℕ, suc, ◌+◌, max, eqb, length, get_or}
use Rattle.std.proofs.Math.Option.{none, some}
use Rattle.model.specs.Lists.{pick}
use Rattle.grammar.specs.Forms.{Field, Form, Document}
use Rattle.scene_schema.specs.declared.Pool.{Pool}
use Rattle.scene_schema.specs.declared.Pool.TheVariants as pool
use Rattle.scene_marks.specs.declared.Mark.{Mark}
use Rattle.scene_marks.specs.Marks.{clear, no_mark, set_mark, row_of}
use Rattle.scene_forms.specs.declared.Counts.{Counts}
use Rattle.scene_forms.specs.declared.Request.{Request}
use Rattle.scene_forms.specs.Filled.{pool_of, start_in, count_items, list_slot}

-- ---- items

abbrev pub items_of : Field → List ℕ
items_of none = []
items_of (some xs) = xs

abbrev pub field_at : Form → ℕ → Field
field_at f j = get_or f j none

abbrev pub item_of : Form → ℕ → ℕ → ℕ
item_of f j o = get_or (items_of (field_at f j)) o 0

abbrev pub pool_number : Pool → ℕ
pool_number pool.Number = 0
pool_number pool.Bits = 1
pool_number pool.Ids = 2
pool_number pool.Floats = 3
pool_number pool.NodeWeights = 4
pool_number pool.MeshWeights = 5

-- the items that go to a pool: of the fields of a form of kind k from slot j on, of forms, of a document from kind k on
unfoldable pub fields_items : Pool → ℕ → ℕ → Form → List ℕ
fields_items p k j [] = []
fields_items p k j (f ∷ fs) =
    pick (eqb (pool_number (pool_of k j)) (pool_number p)) (items_of f) [] ++ fields_items p k (suc j) fs

unfoldable pub forms_items : Pool → ℕ → List Form → List ℕ
forms_items p k [] = []
forms_items p k (f ∷ fs) = fields_items p k 0 f ++ forms_items p k fs

unfoldable pub items_from : Pool → ℕ → Document → List ℕ
items_from p k [] = []
items_from p k (fs ∷ d) = forms_items p k fs ++ items_from p (suc k) d

-- ---- records

abbrev pub no_counts : Counts
no_counts = record { ids = 0; floats = 0; node_weights = 0; mesh_weights = 0 }

-- a field whose items start where the counts say
abbrev pub mark_in : ℕ → ℕ → Field → Counts → Mark
mark_in k j none c = no_mark
mark_in k j (some xs) c = record {
  there = 1;
  start = start_in (pool_of k j) c;
  count = length xs;
  first = get_or xs 0 0;
  second = get_or xs 1 0;
}

abbrev pub count_field : ℕ → ℕ → Field → Counts → Counts
count_field k j none c = c
count_field k j (some xs) c = count_items (pool_of k j) (length xs) c

unfoldable pub count_fields : ℕ → ℕ → Form → Counts → Counts
count_fields k j [] c = c
count_fields k j (f ∷ fs) c = count_fields k (suc j) fs (count_field k j f c)

-- the fields of a form in numbers
unfoldable pub marks_from : ℕ → ℕ → Form → Counts → List Mark → List Mark
marks_from k j [] c marks = marks
marks_from k j (f ∷ fs) c marks =
    marks_from k (suc j) fs (count_field k j f c) (set_mark marks j (mark_in k j f c))

abbrev pub marks_of : ℕ → Form → Counts → List Mark
marks_of k f c = marks_from k 0 f c clear

unfoldable pub forms_rows : ℕ → List Form → Counts → List ℕ
forms_rows k [] c = []
forms_rows k (f ∷ fs) c = row_of k (marks_of k f c) ++ forms_rows k fs (count_fields k 0 f c)

unfoldable pub count_forms : ℕ → List Form → Counts → Counts
count_forms k [] c = c
count_forms k (f ∷ fs) c = count_forms k fs (count_fields k 0 f c)

unfoldable pub rows_from : ℕ → Document → Counts → List ℕ
rows_from k [] c = []
rows_from k (fs ∷ d) c = forms_rows k fs c ++ rows_from (suc k) d (count_forms k fs c)

-- ---- lists of records

-- how far the lists of forms of kind k reach: first and count of each
unfoldable pub reach_of : ℕ → List Form → ℕ
reach_of k [] = 0
reach_of k (f ∷ fs) = max (item_of f (list_slot k) 0 + item_of f (list_slot k) 1) (reach_of k fs)

unfoldable pub reaches_from : ℕ → Document → List ℕ
reaches_from k [] = []
reaches_from k (fs ∷ d) = reach_of k fs ∷ reaches_from (suc k) d

-- ---- what is asked for

-- of a scene form that comes first
abbrev pub request_of : Form → Request
request_of f = record {
  node = item_of f 0 0;
  time = item_of f 1 0;
  roots_at = 0;
  roots = length (items_of (field_at f 2));
}
