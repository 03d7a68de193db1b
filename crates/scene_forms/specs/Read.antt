-- What the functions that read forms promise. Definitions only.
use Rattle.std.specs.Prelude.{◌≡◌, true, ◌&&◌, List, [], ◌∷◌, map, ℕ, ◌+◌, ◌≤◌, max, Float, length, get_or, drop}
use Rattle.borrowed.specs.Slices.{Words, Floats, Change}
use Rattle.grammar.specs.Digits.{items_text}
use Rattle.grammar.specs.Forms.{Form}
use Rattle.grammar.specs.Shape.{sorted, sized}
use Rattle.grammar.specs.Parsed.{Got, field_in, fields_in, forms_in, document_in, parsed}
use Rattle.brackets.specs.declared.Met.{Met}
use Rattle.brackets.specs.declared.Listed.{Listed}
use Rattle.brackets.specs.Met.{met_at, meet, meets, judge}
use Rattle.brackets.specs.Read.{Passed, items_at}
use Rattle.scene_schema.specs.declared.Pool.{Pool}
use Rattle.scene_schema.specs.declared.Rule.{Rule}
use Rattle.scene_schema.specs.Schema.{kinds, kind_at, slot_at}
use Rattle.scene_schema.specs.Numbers.{titles, no_name, sort_of, size_for}
use Rattle.scene_forms.specs.declared.Tables as code
use Rattle.scene_forms.specs.declared.Counts.{Counts}
use Rattle.scene_marks.specs.declared.Mark.{Mark}
use Rattle.scene_forms.specs.declared.Spot.{Spot}
use Rattle.scene_forms.specs.declared.Entry.{Entry}
use Rattle.scene_forms.specs.declared.Row.{Row}
use Rattle.scene_forms.specs.declared.Place.{Place}
use Rattle.scene_forms.specs.declared.Block.{Block}
use Rattle.scene_forms.specs.declared.Found.{Found}
use Rattle.scene_marks.specs.Marks.{clear, groups_of, stride_of}
use Rattle.scene_forms.specs.Filled.{Tables, tables_as, start_in, count_items, store_items, Filled, mark_of, put_field}
use Rattle.scene_forms.specs.Filled.{Marked, put_fields, Read, ahead, reach_in, request_in, put_form, put_forms}
use Rattle.scene_forms.specs.Filled.{Whole, put_document}

-- ---- the four slices, as they are lent and as they are left

pub record Slices : Type 0 where
  pub words : List ℕ
  pub floats : List Float
  pub node_weights : List Float
  pub mesh_weights : List Float

abbrev pub slices : Words → Floats → Floats → Floats → Change Slices
slices words floats node_weights mesh_weights = record {
  from = record {
    words = words.entry.now;
    floats = floats.entry.now;
    node_weights = node_weights.entry.now;
    mesh_weights = mesh_weights.entry.now;
  };
  to = record {
    words = words.exit.now;
    floats = floats.exit.now;
    node_weights = node_weights.exit.now;
    mesh_weights = mesh_weights.exit.now;
  };
}

-- what the four tables hold, before and after
abbrev pub slices_in : code.Tables → Slices
slices_in t = record {
  words = t.words.now;
  floats = t.floats.now;
  node_weights = t.node_weights.now;
  mesh_weights = t.mesh_weights.now;
}

abbrev pub changed : code.Tables → code.Tables → Change Slices
changed old new = record { from = slices_in old; to = slices_in new }

-- each is the slice that it was
abbrev pub SameSlices : code.Tables → code.Tables → Type 0
SameSlices old new =
    (new.words.ghost_name ≡ old.words.ghost_name) × (new.floats.ghost_name ≡ old.floats.ghost_name)
    × (new.node_weights.ghost_name ≡ old.node_weights.ghost_name)
    × (new.mesh_weights.ghost_name ≡ old.mesh_weights.ghost_name)

abbrev pub tables_at : Slices → Counts → Tables
tables_at s c = tables_as s.words s.floats s.node_weights s.mesh_weights c

-- no slice changes its length
pub record SameLengths (s : Change Slices) : Type 0 where
  pub words : length s.to.words ≡ length s.from.words
  pub floats : length s.to.floats ≡ length s.from.floats
  pub node_weights : length s.to.node_weights ≡ length s.from.node_weights
  pub mesh_weights : length s.to.mesh_weights ≡ length s.from.mesh_weights

-- ---- the items of a field

-- they stand in their table, and the text has been compared with theirs
pub record ItemsPut (text : List ℕ) (at : ℕ) (p : Pool) (c : Counts) (met : Met) (s : Change Slices) (r : Listed)
    : Type 0 where
  pub counted : r.count ≡ length (items_at (sort_of p) text at).made
  pub first : r.first ≡ get_or (items_at (sort_of p) text at).made 0 0
  pub second : r.second ≡ get_or (items_at (sort_of p) text at).made 1 0
  pub sorts : r.sorted ≡ sorted (sort_of p) (items_at (sort_of p) text at).made
  pub compared : r.met ≡ meets text (items_text (sort_of p) (items_at (sort_of p) text at).made) met
  pub passed : Passed text at r.next (items_at (sort_of p) text at).rest
  pub stored : tables_at s.to ≡ store_items p (items_at (sort_of p) text at).made (tables_at s.from c)
  pub few : at + r.count ≤ r.next

abbrev pub mark_for : Pool → Counts → Listed → Mark
mark_for p c l = record {
  there = 1;
  start = start_in p c;
  count = l.count;
  first = l.first;
  second = l.second;
}

abbrev pub behind_items : List ℕ → Rule → Spot → Listed → Spot
behind_items text rule s l = record {
  next = l.next;
  counts = count_items rule.pool l.count s.counts;
  met = meet text 41 l.met;
  shape = judge (l.sorted && sized (size_for rule) l.count) l.met.at s.shape;
}

-- ---- a field, and the fields of a form

-- a place in the text, with no more items in any table than bytes before it
pub record Within (text : List ℕ) (next : ℕ) (c : Counts) : Type 0 where
  pub inside : next ≤ length text
  pub ids : c.ids ≤ next
  pub floats : c.floats ≤ next
  pub node_weights : c.node_weights ≤ next
  pub mesh_weights : c.mesh_weights ≤ next

abbrev pub filled_at : Slices → Spot → Filled
filled_at l s = record { tables = tables_at l s.counts; met = s.met; shape = s.shape }

pub record FieldRead (text : List ℕ) (k j : ℕ) (s : Spot) (l : Change Slices) (r : Entry) : Type 0 where
  pub filled : filled_at l.to r.spot
      ≡ put_field text k j (field_in (length text) (slot_at k j) (drop s.next text)).made (filled_at l.from s)
  pub marked : r.mark
      ≡ mark_of k j (field_in (length text) (slot_at k j) (drop s.next text)).made (filled_at l.from s)
  pub passed : Passed text s.next r.spot.next (field_in (length text) (slot_at k j) (drop s.next text)).rest
  pub within : Within text r.spot.next r.spot.counts
  pub long : SameLengths l

abbrev pub marked_at : Slices → Spot → List Mark → Marked
marked_at l s marks = record { marks = marks; filled = filled_at l s }

-- the fields of a form, as they are made of the text from a place on: `fields_in` passes two bytes more
pub record FieldsRead (text : List ℕ) (k : ℕ) (s : Spot) (l : Change Slices) (r : Row) : Type 0 where
  pub marked : marked_at l.to r.spot r.marks
      ≡ put_fields text k 0 (fields_in (length text) (kind_at k).slots (drop s.next text)).made
      (marked_at l.from s clear)
  pub rest : drop 2 (drop r.spot.next text)
      ≡ (fields_in (length text) (kind_at k).slots (drop s.next text)).rest
  pub forth : s.next ≤ r.spot.next
  pub within : Within text r.spot.next r.spot.counts
  pub long : SameLengths l

-- ---- forms

abbrev pub read_at : Slices → Place → Read
read_at l p = record {
  filled = record { tables = tables_at l p.counts; met = p.met; shape = p.shape };
  rows = p.rows;
  reach = p.reach;
  request = p.request;
}

abbrev pub opened_at : List ℕ → ℕ → Place → Spot
opened_at text k p = record {
  next = p.next;
  counts = p.counts;
  met = meets text (40 ∷ (get_or titles k no_name).letters) p.met;
  shape = p.shape;
}

-- where the fields end, two bytes are passed
abbrev pub closed_at : List ℕ → ℕ → Place → Spot → List Mark → Place → Type 0
closed_at text k p s marks r =
    Passed text s.next r.next (drop 2 (drop s.next text)) × (r ≡ record {
      next = r.next;
      counts = s.counts;
      met = meets text (41 ∷ 10 ∷ []) s.met;
      shape = judge (groups_of k marks) s.met.at s.shape;
      rows = ahead p.rows (stride_of k);
      reach = max p.reach (reach_in k marks);
      request = request_in k marks p.request;
    })

-- a form, from behind its title on
pub record FormRead (text : List ℕ) (k : ℕ) (p : Place) (l : Change Slices) (r : Place) : Type 0 where
  pub read : read_at l.to r
      ≡ put_form text k (fields_in (length text) (kind_at k).slots (drop p.next text)).made (read_at l.from p)
  pub passed : Passed text p.next r.next (fields_in (length text) (kind_at k).slots (drop p.next text)).rest
  pub within : Within text r.next r.counts
  pub long : SameLengths l

abbrev pub forms_at : List ℕ → ℕ → ℕ → Got (List Form)
forms_at text k at = forms_in (length text) (length text) (kind_at k) (drop at text)

pub record FormsRead (text : List ℕ) (k : ℕ) (p : Place) (l : Change Slices) (r : Block) : Type 0 where
  pub read : read_at l.to r.place ≡ put_forms text k (forms_at text k p.next).made (read_at l.from p)
  pub counted : r.count ≡ length (forms_at text k p.next).made
  pub passed : Passed text p.next r.place.next (forms_at text k p.next).rest
  pub within : Within text r.place.next r.place.counts
  pub long : SameLengths l

-- ---- all that is made of a text

abbrev pub whole_at : Slices → List ℕ → Place → Whole
whole_at l reaches p = record { reaches = reaches; read = read_at l p }

-- nothing read yet, with the records from a place on; whether the text is compared
abbrev pub start_at : ℕ → Met → Place
start_at rows met = record {
  next = 0;
  counts = record { ids = 0; floats = 0; node_weights = 0; mesh_weights = 0 };
  met = met;
  shape = met_at 0 true;
  rows = rows;
  reach = 0;
  request = record { node = 0; time = 0; roots_at = 0; roots = 0 };
}

pub record DocumentRead (text : List ℕ) (rows : ℕ) (met : Met) (l : Change Slices) (r : Found) : Type 0 where
  pub read : whole_at l.to r.reaches r.place
      ≡ put_document text 0 (parsed kinds text) (whole_at l.from [] (start_at rows met))
  pub counted : r.counts ≡ map length (parsed kinds text)
  pub rest : drop r.place.next text ≡ (document_in (length text) kinds text).rest
  pub within : Within text r.place.next r.place.counts
