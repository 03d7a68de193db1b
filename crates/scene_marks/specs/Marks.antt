-- The fields of a form in numbers, a mark for each slot: whether it is there, where its items start in their table, how
-- many they are, and the first two; and the words of a record, which are taken from them (docs/TABLES.md). Definitions
-- only.
use Rattle.std.specs.Prelude.{Bool, true, ◌&&◌, ◌||◌, List, [], ◌∷◌, Option, Some, None, ℕ, zero, suc, ◌+◌, ◌*◌, ◌/◌, ◌%◌}
use Rattle.std.specs.Prelude.{eqb, get_or, set, replicate}
use Rattle.model.specs.Lists.{pick}
use Rattle.scene_schema.specs.declared.Source.{Source}
use Rattle.scene_schema.specs.declared.Source.TheVariants as source
use Rattle.scene_schema.specs.Layout.{layout}
use Rattle.scene_schema.specs.Numbers.{strides, slot_counts, slot_rules, no_rule}
use Rattle.scene_marks.specs.declared.Mark.{Mark}

abbrev pub no_mark : Mark
no_mark = record { there = 0; start = 0; count = 0; first = 0; second = 0 }

-- sixteen slots
abbrev pub clear : List Mark
clear = replicate 16 no_mark

abbrev pub set_mark : List Mark → ℕ → Mark → List Mark
set_mark marks j m = set marks j m

abbrev pub mark_at : List Mark → ℕ → Mark
mark_at marks j = get_or marks j no_mark

-- of n + 1 slots from slot a on, the number of the first that is there, counted from a; n where none before is
unfoldable pub chosen : List Mark → ℕ → ℕ → ℕ
chosen marks a zero = 0
chosen marks a (suc n) = pick (eqb (mark_at marks a).there 0) (suc (chosen marks (a + 1) n)) 0

-- the slot that is there
abbrev pub the_one : List Mark → ℕ → ℕ → ℕ
the_one marks a n = a + chosen marks a n

abbrev pub entries_in : ℕ → Mark → ℕ
entries_in width m = m.count / width

abbrev pub word_from : ℕ → List Mark → Option Source → ℕ
word_from k marks None = 0
word_from k marks (Some (source.Tag a n)) = chosen marks a n
word_from k marks (Some (source.Mark j)) = (mark_at marks j).there
word_from k marks (Some (source.Start a n)) = (mark_at marks (the_one marks a n)).start
word_from k marks (Some (source.Entries a n)) =
    entries_in (get_or slot_rules (16 * k + the_one marks a n) no_rule).width (mark_at marks (the_one marks a n))
word_from k marks (Some (source.First j)) = (mark_at marks j).first
word_from k marks (Some (source.Second j)) = (mark_at marks j).second

-- so many words of a record of kind k, from word w on; a word has 32 bits
unfoldable pub words_from : ℕ → ℕ → ℕ → List Mark → List ℕ
words_from zero k w marks = []
words_from (suc n) k w marks =
    word_from k marks (get_or layout (16 * k + w) None) % 0x1_0000_0000 ∷ words_from n k (w + 1) marks

abbrev pub stride_of : ℕ → ℕ
stride_of k = get_or strides k 0

abbrev pub row_of : ℕ → List Mark → List ℕ
row_of k marks = words_from (stride_of k) k 0 marks

-- of so many slots from slot j on, how many are there
unfoldable pub present_from : ℕ → ℕ → List Mark → ℕ
present_from zero j marks = 0
present_from (suc n) j marks = pick (eqb (mark_at marks j).there 0) 0 1 + present_from n (j + 1) marks

-- slot j of kind k starts no group, or one of which just one is there
abbrev pub group_at : ℕ → ℕ → List Mark → Bool
group_at k j marks =
    let group = (get_or slot_rules (16 * k + j) no_rule).one_of in
    eqb group 0 || eqb (present_from group j marks) 1

-- so many slots of kind k from slot j on
unfoldable pub groups_from : ℕ → ℕ → ℕ → List Mark → Bool
groups_from zero k j marks = true
groups_from (suc n) k j marks = group_at k j marks && groups_from n k (j + 1) marks

abbrev pub groups_of : ℕ → List Mark → Bool
groups_of k marks = groups_from (get_or slot_counts k 0) k 0 marks
