-- What was found, one thing after the other, beside the fields from a place on. Definitions only.
use Rattle.std.specs.Prelude.{Bool, ◌&&◌, List, ℕ, eqb, Float, get_or}
use Rattle.comparing.specs.Compared.{same_words, same_floats}
use Rattle.lists.specs.Fields.{ahead_of, behind_list, list_at}

-- whether all that was found so far is what the fields say, and the place of the next one
pub record Checked : Type 0 where
  pub same : Bool
  pub at : ℕ

-- a number, which is the next field
abbrev pub number_next : List ℕ → Checked → ℕ → Checked
number_next fields c found = record {
  same = c.same && eqb found (get_or fields c.at 0);
  at = ahead_of fields c.at 1;
}

-- words, which are the next list; there is room for so many
abbrev pub words_next : List ℕ → Checked → List ℕ → ℕ → Checked
words_next fields c found room = record {
  same = c.same && same_words found (list_at fields c.at);
  at = behind_list fields c.at room;
}

abbrev pub floats_next : List ℕ → Checked → List Float → ℕ → Checked
floats_next fields c found room = record {
  same = c.same && same_floats found (list_at fields c.at);
  at = behind_list fields c.at room;
}
