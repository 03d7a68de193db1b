-- Tables and records in bytes, which lie in the words that the bytes hold. Definitions only.
use Rattle.std.specs.Prelude.{◌≡◌, true, List, ℕ, ◌/◌, ◌<◌, length}
use Rattle.tracks.specs.declared.Part.{Part}
use Rattle.row_checks.specs.Places.{fits_in}
use Rattle.checks.specs.declared.Table.{Table}
use Rattle.checks.specs.Drawn.{record_words}

-- a table lies in the words (docs/TABLES.md), four bytes each
abbrev pub TableThere : List ℕ → Part → Table → Type 0
TableThere bytes t k = fits_in t (record_words k) (length bytes / 4) ≡ true

-- record i is one of them
abbrev pub RecordThere : List ℕ → Part → Table → ℕ → Type 0
RecordThere bytes t k i = TableThere bytes t k × (i < t.count)
