-- A table that fits in the words that bytes hold lies there. Assumes nothing.
use mathlib.Core.Path.{◌≡◌, subst}
use mathlib.Core.Bool.{true}
use mathlib.Core.List.{List}
use Prim.Native.Nat.{ℕ}
use lib.ListN.{length}
use Rattle.wire.specs.Bytes.{words_in}
use Rattle.wire.proofs.Reading.{count}
use Rattle.tracks.specs.declared.Part.{Part}
use Rattle.row_checks.specs.Places.{fits_in}
use Rattle.checks.specs.declared.Table.{Table}
use Rattle.checks.specs.Drawn.{record_words}
use Rattle.byte_checks.specs.Bytes.{TableThere}

pub lies_there : (bytes : List ℕ) (t : Part) (k : Table)
    → fits_in t (record_words k) (length (words_in bytes)) ≡ true → TableThere bytes t k
lies_there bytes t k e = subst (λ (n : ℕ). fits_in t (record_words k) n ≡ true) (count (λ w. w) bytes) e
