-- A text compared with the bytes that are expected of it, one after the other: how far the two are the same, and
-- whether nothing has departed yet. Definitions only.
use Rattle.std.specs.Prelude.{Bool, true, false, ◌&&◌, not, List, [], ◌∷◌, ℕ, ◌+◌, ltb, eqb, length, get_or}
use Rattle.model.specs.Lists.{pick}
use Rattle.brackets.specs.declared.Met.{Met}

abbrev pub met_at : ℕ → Bool → Met
met_at at ok = record { at = at; ok = ok }

-- one byte more
abbrev pub meet : List ℕ → ℕ → Met → Met
meet text b m =
    pick (m.ok && (ltb m.at (length text) && eqb (get_or text m.at 0) b)) (met_at (m.at + 1) true)
    (met_at m.at false)

unfoldable pub meets : List ℕ → List ℕ → Met → Met
meets text [] m = m
meets text (b ∷ bs) m = meets text bs (meet text b m)

-- the first place of which something does not hold
abbrev pub judge : Bool → ℕ → Met → Met
judge holds at m = pick (m.ok && not holds) (met_at at false) m
