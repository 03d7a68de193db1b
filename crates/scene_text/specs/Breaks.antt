-- Where a text breaks: 13 and the place where the text has no reading, otherwise 0 and 0. Definitions only.
use Rattle.std.specs.Prelude.{◌&&◌, List, ℕ, Option, Some, None, eqb}
use Rattle.model.specs.Lists.{pick, is_some}
use Rattle.model.specs.Refusals.{number, bad_form}
use Rattle.grammar.specs.Parsed.{reading_of}
use Rattle.grammar.specs.Breaks.{break_of}
use Rattle.scene_schema.specs.Schema.{kinds}
use Rattle.scene_forms.specs.declared.Found.{Found}
use Rattle.scene_text.specs.declared.Break.{Break}

abbrev pub break_as : ℕ → ℕ → Break
break_as n at = record { number = n; at = at }

-- the place that was found, if any
abbrev pub break_told : Option ℕ → Break
break_told (Some at) = break_as (number bad_form) at
break_told None = break_as 0 0

abbrev pub break_for : List ℕ → Break
break_for text =
    pick (is_some (reading_of kinds text)) (break_as 0 0) (break_as (number bad_form) (break_of kinds text))

-- what one pass over a text of so many bytes tells of the place
abbrev pub place_from : ℕ → Found → ℕ
place_from len f =
    pick (f.place.met.ok && eqb f.place.met.at len)
    (pick f.place.shape.ok len f.place.shape.at) f.place.met.at
