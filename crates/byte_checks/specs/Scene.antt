-- What a scene and a time draw, whatever room is lent (scope, "Numbers when a piece is turned down"). Definitions only.
use Rattle.std.specs.Prelude.{[], ◌∷◌, ℕ, Float}
use Rattle.std.specs.Float.Ieee.{is_nan}
use Rattle.model.specs.Refusals.{no_time, keys_out_of_line, first_of, lowest, some_keys_out_of_line}
use Rattle.tables.specs.Decoded.{Lent, scene_of}
use Rattle.checks.specs.Drawn.{tables_number}

-- 1 and 2 of the tables, 3 of the time, 5 of the keys of even tracks that are aimed at a node; otherwise 0
unfoldable pub scene_number : Lent → Float → ℕ
scene_number l time =
    lowest (tables_number l)
    (first_of
    (record { applies = is_nan time; refusal = no_time }
    ∷ record { applies = some_keys_out_of_line (scene_of l); refusal = keys_out_of_line }
    ∷ []))
