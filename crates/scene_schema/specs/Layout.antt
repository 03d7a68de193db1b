-- Where the words of a record are taken from: of the slots of its form, by their numbers, in the order of the words
-- (docs/TABLES.md has the records, Schema.antt the slots). Definitions only.
use Rattle.std.specs.Prelude.{List, [], ◌∷◌, Option, Some, None}
use Rattle.scene_schema.specs.declared.Source.{Source}
use Rattle.scene_schema.specs.declared.Source.TheVariants.{Tag, Mark, Start, Entries, First, Second}

-- sixteen places a kind; a scene form has no record
abbrev pub layout : List (Option Source)
layout =
    -- scene
    None ∷ None ∷ None ∷ None ∷ None ∷ None ∷ None ∷ None ∷ None ∷ None ∷ None ∷ None ∷ None ∷ None ∷ None ∷ None ∷
    -- node
    Some (Tag 0 1) ∷ Some (Start 0 1) ∷ Some (Start 2 0) ∷ Some (Entries 2 0) ∷ Some (Mark 3) ∷ Some (First 3) ∷
    Some (Mark 4) ∷ Some (First 4) ∷ Some (Mark 5) ∷ Some (Start 5 0) ∷ Some (Entries 5 0) ∷ None ∷ None ∷ None ∷
    None ∷ None ∷
    -- channel
    Some (First 0) ∷ Some (Tag 1 3) ∷ Some (Tag 9 2) ∷ Some (Tag 5 2) ∷ Some (Start 8 0) ∷ Some (Entries 8 0) ∷
    Some (Start 9 2) ∷ Some (Entries 9 2) ∷ None ∷ None ∷ None ∷ None ∷ None ∷ None ∷ None ∷ None ∷
    -- mesh
    Some (First 0) ∷ Some (Second 0) ∷ Some (Start 1 0) ∷ Some (Entries 1 0) ∷ None ∷ None ∷ None ∷ None ∷ None ∷
    None ∷ None ∷ None ∷ None ∷ None ∷ None ∷ None ∷
    -- primitive
    Some (Start 0 0) ∷ Some (Entries 0 0) ∷ Some (Mark 1) ∷ Some (Start 1 0) ∷ Some (Entries 1 0) ∷ Some (Mark 2) ∷
    Some (Start 2 0) ∷ Some (Entries 2 0) ∷ Some (Mark 3) ∷ Some (Start 3 0) ∷ Some (Entries 3 0) ∷ Some (Mark 4) ∷
    Some (Start 4 0) ∷ Some (Entries 4 0) ∷ Some (First 5) ∷ Some (Second 5) ∷
    -- target
    Some (Mark 0) ∷ Some (Start 0 0) ∷ Some (Entries 0 0) ∷ Some (Mark 1) ∷ Some (Start 1 0) ∷ Some (Entries 1 0) ∷
    Some (Mark 2) ∷ Some (Start 2 0) ∷ Some (Entries 2 0) ∷ Some (First 3) ∷ Some (Second 3) ∷ None ∷ None ∷ None ∷
    None ∷ None ∷
    -- between
    Some (Start 0 0) ∷ Some (Mark 1) ∷ Some (Start 1 0) ∷ Some (Entries 1 0) ∷ Some (Mark 2) ∷ Some (Start 2 0) ∷
    Some (Entries 2 0) ∷ None ∷ None ∷ None ∷ None ∷ None ∷ None ∷ None ∷ None ∷ None ∷
    -- skin
    Some (First 0) ∷ Some (Mark 1) ∷ Some (First 1) ∷ None ∷ None ∷ None ∷ None ∷ None ∷ None ∷ None ∷ None ∷ None ∷
    None ∷ None ∷ None ∷ None ∷
    -- skeleton
    Some (Start 0 0) ∷ Some (Entries 0 0) ∷ Some (Start 1 0) ∷ Some (Entries 1 0) ∷ None ∷ None ∷ None ∷ None ∷ None ∷
    None ∷ None ∷ None ∷ None ∷ None ∷ None ∷ None ∷ []
