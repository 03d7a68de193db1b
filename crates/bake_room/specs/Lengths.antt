-- Lent room beside the room that is told: long enough, or shorter in some slice; and the number of a bake with it.
-- Definitions only.
use Rattle.std.specs.Prelude.{◌≡◌, ℕ, ◌≤◌, ◌<◌, Float, length}
use Rattle.model.specs.Refusals.{number, short_scratch, short_output}
use Rattle.model.specs.Bake.{Output}
use Rattle.tables.specs.Decoded.{Lent}
use Rattle.bake_stages.specs.Scratch.{Slices}
use Rattle.bake.specs.Baked as bake
use Rattle.bake_room.specs.declared.Room.{Room}

-- every slice of the scratch room, and every output, is at least as long as told
pub record EnoughScratch (told : Room) (r : Slices) : Type 0 where
  pub marks : told.marks ≤ length r.marks
  pub slots : told.slots ≤ length r.slots
  pub walk : told.walk ≤ length r.walk
  pub places : told.places ≤ length r.places
  pub worlds : told.worlds ≤ length r.worlds

pub record EnoughOutput (told : Room) (o : Output) : Type 0 where
  pub positions : told.positions ≤ length o.positions
  pub normals : told.normals ≤ length o.normals
  pub tangents : told.tangents ≤ length o.tangents

pub record Enough (told : Room) (r : bake.Room) : Type 0 where
  pub scratch : EnoughScratch told r.scratch
  pub output : EnoughOutput told r.output

-- some slice of the scratch room is shorter than told
pub data ShortScratch (told : Room) (r : Slices) : Type 0 where
  short_marks : length r.marks < told.marks → ShortScratch told r
  short_slots : length r.slots < told.slots → ShortScratch told r
  short_walk : length r.walk < told.walk → ShortScratch told r
  short_places : length r.places < told.places → ShortScratch told r
  short_worlds : length r.worlds < told.worlds → ShortScratch told r

-- some output is
pub data SomeShort (told : Room) (o : Output) : Type 0 where
  short_positions : length o.positions < told.positions → SomeShort told o
  short_normals : length o.normals < told.normals → SomeShort told o
  short_tangents : length o.tangents < told.tangents → SomeShort told o

-- though the scratch room is long enough
pub record ShortOutput (told : Room) (r : bake.Room) : Type 0 where
  pub scratch : EnoughScratch told r.scratch
  pub output : SomeShort told r.output

-- the number of a bake of node i at a time, with lent room
abbrev pub number_with : Lent → ℕ → Float → bake.Room → ℕ
number_with l i time r = (bake.outcome l i time r).answer.refusal

-- a number that finds no slice too short
abbrev pub NeitherShort : ℕ → Type 0
NeitherShort n = (n ≡ number short_scratch → ⊥) × (n ≡ number short_output → ⊥)
