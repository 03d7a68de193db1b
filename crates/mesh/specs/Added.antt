-- Positions and normals with deltas added in place. Definitions only.
use Rattle.std.specs.Prelude.{◌≡◌, List, [], Float}
use Rattle.std.proofs.Math.Option.{Option}
use Rattle.borrowed.specs.Slices.{Floats}
use Rattle.model.specs.Lists.{or_else, rows_in}
use Rattle.model.specs.Vector.{Vector, ◌⊞◌}
use Rattle.model.specs.Scene.{Target}
use Rattle.model.specs.Morph.{Station, with_deltas, stations, between}
use Rattle.model.specs.Attributes.{over_rows}
use Rattle.mesh.specs.Stations.{segment_of}

pub record Added (f : Vector → Vector → Vector) (position_deltas normal_deltas : List Vector)
    (lent_positions left_positions lent_normals left_normals : List Float) : Type 0 where
  pub positions : left_positions ≡ over_rows 3 (with_deltas f (rows_in 3 lent_positions) position_deltas) lent_positions
  pub normals : left_normals ≡ over_rows 3 (with_deltas f (rows_in 3 lent_normals) normal_deltas) lent_normals

-- in the slices that are borrowed
abbrev pub Adds : (Vector → Vector → Vector) → List Vector → List Vector → Floats → Floats → Type 0
Adds f position_deltas normal_deltas positions normals =
    Added f position_deltas normal_deltas positions.entry.now positions.exit.now
    normals.entry.now normals.exit.now

-- the deltas of an attribute at w, between the stations of t
unfoldable pub station_deltas : (Station → Option (List Vector)) → Option (List Vector) → Target → Float → List Vector
station_deltas slot own t w = or_else (between slot own (stations t) w (segment_of w (stations t))) []

-- positions and normals with those of t added
abbrev pub StationsAdded : Target → Float → Floats → Floats → Type 0
StationsAdded t w positions normals =
    Adds ◌⊞◌ (station_deltas (λ s. s.positions) t.positions t w) (station_deltas (λ s. s.normals) t.normals t w)
    positions normals
