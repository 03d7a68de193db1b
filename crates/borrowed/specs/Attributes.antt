-- The three slices of vertices that a call changes through a struct that borrows them. Definitions only.
use Rattle.std.specs.Prelude.{◌≡◌, length}
use Rattle.std.specs.Borrow.{MutBor}
use denote.Triple.Both.{Both}
use Rattle.borrowed.specs.Slices.{Floats}
use Rattle.borrowed.specs.declared.Vertices.{Vertices}

abbrev pub Attributes : Type 0
Attributes = Both (MutBor Vertices) (MutBor Vertices)

-- ---- each slice, at entry and at exit

abbrev pub positions_in : Attributes → Floats
positions_in v = record { entry = v.entry.now.positions; exit = v.exit.now.positions }

abbrev pub normals_in : Attributes → Floats
normals_in v = record { entry = v.entry.now.normals; exit = v.exit.now.normals }

abbrev pub tangents_in : Attributes → Floats
tangents_in v = record { entry = v.entry.now.tangents; exit = v.exit.now.tangents }

-- the struct borrows the slices that it did, which are as long as they were
pub record SameSlices (lent left : Vertices) : Type 0 where
  pub positions : left.positions.ghost_name ≡ lent.positions.ghost_name
  pub normals : left.normals.ghost_name ≡ lent.normals.ghost_name
  pub tangents : left.tangents.ghost_name ≡ lent.tangents.ghost_name
  pub position-length : length left.positions.now ≡ length lent.positions.now
  pub normal-length : length left.normals.now ≡ length lent.normals.now
  pub tangent-length : length left.tangents.now ≡ length lent.tangents.now
