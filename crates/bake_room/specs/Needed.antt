-- How much room a bake of one node needs, as lengths of slices in entries: docs/TABLES.md, "Calls on a scene".
-- Definitions only.
use Rattle.std.specs.Prelude.{[], ℕ, zero, suc, ◌+◌, ◌*◌, length, Result, Ok, Err}
use Rattle.std.proofs.Math.Option.{Option, none, some}
use Rattle.model.specs.Lists.{sum_of, or_else}
use Rattle.model.specs.Scene.{Scene, Mesh, Primitive, node_count, mesh_at}
use Rattle.model.specs.Placing.{child_entries}
use Rattle.model.specs.Refusals.{number, no_such_node}
use Rattle.refusals.specs.declared.Refusal.{Refusal}
use Rattle.refusals.specs.Drawn.{number_of}
use Rattle.tables.specs.Decoded.{Lent, scene_of}
use Rattle.checks.specs.Drawn.{tables_number}
use Rattle.shapes.specs.declared.Lengths.{Lengths}
use Rattle.bake_room.specs.declared.RoomLengths.{RoomLengths}
use Rattle.bake_room.specs.declared.Room.{Room}

-- refused: every length is 0
abbrev pub no_room : ℕ → Room
no_room n = record {
  number = n;
  marks = 0;
  slots = 0;
  walk = 0;
  places = 0;
  worlds = 0;
  positions = 0;
  normals = 0;
  tangents = 0;
}

-- what a C function answers
abbrev pub answer_of : Result RoomLengths Refusal → Room
answer_of (Ok n) = record {
  number = 0;
  marks = n.marks;
  slots = n.slots;
  walk = n.walk;
  places = n.places;
  worlds = n.worlds;
  positions = n.lengths.positions;
  normals = n.lengths.normals;
  tangents = n.lengths.tangents;
}
answer_of (Err r) = no_room (number_of r)

-- four words and ten floats a pose slot, two words an entry of the walk, a word and sixteen floats a world slot; and as
-- many floats as an output is to hold
abbrev pub room_from : ℕ → ℕ → ℕ → Lengths → Room
room_from nodes roots children n = record {
  number = 0;
  marks = nodes * 4;
  slots = nodes * 10;
  walk = (roots + children) * 2;
  places = nodes;
  worlds = nodes * 16;
  positions = n.positions;
  normals = n.normals;
  tangents = n.tangents;
}

-- the floats of a primitive: three a position or a normal, four a tangent; an absent attribute has none
abbrev pub position_floats : Primitive → ℕ
position_floats p = length p.positions * 3

abbrev pub normal_floats : Primitive → ℕ
normal_floats p = length (or_else p.normals []) * 3

abbrev pub tangent_floats : Primitive → ℕ
tangent_floats p = length (or_else p.tangents []) * 4

-- the floats of all primitives of a mesh
abbrev pub lengths_in : Mesh → Lengths
lengths_in mesh = record {
  positions = sum_of position_floats mesh.primitives;
  normals = sum_of normal_floats mesh.primitives;
  tangents = sum_of tangent_floats mesh.primitives;
}

-- a slot for every node, an entry for every root and child entry, and the floats of a mesh
abbrev pub room_in : Scene → Mesh → Room
room_in s mesh = room_from (node_count s) (length s.roots) (child_entries s) (lengths_in mesh)

-- refused with what the tables drew, or as no such node where there is no mesh
abbrev pub room_or : ℕ → Scene → Option Mesh → Room
room_or zero s (some mesh) = room_in s mesh
room_or zero s none = no_room (number no_such_node)
room_or (suc n) s mesh = no_room (suc n)

-- of node i
unfoldable pub room_for : Lent → ℕ → Room
room_for l i = room_or (tables_number l) (scene_of l) (mesh_at (scene_of l) i)
