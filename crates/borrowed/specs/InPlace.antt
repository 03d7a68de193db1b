-- Vertices that a call changes in the three slices that hold them. Definitions only.
use Rattle.model.specs.Scene.{Primitive}
use Rattle.model.specs.Vertices.{Shape}
use Rattle.model.specs.Attributes.{attributes_in, Reshaped}
use Rattle.borrowed.specs.Slices.{Floats}

-- positions, normals and tangents are what the change makes of those that the slices held; floats past the last whole
-- row are unchanged
abbrev pub InPlace : (Primitive → Shape) → Floats → Floats → Floats → Type 0
InPlace change positions normals tangents =
    Reshaped (change (attributes_in positions.entry.now normals.entry.now tangents.entry.now))
    positions.entry.now positions.exit.now
    normals.entry.now normals.exit.now
    tangents.entry.now tangents.exit.now
