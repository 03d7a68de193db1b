-- The skeleton of a skin, as the words say it. Definitions only.
use Rattle.std.specs.Prelude as rust
use Rattle.std.specs.Prelude.{◌≡◌, List, ℕ, Float}
use Rattle.model.specs.Lists.{map_some}
use Rattle.model.specs.Scene as scene
use Rattle.tables.specs.declared.Header.{Header}
use Rattle.tables.specs.declared.SkeletonRow.{SkeletonRow}
use Rattle.tables.specs.Decoded.{skeleton_of, scene_of}
use Rattle.checks.specs.Drawn.{lent_as}
use Rattle.tables.specs.Tags.{option_of}

-- whatever else is lent, it is the skeleton of skin k
pub record BoundTo (words : List ℕ) (h : Header) (k : ℕ) (b : rust.Option SkeletonRow) : Type 0 where
  pub skeleton : (floats node_weights mesh_weights : List Float)
      → scene.skeleton_of (scene_of (lent_as words floats node_weights mesh_weights h)) k
      ≡ map_some (skeleton_of (lent_as words floats node_weights mesh_weights h)) (option_of b)
