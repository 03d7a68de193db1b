-- The tables of a document beside a number of bytes: at most a word a byte, and a float for each nine. Definitions
-- only.
use Rattle.std.specs.Prelude.{ℕ, ◌*◌, ◌≤◌, length}
use Rattle.grammar.specs.Forms.{Document}
use Rattle.scene_forms.specs.Said.{tables_of}

pub record FewerThan (bytes : ℕ) (d : Document) : Type 0 where
  pub words : length (tables_of d).words ≤ bytes
  pub floats : 9 * length (tables_of d).floats ≤ bytes
  pub node_weights : 9 * length (tables_of d).node_weights ≤ bytes
  pub mesh_weights : 9 * length (tables_of d).mesh_weights ≤ bytes
