-- The lent scene of a document: its tables, with whatever stands behind them in each slice. Definitions only.
use Rattle.std.specs.Prelude.{◌++◌}
use Rattle.tables.specs.Decoded.{Lent}
use Rattle.checks.specs.Drawn.{lent_as}
use Rattle.grammar.specs.Forms.{Document}
use Rattle.scene_forms.specs.Read.{Slices}
use Rattle.scene_forms.specs.Said.{tables_of, header_of}

abbrev pub lent_of : Document → Slices → Lent
lent_of d behind =
    lent_as ((tables_of d).words ++ behind.words) ((tables_of d).floats ++ behind.floats)
    ((tables_of d).node_weights ++ behind.node_weights) ((tables_of d).mesh_weights ++ behind.mesh_weights) (header_of d)
