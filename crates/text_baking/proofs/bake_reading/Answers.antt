use mathlib.Core.Path.{sym}
use borrow.Author.Rules.{rules}
use lib.Seq.{length-take-le}
use Rattle.text_baking.proofs.Readings.{zeros-long, words-in, floats-in, node-weights-in, mesh-weights-in}
use Rattle.text_baking.proofs.Readings.{none-refused, reach, put-read}
use Rattle.text_baking.proofs.bake_reading.Goals as goal

pub unreachable-requires : goal.unreachable-requires
unreachable-requires c = none-refused c.requires.0 zeros-long c.in_default.field-0 c.in_default.ensures.read

pub slice_bounds-words-end : goal.slice_bounds-words-end
slice_bounds-words-end c =
    reach (words-in c.requires.0 c.requires.1 c.in-Ok.ensures.read zeros-long).inside (search rules)

pub slice_bounds-lent-end : goal.slice_bounds-lent-end
slice_bounds-lent-end c =
    sym (length-take-le _ _
    (reach (words-in c.requires.0 c.requires.1 c.in-Ok.ensures.read zeros-long).inside (search rules)))

pub slice_bounds-floats-end : goal.slice_bounds-floats-end
slice_bounds-floats-end c =
    reach (floats-in c.requires.0 c.requires.1 c.in-Ok.ensures.read zeros-long).inside (search rules)

pub slice_bounds-lent-end-2 : goal.slice_bounds-lent-end-2
slice_bounds-lent-end-2 c =
    sym (length-take-le _ _
    (reach (floats-in c.requires.0 c.requires.1 c.in-Ok.ensures.read zeros-long).inside (search rules)))

pub slice_bounds-node_weights-end : goal.slice_bounds-node_weights-end
slice_bounds-node_weights-end c =
    reach (node-weights-in c.requires.0 c.requires.1 c.in-Ok.ensures.read zeros-long).inside (search rules)

pub slice_bounds-lent-end-3 : goal.slice_bounds-lent-end-3
slice_bounds-lent-end-3 c =
    sym (length-take-le _ _
    (reach (node-weights-in c.requires.0 c.requires.1 c.in-Ok.ensures.read zeros-long).inside (search rules)))

pub slice_bounds-mesh_weights-end : goal.slice_bounds-mesh_weights-end
slice_bounds-mesh_weights-end c =
    reach (mesh-weights-in c.requires.0 c.requires.1 c.in-Ok.ensures.read zeros-long).inside (search rules)

pub slice_bounds-lent-end-4 : goal.slice_bounds-lent-end-4
slice_bounds-lent-end-4 c =
    sym (length-take-le _ _
    (reach (mesh-weights-in c.requires.0 c.requires.1 c.in-Ok.ensures.read zeros-long).inside (search rules)))

pub returns : goal.returns
returns c = put-read c.requires.0 c.requires.1 c.in-Ok.ensures.read zeros-long _ c.bake_tables.ensures
    (search rules) (search rules) (search rules) (search rules)
