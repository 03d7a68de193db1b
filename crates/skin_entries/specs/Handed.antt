-- What the call for the weights of a node's mesh leaves: scope, "Palette, skin root, weights". Definitions only.
use Rattle.std.specs.Prelude.{ℕ}
use Rattle.borrowed.specs.Slices.{Floats}
use Rattle.outputs.specs.Output.{CopiedOut}
use Rattle.tables.specs.Decoded.{Lent}
use Rattle.skin.specs.declared.Answer.{Answer}
use Rattle.skin.specs.Weights.{weights_number_for, weights_for}

-- the weights of node i, copied into an output
abbrev pub Weighed : Lent → ℕ → Floats → Answer → Type 0
Weighed l i out a =
    CopiedOut (weights_number_for l i) (weights_for l i) out.entry.now out.exit.now a.number a.length
