use mathlib.Core.Path.{ap, ◌∙◌}
use native.Mathlib.Omega.{arith}
use Rattle.tables.specs.Decoded.{parts_from}
use Rattle.tables.proofs.Cutting.{ten-there, ten-missing}
use Rattle.tables.proofs.readers.trs_in.Goals as goal

pub returns-then-at-floats : goal.returns-then-at-floats
returns-then-at-floats c =
    c.trs_from.ensures ∙ ap parts_from (ten-there c.args.floats.now c.args.at (omega (arith, c.if-floats-ge10.true, c.if-at-floats.true)))

pub returns-else-at-floats : goal.returns-else-at-floats
returns-else-at-floats c =
    ap parts_from (ten-missing c.args.floats.now c.args.at (omega (arith, c.if-floats-ge10.true, c.if-at-floats.false)))

pub returns-else-floats-ge10 : goal.returns-else-floats-ge10
returns-else-floats-ge10 c =
    ap parts_from (ten-missing c.args.floats.now c.args.at (omega (arith, c.if-floats-ge10.false)))
