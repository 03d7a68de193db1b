use mathlib.Core.Path.{sym, ap, ◌∙◌}
use mathlib.Core.List.{List}
use lib.Ieee.{Float}
use Rattle.model.specs.Lists.{is_some}
use Rattle.wire.specs.Bytes.{words_in}
use Rattle.tables.specs.Decoded.{Lent}
use Rattle.checks.specs.Drawn.{lent_as}
use Rattle.skin.proofs.Blending.{mesh-past, mesh-by-row}
use Rattle.byte_checks.proofs.calls.has_mesh.Lts
use Rattle.byte_checks.proofs.calls.has_mesh.Reads
use Rattle.byte_checks.proofs.calls.has_mesh.Tie
use Rattle.byte_checks.proofs.calls.has_mesh.Goals as goal

abbrev Start : Type 0
Start = Lts.Start Tie.the-claims Reads.Pre Reads.Post

abbrev lent : Start → List Float → List Float → List Float → Lent
lent s floats own mesh = lent_as (words_in s.args.words.now) floats own mesh s.args.h

pub returns-then-nodes-i : goal.returns-then-nodes-i
returns-then-nodes-i c =
    let s = c.before.before.before.before.before in
    record { told = λ f n m. sym (ap is_some (mesh-past (lent s f n m) s.args.node c.if-nodes-i.true)) }

pub node_row-requires : goal.node_row-requires
node_row-requires c = (c.requires, c.if-nodes-i.false)

pub returns : goal.returns
returns c =
    let r = c.node_row in
    let s = c.before.before.before.before.before.before.before in
    record {
      told = λ f n m.
          c.row_has_mesh.ensures
          ∙ mesh-by-row (lent s f n m) s.args.node r.result r.ensures c.if-nodes-i.false;
    }
