use mathlib.Core.Path.{ap, ◌∙◌}
use Prim.Native.Nat.{◌-◌}
use native.Mathlib.Omega.{arith}
use lib.ListN.{get_or}
use Rattle.tables.specs.declared.NodeRow.{NodeRow}
use Rattle.tables.specs.Decoded.{span_in}
use Rattle.tables.specs.Decoded.{children_in}
use Rattle.graph.proofs.Taking.{taken, dropped}
use Rattle.graph.proofs.walk.step.Goals as goal

pub overflow_cast-i : goal.overflow_cast-i
overflow_cast-i c = omega (arith, c.type_inv.ids (c.args.top - 1))

pub returns-then-i-marks : goal.returns-then-i-marks
returns-then-i-marks c =
    let s = c.args in
    taken (children_in s.words.now s.nodes) (get_or s.ids.now (s.top - 1) 0) _ _ _ _ _ _ _ c.if-i-marks.true
    (c.words_in-list.ensures ∙ ap (λ (r : NodeRow). span_in s.words.now r.children 1) c.node_row-row.ensures) c.list_all.ensures

pub returns : goal.returns
returns c =
    let s = c.args in
    dropped (children_in s.words.now s.nodes) (get_or s.ids.now (s.top - 1) 0) _ _ _ c.if-i-marks.false
