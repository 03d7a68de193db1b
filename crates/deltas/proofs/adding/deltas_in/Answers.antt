use mathlib.Core.Path.{sym, ap, ◌∙◌}
use mathlib.Core.Bool.{Bool}
use mathlib.Core.List.{[]}
use Rattle.model.specs.Lists.{pick}
use Rattle.tables.specs.Decoded.{span_in}
use Rattle.deltas.specs.Deltas.{deltas_in}
use Rattle.deltas.proofs.adding.deltas_in.Goals as goal

pub returns-then-is_marked : goal.returns-then-is_marked
unfolding deltas_in
returns-then-is_marked c =
    let a = c.args in
    c.floats_in.ensures
    ∙ ap (λ (b : Bool). pick b (span_in a.floats.now a.s.part 3) []) (sym c.if-is_marked.true ∙ c.is_marked.ensures)

pub returns : goal.returns
unfolding deltas_in
returns c =
    let a = c.args in
    ap (λ (b : Bool). pick b (span_in a.floats.now a.s.part 3) []) (sym c.if-is_marked.false ∙ c.is_marked.ensures)
