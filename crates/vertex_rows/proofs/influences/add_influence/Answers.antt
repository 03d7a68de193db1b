use mathlib.Core.Path.{sym, ◌∙◌}
use native.Mathlib.Omega.{arith}
use Rattle.vertex_rows.proofs.Blended.{counts-in, past-palette, no-weight}
use Rattle.vertex_rows.proofs.influences.add_influence.Goals as goal

pub returns-then-counts : goal.returns-then-counts
returns-then-counts c =
    let a = c.args in
    counts-in a.palette.now a.j a.w a.sum _ _ _ (omega arith) (sym c.counts.ensures ∙ c.if-counts.true) c.matrix_at.ensures c.unwrap_or-so_far.ensures c.mat4_madd.ensures

pub returns-else-counts : goal.returns-else-counts
returns-else-counts c =
    let a = c.args in
    no-weight a.palette.now a.j a.w a.sum (omega arith) (sym c.counts.ensures ∙ c.if-counts.false)

pub returns-else-j-palette : goal.returns-else-j-palette
returns-else-j-palette c =
    let a = c.args in
    past-palette a.palette.now a.j a.w a.sum (omega arith)
