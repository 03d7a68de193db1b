use mathlib.Core.Path.{ap, ◌∙◌}
use Rattle.checks.specs.Drawn.{sum_below, child_count, entries_number, children_number}
use Rattle.checks.proofs.Lowest.{capped-number}
use Rattle.checks.proofs.numbers.check_children.Goals as goal

pub returns : goal.returns
unfolding children_number
returns g c =
    let a = c.args in
    c.check_entries.ensures
    ∙ ap entries_number c.listed_entries.ensures
    ∙ capped-number (sum_below a.nodes.count (child_count (g.W.Words.said a.words) a.nodes))
