use mathlib.Core.Path.{ap, sym}
use Rattle.checks.specs.Drawn.{count_within}
use Rattle.checks.specs.declared.Table.{Table}
use Rattle.checks.proofs.numbers.count_within.Goals as goal

pub returns-in-Nodes : goal.returns-in-Nodes
returns-in-Nodes c = ap (λ (k : Table). count_within k c.args.count) (sym c.in-Nodes.is)

pub returns-in-Channels : goal.returns-in-Channels
returns-in-Channels c = ap (λ (k : Table). count_within k c.args.count) (sym c.in-Channels.is)
