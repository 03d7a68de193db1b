use Rattle.grammar.specs.Digits.{floats}
use Rattle.brackets.proofs.RunLaws.{front-space, next-space, told_none, told-one, told-two}
use Rattle.brackets.proofs.lists.told_run.Goals as goal

pub take-a-requires : goal.take-a-requires
take-a-requires c =
    let a = c.args in
    front-space floats a.text.now a.at a.count c.if-count-gt0.true c.requires

pub take-b-requires : goal.take-b-requires
take-b-requires c =
    next-space c.requires c.take-a.ensures c.if-count-gt1.true

pub returns-then-count-gt1 : goal.returns-then-count-gt1
returns-then-count-gt1 c =
    told-two c.requires c.take-a.ensures c.take-b.ensures c.if-count-gt1.true

pub returns-else-count-gt1 : goal.returns-else-count-gt1
returns-else-count-gt1 c =
    told-one c.requires c.take-a.ensures c.if-count-gt0.true c.if-count-gt1.false

pub returns-else-count-gt0 : goal.returns-else-count-gt0
returns-else-count-gt0 c = let a = c.args in told_none floats a.text.now a.at c.if-count-gt0.false
