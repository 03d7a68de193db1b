use Rattle.brackets.proofs.ReadingLaws.{item-read}
use Rattle.brackets.proofs.reading.take_item.Goals as goal

pub returns : goal.returns
returns c =
    item-read c.behind.ensures c.word-w.ensures c.meet_item.ensures
