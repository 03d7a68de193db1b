use Rattle.brackets.proofs.ReadingLaws.{no_room}
use Rattle.brackets.proofs.cells.store.Goals as goal

pub returns : goal.returns
returns g c = no_room _ _ _ c.if-k-cells.false
