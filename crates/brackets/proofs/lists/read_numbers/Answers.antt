use Rattle.brackets.proofs.ListLaws.{whole-rest}
use Rattle.brackets.proofs.lists.read_numbers.Goals as goal

pub returns : goal.returns
returns c = whole-rest c.other_items.ensures
