use mathlib.Core.Path.{refl}
use Rattle.transform.proofs.Blocked.{row-begun}
use Rattle.transform.proofs.blocks.put_row.Goals as goal

pub returns : goal.returns
returns c =
    let a = c.args in
    row-begun a.w a.k a.s.now _ _ c.requires.0 c.requires.1 refl c.store3.ensures
