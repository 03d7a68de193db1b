use mathlib.Core.Path.{refl}
use native.Mathlib.Omega.{arith}
use Rattle.spelling.proofs.Pushing.{put-sets}
use Rattle.spelling.proofs.put.Goals as goal

pub returns : goal.returns
returns c =
    put-sets _ _ _ 1 (omega arith) refl (omega arith) c.store_byte.ensures c.advanced-next.ensures
