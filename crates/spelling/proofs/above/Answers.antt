use mathlib.Core.Path.{◌≡◌, refl}
use mathlib.Core.Bool.{Bool, true, false}
use Prim.Native.Nat.{◌≤◌}
use native.Mathlib.Omega.{arith}
use lib.Dec.{ltb}
use mir.Val.{bool_byte}
use Rattle.model.specs.Lists.{pick}
use Rattle.spelling.proofs.above.Goals as goal

byte : (b : Bool) → (bool_byte b ≡ pick b 1 0) × (bool_byte b ≤ 1)
byte true = (refl, omega arith)
byte false = (refl, omega arith)

pub returns : goal.returns
returns c = byte (ltb c.args.limit c.args.n)
