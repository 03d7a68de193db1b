use mathlib.Core.Path.{◌≡◌}
use mathlib.Core.List.{[], ◌∷◌}
use Prim.Native.Nat.{◌+◌}
use native.Mathlib.Omega.{arith}
use lib.Ieee.{nan}
use lib.ListN.{get_or}
use Rattle.scene.proofs.transforms.column.Goals as goal

pub returns : goal.returns
returns c =
    let m = c.args.m.m in
    let j = c.args.j in
    let e : j ≡ 0 + j = omega arith in
    λ l. get_or m (e l) nan ∷ get_or m (4 + j) nan ∷ get_or m (8 + j) nan ∷ []
