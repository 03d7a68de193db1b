use mathlib.Core.Path.{sym, ap, ◌∙◌}
use mathlib.Core.List.{List}
use Prim.Native.Nat.{◌+◌}
use native.Mathlib.Omega.{arith}
use lib.Ieee.{Float}
use lib.ListN.{set}
use Rattle.vertex_rows.proofs.RowAccess.{written3, written4}
use Rattle.vertex_rows.proofs.rows.store4.Goals as goal

pub returns : goal.returns
returns c =
    let a = c.args in
    let d = a.t.direction in
    ap (λ (l : List Float). set l (a.at + 3) a.t.handedness) (c.store3.ensures ∙ sym (written3 a.s.now a.at d.x d.y d.z (omega arith)))
    ∙ written4 a.s.now a.at d.x d.y d.z a.t.handedness c.requires
