use mathlib.Core.Path.{◌≡◌, ap}
use Prim.Native.Nat.{ℕ, ◌+◌, ◌-◌, ◌*◌}
use native.Mathlib.Omega.{arith}
use lib.ListN.{take, drop}
use Rattle.animation.proofs.frames.row_of.Goals as goal

pub returns : goal.returns
returns c =
    let a = c.args in
    let e : a.r * a.width + a.width - a.r * a.width ≡ a.width = omega arith in
    ap (λ (n : ℕ). take n (drop (a.r * a.width) a.frames.now)) e
