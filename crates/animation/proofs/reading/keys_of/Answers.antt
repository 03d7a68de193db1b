use mathlib.Core.Path.{◌≡◌, ap}
use Prim.Native.Nat.{ℕ, ◌+◌, ◌-◌}
use native.Mathlib.Omega.{arith}
use lib.ListN.{take, drop}
use Rattle.tracks.proofs.Drawn.{clear, keys-inside}
use Rattle.animation.proofs.reading.keys_of.Goals as goal

pub overflow_add-e : goal.overflow_add-e
overflow_add-e c =
    let floats = c.args.floats.now in
    let t = c.args.t in
    omega (arith, keys-inside floats t (clear floats t c.requires).inside)

pub offset_bounds-floats-a : goal.offset_bounds-floats-a
offset_bounds-floats-a c =
    let floats = c.args.floats.now in
    let t = c.args.t in
    omega (arith, keys-inside floats t (clear floats t c.requires).inside)

pub slice_bounds-result-end : goal.slice_bounds-result-end
slice_bounds-result-end c =
    let floats = c.args.floats.now in
    let t = c.args.t in
    omega (arith, keys-inside floats t (clear floats t c.requires).inside)

pub returns : goal.returns
returns c =
    let a = c.args in
    let e : a.t.keys.at + a.t.keys.count - a.t.keys.at ≡ a.t.keys.count = omega arith in
    ap (λ (n : ℕ). take n (drop a.t.keys.at a.floats.now)) e
