use mathlib.Core.Path.{◌≡◌, ap, ◌∙◌}
use Prim.Native.Nat.{ℕ, ◌+◌, ◌-◌, ◌*◌, ◌≤◌}
use native.Mathlib.Omega.{arith}
use lib.ListN.{length, take, drop}
use Rattle.model.specs.Sampling.{width}
use Rattle.tracks.specs.Values.{kind_of}
use Rattle.tracks.proofs.Drawn.{clear, values-inside}
use Rattle.animation.proofs.reading.values_of.Lts
use Rattle.animation.proofs.reading.values_of.Reads
use Rattle.animation.proofs.reading.values_of.Tie
use Rattle.animation.proofs.reading.values_of.Goals as goal

abbrev Start : Type 0
Start = Lts.Start Tie.the-claims Reads.Pre Reads.Post

in_table : (s : Start) → s.args.t.values.at + s.args.t.values.count * width (kind_of s.args.t.kind) ≤ length s.args.floats.now
in_table s = values-inside s.args.floats.now s.args.t (clear s.args.floats.now s.args.t s.requires).inside

pub overflow_mul-e : goal.overflow_mul-e
overflow_mul-e c =
    omega (arith, in_table c.before.before.before.before.before, ap (λ (k : ℕ). c.args.t.values.count * k) c.width.ensures.0)

pub overflow_add-e : goal.overflow_add-e
overflow_add-e c =
    omega (arith, in_table c.before.before.before.before.before, ap (λ (k : ℕ). c.args.t.values.count * k) c.width.ensures.0)

pub offset_bounds-floats-a : goal.offset_bounds-floats-a
offset_bounds-floats-a c =
    omega (arith, in_table c.before.before.before.before.before, ap (λ (k : ℕ). c.args.t.values.count * k) c.width.ensures.0)

pub slice_bounds-result-end : goal.slice_bounds-result-end
slice_bounds-result-end c =
    omega (arith, in_table c.before.before.before.before.before, ap (λ (k : ℕ). c.args.t.values.count * k) c.width.ensures.0)

pub returns : goal.returns
returns c =
    let a = c.args in
    let n = a.t.values.count * c.width.result in
    let e : a.t.values.at + n - a.t.values.at ≡ n = omega arith in
    ap (λ (m : ℕ). take m (drop a.t.values.at a.floats.now)) (e ∙ ap (λ (k : ℕ). c.args.t.values.count * k) c.width.ensures.0)
