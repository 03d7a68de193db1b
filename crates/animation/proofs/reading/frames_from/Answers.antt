use mathlib.Core.Path.{◌≡◌, ap, ◌∙◌, subst}
use Prim.Native.Nat.{ℕ, ◌-◌, ◌*◌, ◌≤◌}
use native.Mathlib.Nat.{le_of_eq, le_of_lt, le_trans, mul-le-mul_right}
use native.Mathlib.Omega.{arith}
use lib.ListN.{length, drop, length-drop}
use lib.Seq.{take_all}
use Rattle.model.specs.Sampling.{factor}
use Rattle.tracks.specs.Values.{interpolation_of}
use Rattle.tracks.specs.Tracks.{track_in}
use Rattle.tracks.proofs.Drawn.{clear, keys_length, values_length}
use Rattle.tracks.proofs.Layouts.{few-rows}
use Rattle.animation.proofs.reading.frames_from.Lts
use Rattle.animation.proofs.reading.frames_from.Reads
use Rattle.animation.proofs.reading.frames_from.Tie
use Rattle.animation.proofs.reading.frames_from.Goals as goal

abbrev Start : Type 0
Start = Lts.Start Tie.the-claims Reads.Pre Reads.Post

-- frame k starts in the values, and so in the table, in rows of any width
module _ (s : Start) (f : ℕ) (e : f ≡ factor (interpolation_of s.args.t.interpolation)) where
  starts : s.args.k * f * s.args.width ≤ length (track_in s.args.floats.now s.args.t).values
  starts =
      let n = length (track_in s.args.floats.now s.args.t).keys in
      let in_rows : s.args.k * f ≤ n * factor (interpolation_of s.args.t.interpolation)
      = subst (λ (x : ℕ). s.args.k * f ≤ n * x) e (mul-le-mul_right f (le_of_lt s.requires.1)) in
      le_trans (mul-le-mul_right s.args.width in_rows) s.requires.2

  in_table : s.args.k * f * s.args.width ≤ length s.args.floats.now
  in_table =
      let floats = s.args.floats.now in
      le_trans starts (values_length floats s.args.t (clear floats s.args.t s.requires.0).inside)

pub overflow_mul-a : goal.overflow_mul-a
overflow_mul-a c =
    let floats = c.args.floats.now in
    let known = clear floats c.args.t c.requires.0 in
    let few : c.args.k ≤ 65535 = omega (arith, c.requires.1, keys_length floats c.args.t known.inside, known.few) in
    omega (arith, few-rows c.args.k c.factor.result few c.factor.ensures.2)

pub overflow_mul-a-2 : goal.overflow_mul-a-2
overflow_mul-a-2 c = omega (arith, in_table c.before.before.before.before _ c.factor.ensures.0)

pub offset_bounds-values-a : goal.offset_bounds-values-a
offset_bounds-values-a c = omega (arith, in_table c.before.before.before.before _ c.factor.ensures.0)

pub slice_bounds-result-count : goal.slice_bounds-result-count
slice_bounds-result-count c =
    omega (arith, starts c.before.before.before.before _ c.factor.ensures.0, ap length c.values_of-values.ensures)

pub slice_bounds-result-start : goal.slice_bounds-result-start
slice_bounds-result-start c =
    omega (arith, starts c.before.before.before.before _ c.factor.ensures.0, ap length c.values_of-values.ensures)

pub returns : goal.returns
returns c =
    let a = c.args in
    let values = c.values_of-values.result.now in
    let at = a.k * c.factor.result * a.width in
    take_all (length values - at) (drop at values) (le_of_eq (length-drop at values))
    ∙ (λ j. drop (a.k * c.factor.ensures.0 j * a.width) (c.values_of-values.ensures j))
