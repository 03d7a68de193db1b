use mathlib.Core.Path.{ap, ◌∙◌}
use mathlib.Core.List.{List, ◌++◌}
use native.Mathlib.Omega.{arith}
use lib.Ieee.{Float}
use lib.ListN.{drop}
use Rattle.model.proofs.Filling.{start, same_length, step, inside, filled}
use Rattle.animation.proofs.SourceLaws.{from-length}
use lib.Seq.{take_all}
use native.Mathlib.Nat.{le_of_eq}
use Rattle.animation.proofs.weights.write_weights.Goals as goal

pub loop-j-init : goal.loop-j-init
loop-j-init c =
    start _ _ _ (omega (arith, from-length c.args.frames.now c.args.n c.args.centre c.args.blend c.requires.0, c.requires.1))

pub weight_from-requires : goal.weight_from-requires
weight_from-requires c = (c.loop-j-test.true, c.requires.0)

pub bounds-out-j : goal.bounds-out-j
bounds-out-j c = (inside _ _ _ _ _ c.loop-j.invariant c.loop-j-test.true).1

pub offset_bounds-out-j : goal.offset_bounds-out-j
offset_bounds-out-j c = omega (arith, (inside _ _ _ _ _ c.loop-j.invariant c.loop-j-test.true).1)

pub loop-j-preserved : goal.loop-j-preserved
loop-j-preserved c = step _ _ _ _ _ _ _ c.loop-j.invariant c.loop-j-test.true c.weight_from.ensures

pub shape_of-out : goal.shape_of-out
shape_of-out c = same_length _ _ _ _ _ c.loop-j.invariant

pub returns : goal.returns
returns c =
    let a = c.args in
    filled _ _ _ _ _ c.loop-j.invariant c.loop-j-test.false
    ∙ ap (λ (l : List Float). l ++ drop a.n a.out.now)
    (take_all _ _ (le_of_eq (from-length a.frames.now a.n a.centre a.blend c.requires.0)))
