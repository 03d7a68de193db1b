use native.Mathlib.Omega.{arith}
use Rattle.animation.proofs.SourceLaws.{within, held-weight, line-weight, spline-weight}
use Rattle.animation.proofs.weights.weight_from.Goals as goal

pub entry_of-requires : goal.entry_of-requires
entry_of-requires c =
    (c.requires.0, within _ _ _ _ _ _ c.in-Held.is (omega arith) c.requires.1)

pub entry_of-requires-in-Line : goal.entry_of-requires-in-Line
entry_of-requires-in-Line c =
    (c.requires.0, within _ _ _ _ _ _ c.in-Line.is (omega arith) c.requires.1)

pub entry_of-requires-in-Line-2 : goal.entry_of-requires-in-Line-2
entry_of-requires-in-Line-2 c =
    (c.requires.0, within _ _ _ _ _ _ c.in-Line.is (omega arith) c.requires.1)

pub entry_of-v-requires : goal.entry_of-v-requires
entry_of-v-requires c =
    (c.requires.0, within _ _ _ _ _ _ c.in-Spline.is (omega arith) c.requires.1)

pub entry_of-out-requires : goal.entry_of-out-requires
entry_of-out-requires c =
    (c.requires.0, within _ _ _ _ _ _ c.in-Spline.is (omega arith) c.requires.1)

pub entry_of-into-requires : goal.entry_of-into-requires
entry_of-into-requires c =
    (c.requires.0, within _ _ _ _ _ _ c.in-Spline.is (omega arith) c.requires.1)

pub entry_of-requires-in-Spline : goal.entry_of-requires-in-Spline
entry_of-requires-in-Spline c =
    (c.requires.0, within _ _ _ _ _ _ c.in-Spline.is (omega arith) c.requires.1)

pub returns-in-Held : goal.returns-in-Held
returns-in-Held c =
    held-weight c.args.frames.now c.args.n c.args.centre c.args.blend c.args.j c.requires.0 c.requires.1 _
    c.in-Held.is c.entry_of.ensures

pub returns-in-Line : goal.returns-in-Line
returns-in-Line c =
    line-weight c.args.frames.now c.args.n c.args.centre c.args.blend c.args.j c.requires.0 c.requires.1 _ _ _ _
    c.in-Line.is c.lerp.ensures c.entry_of-in-Line.ensures c.entry_of-in-Line-2.ensures

pub returns-in-Spline : goal.returns-in-Spline
returns-in-Spline c =
    spline-weight c.args.frames.now c.args.n c.args.centre c.args.blend c.args.j c.requires.0 c.requires.1 _ _ _ _ _ _ _
    c.in-Spline.is c.cubic.ensures c.entry_of-v.ensures c.entry_of-out.ensures c.entry_of-in-Spline.ensures c.entry_of-into.ensures
