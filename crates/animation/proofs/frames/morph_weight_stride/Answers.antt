use mathlib.Core.Path.{sym, ◌∙◌}
use mathlib.Core.Bool.{true, false}
use Rattle.tracks.specs.Tracks.{track_in}
use Rattle.animation.proofs.FrameCalls.{stride-refused, stride-answered}
use Rattle.refusals.proofs.Told.{accepted as drawn-accepted, refused as drawn-refused}
use Rattle.animation.proofs.frames.morph_weight_stride.Goals as goal

pub returns-then-is_err : goal.returns-then-is_err
returns-then-is_err c =
    let floats = c.args.floats.now in
    let t = c.args.t in
    stride-refused (track_in floats t) _ _ c.check_table.ensures (drawn-refused _ (sym c.is_err.ensures.value ∙ c.if-is_err.true))

pub stride_in-requires : goal.stride_in-requires
stride_in-requires c = (sym c.check_table.ensures ∙ drawn-accepted _ (sym c.is_err.ensures.value ∙ c.if-is_err.false))

pub returns-then-is_scalar : goal.returns-then-is_scalar
returns-then-is_scalar c =
    let floats = c.args.floats.now in
    let t = c.args.t in
    c.stride_in.ensures ∙ stride-answered (track_in floats t) _ true (sym c.check_table.ensures ∙ drawn-accepted _ (sym c.is_err.ensures.value ∙ c.if-is_err.false)) (sym c.is_scalar.ensures ∙ c.if-is_scalar.true)

pub returns : goal.returns
returns c =
    let floats = c.args.floats.now in
    let t = c.args.t in
    stride-answered (track_in floats t) _ false (sym c.check_table.ensures ∙ drawn-accepted _ (sym c.is_err.ensures.value ∙ c.if-is_err.false)) (sym
    c.is_scalar.ensures ∙ c.if-is_scalar.false)
