use mathlib.Core.Path.{refl, sym, ◌∙◌}
use mathlib.Core.Bool.{false}
use Rattle.animation.proofs.FrameCalls.{refused, nothing-drawn, frame-there, rows-there, row_inside, row-answered}
use Rattle.refusals.proofs.Told.{accepted as drawn-accepted, refused as drawn-refused}
use Rattle.animation.proofs.frames.morph_weight_frame.Goals as goal

pub returns-then-is_err : goal.returns-then-is_err
returns-then-is_err c =
    refused c.args.floats.now c.args.t false c.args.k _ c.check_frame.ensures (drawn-refused _ (sym c.is_err.ensures.value ∙ c.if-is_err.true))

pub stride_in-n-requires : goal.stride_in-n-requires
stride_in-n-requires c =
    nothing-drawn c.args.floats.now c.args.t false c.args.k _ c.check_frame.ensures (drawn-accepted _ (sym c.is_err.ensures.value ∙ c.if-is_err.false))

pub frames_from-requires : goal.frames_from-requires
frames_from-requires c =
    let floats = c.args.floats.now in
    let e = c.check_frame.ensures in (
      nothing-drawn floats c.args.t false c.args.k _ e (drawn-accepted _ (sym c.is_err.ensures.value ∙ c.if-is_err.false)),
      frame-there floats c.args.t false c.args.k _ e (drawn-accepted _ (sym c.is_err.ensures.value ∙ c.if-is_err.false)),
      rows-there floats c.args.t false c.args.k _ e (drawn-accepted _ (sym c.is_err.ensures.value ∙ c.if-is_err.false)) _ c.stride_in-n.ensures,
    )

pub row_of-requires : goal.row_of-requires
row_of-requires c =
    row_inside c.args.floats.now c.args.t false c.args.k _ c.check_frame.ensures (drawn-accepted _ (sym c.is_err.ensures.value ∙ c.if-is_err.false)) _
    c.stride_in-n.ensures _ c.frames_from.ensures _ c.centre.ensures.0

pub returns : goal.returns
returns c =
    c.row_of.ensures
    ∙ row-answered c.args.floats.now c.args.t false c.args.k _ c.check_frame.ensures (drawn-accepted _ (sym c.is_err.ensures.value ∙ c.if-is_err.false)) _
    c.stride_in-n.ensures _ c.frames_from.ensures _ c.centre.ensures.0 refl
