use mathlib.Core.Path.{refl, sym, ◌∙◌}
use mathlib.Core.Bool.{true}
use native.Mathlib.Omega.{arith}
use Rattle.animation.proofs.FrameCalls.{refused, nothing-drawn, frame-there, rows-there, three-small, three-inside, three-answered}
use Rattle.refusals.proofs.Told.{accepted as drawn-accepted, refused as drawn-refused}
use Rattle.animation.proofs.frames.morph_weight_cubic_frame.Goals as goal

pub returns-then-is_err : goal.returns-then-is_err
returns-then-is_err c =
    refused c.args.floats.now c.args.t true c.args.k _ c.check_frame.ensures (drawn-refused _ (sym c.is_err.ensures.value ∙ c.if-is_err.true))

pub stride_in-n-requires : goal.stride_in-n-requires
stride_in-n-requires c =
    nothing-drawn c.args.floats.now c.args.t true c.args.k _ c.check_frame.ensures (drawn-accepted _ (sym c.is_err.ensures.value ∙ c.if-is_err.false))

pub frames_from-requires : goal.frames_from-requires
frames_from-requires c =
    let floats = c.args.floats.now in
    let e = c.check_frame.ensures in (
      nothing-drawn floats c.args.t true c.args.k _ e (drawn-accepted _ (sym c.is_err.ensures.value ∙ c.if-is_err.false)),
      frame-there floats c.args.t true c.args.k _ e (drawn-accepted _ (sym c.is_err.ensures.value ∙ c.if-is_err.false)),
      rows-there floats c.args.t true c.args.k _ e (drawn-accepted _ (sym c.is_err.ensures.value ∙ c.if-is_err.false)) _ c.stride_in-n.ensures,
    )

pub overflow_mul-n : goal.overflow_mul-n
overflow_mul-n c =
    omega (
      arith,
      three-small c.args.floats.now c.args.t true c.args.k _ c.check_frame.ensures (drawn-accepted _ (sym c.is_err.ensures.value ∙ c.if-is_err.false)) _
          c.stride_in-n.ensures _ c.frames_from.ensures refl,
    )

pub row_of-requires : goal.row_of-requires
row_of-requires c =
    three-inside c.args.floats.now c.args.t true c.args.k _ c.check_frame.ensures (drawn-accepted _ (sym c.is_err.ensures.value ∙ c.if-is_err.false)) _
    c.stride_in-n.ensures _ c.frames_from.ensures refl

pub returns : goal.returns
returns c =
    c.row_of.ensures
    ∙ three-answered c.args.floats.now c.args.t true c.args.k _ c.check_frame.ensures (drawn-accepted _ (sym c.is_err.ensures.value ∙ c.if-is_err.false)) _
    c.stride_in-n.ensures _ c.frames_from.ensures refl
