use mathlib.Core.Path.{◌∙◌}
use Rattle.tracks.proofs.Drawn.{clear, stride-is}
use Rattle.animation.proofs.frames.stride_in.Goals as goal

pub track_stride-requires : goal.track_stride-requires
track_stride-requires c = (clear c.args.floats.now c.args.t c.requires).few

pub returns : goal.returns
returns c =
    let floats = c.args.floats.now in
    c.track_stride.ensures ∙ stride-is floats c.args.t (clear floats c.args.t c.requires).inside
