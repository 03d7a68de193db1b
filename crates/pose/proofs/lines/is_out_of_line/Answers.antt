use mathlib.Core.Path.{◌∙◌}
use Rattle.float.specs.F32.{zero32}
use Rattle.refusals.proofs.Told.{is_keys_out_of_line}
use Rattle.pose.proofs.LineLaws.{zero-is-number, aimed, not-aimed}
use Rattle.pose.proofs.lines.is_out_of_line.Goals as goal

pub returns-then-row-n : goal.returns-then-row-n
returns-then-row-n c =
    c.eq.ensures
    ∙ is_keys_out_of_line _ c.check_sample.result
    ∙ aimed c.args.floats.now c.args.row c.args.n _ zero32 64 _ c.track_of.ensures c.requires zero-is-number c.check_sample.ensures
    c.if-row-n.true

pub returns : goal.returns
returns c =
    not-aimed c.args.floats.now c.args.row c.args.n c.if-row-n.false
