use mathlib.Core.Path.{ap, ◌∙◌}
use native.Mathlib.Omega.{arith}
use Rattle.brackets.specs.declared.Told.{Told}
use Rattle.brackets.proofs.RunLaws.{behind-met, list_read}
use Rattle.brackets.proofs.lists.read_floats.Goals as goal

pub told_run-t-requires : goal.told_run-t-requires
told_run-t-requires c = c.run_floats-r.ensures.0.run.whole

pub other_items-requires : goal.other_items-requires
other_items-requires c =
    let count = ap (λ (u : Told). u.count) c.told_run-t.ensures in
    let run = c.run_floats-r.ensures.0.run in
    (omega (arith, count, run.few), omega (arith, count, run.fits))

pub returns : goal.returns
returns c =
    let met = c.args.met in
    list_read c.run_floats-r.ensures.0 (c.met_behind-m.ensures ∙ behind-met met c.run_floats-r.ensures.0.run (λ e. c.run_floats-r.ensures.1 (c.is_here.ensures ∙ e)))
    c.told_run-t.ensures c.other_items.ensures
