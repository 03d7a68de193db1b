use Rattle.std.proofs.Common.{sym, ◌∙◌}
use lib.ListN.{get_or-map}
use Rattle.float.specs.F32.{f32}
use Rattle.model.proofs.Filling.{step}
use Rattle.lists.proofs.fields.copy_floats.Goals as goal

pub loop-i-preserved : goal.loop-i-preserved
loop-i-preserved c =
    step _ _ _ _ _ _ (f32 0) c.loop-i.invariant c.loop-i-test.true
    (c.from_bits.ensures ∙ sym (get_or-map f32 c.args.bits.now c.loop-i.i 0))
