use mathlib.Core.Path.{ap, ◌∙◌}
use Rattle.std.proofs.Common.{Result, Ok}
use Rattle.refusals.specs.declared.Refusal.{Refusal}
use Rattle.animation.specs.declared.SampledValue.{SampledValue}
use Rattle.animation.specs.Values.{answer_of}
use Rattle.tables.specs.Tags.{track_for}
use Rattle.bake_writing.proofs.PosedWeights.{weighed}
use Rattle.bake_writing.proofs.weighing.posed_weights.Goals as goal

pub returns-in-Ok-Vec3 : goal.returns-in-Ok-Vec3
returns-in-Ok-Vec3 c =
    weighed _ _ _ _ _ _ c.sample.result _ (c.track_of-t.ensures ∙ ap track_for c.channel_row.ensures) c.sample-arg-1.given.0.1 c.sample.ensures
    (ap (λ (v : Result SampledValue Refusal). (answer_of v c.sample.new.out).weights) (c.in-Ok-Vec3.is ∙ ap Ok c.in-Ok-Vec3.field-0-is)) (c.sample.auto.out ∙ c.sample-arg-1.given.0.1)

pub returns-in-Ok-Quat : goal.returns-in-Ok-Quat
returns-in-Ok-Quat c =
    weighed _ _ _ _ _ _ c.sample.result _ (c.track_of-t.ensures ∙ ap track_for c.channel_row.ensures) c.sample-arg-1.given.0.1 c.sample.ensures
    (ap (λ (v : Result SampledValue Refusal). (answer_of v c.sample.new.out).weights) (c.in-Ok-Quat.is ∙ ap Ok c.in-Ok-Quat.field-0-is)) (c.sample.auto.out ∙ c.sample-arg-1.given.0.1)

pub returns-in-Ok-Scalar : goal.returns-in-Ok-Scalar
returns-in-Ok-Scalar c =
    weighed _ _ _ _ _ _ c.sample.result _ (c.track_of-t.ensures ∙ ap track_for c.channel_row.ensures) c.sample-arg-1.given.0.1 c.sample.ensures
    (ap (λ (v : Result SampledValue Refusal). (answer_of v c.sample.new.out).weights) (c.in-Ok-Scalar.is ∙ ap Ok c.in-Ok-Scalar.field-0-is)) (c.sample.auto.out ∙ c.sample-arg-1.given.0.1)

pub returns-in-Err : goal.returns-in-Err
returns-in-Err c =
    weighed _ _ _ _ _ _ c.sample.result _ (c.track_of-t.ensures ∙ ap track_for c.channel_row.ensures) c.sample-arg-1.given.0.1 c.sample.ensures
    (ap (λ (v : Result SampledValue Refusal). (answer_of v c.sample.new.out).weights) c.in-Err.is) (c.sample.auto.out ∙ c.sample-arg-1.given.0.1)
