use mathlib.Core.Path.{refl, ap, subst, ◌∙◌}
use mathlib.Core.Option.{none}
use Rattle.std.proofs.Common.{Result, Ok}
use Rattle.refusals.specs.declared.Refusal.{Refusal}
use Rattle.animation.specs.declared.SampledValue.{SampledValue}
use Rattle.tracks.specs.Tracks.{track_in}
use Rattle.tables.specs.Tags.{track_for}
use Rattle.pose_slots.proofs.GiftLaws.{no-gift}
use Rattle.pose_slots.proofs.SampledGifts.{Told, answered, handed}
use Rattle.pose_slots.proofs.gifts.gift_at.Goals as goal

pub returns-in-Ok-Vec3 : goal.returns-in-Ok-Vec3
returns-in-Ok-Vec3 c =
    let floats = c.args.floats.now in
    let row = c.args.row in
    let time = c.args.time in
    let tr = track_in floats (track_for row) in
    let t = subst (λ (x : Result SampledValue Refusal). Told tr time x) (c.in-Ok-Vec3.is ∙ ap Ok c.in-Ok-Vec3.field-0-is)
    (answered floats row time _ _ _ c.sample.result c.track_of.ensures c.requires.0 c.requires.1 c.requires.2 refl c.sample.ensures) in
    handed floats row time _ _ _ _ c.of_vec3.ensures c.property_of.ensures t.0 t.1

pub returns-in-Ok-Quat : goal.returns-in-Ok-Quat
returns-in-Ok-Quat c =
    let floats = c.args.floats.now in
    let row = c.args.row in
    let time = c.args.time in
    let tr = track_in floats (track_for row) in
    let t = subst (λ (x : Result SampledValue Refusal). Told tr time x) (c.in-Ok-Quat.is ∙ ap Ok c.in-Ok-Quat.field-0-is)
    (answered floats row time _ _ _ c.sample.result c.track_of.ensures c.requires.0 c.requires.1 c.requires.2 refl c.sample.ensures) in
    handed floats row time _ _ _ _ c.of_quat.ensures c.property_of-in-Ok-Quat.ensures t.0 t.1

pub returns-in-Ok-Scalar : goal.returns-in-Ok-Scalar
returns-in-Ok-Scalar c =
    let floats = c.args.floats.now in
    let row = c.args.row in
    let time = c.args.time in
    let tr = track_in floats (track_for row) in
    let t = subst (λ (x : Result SampledValue Refusal). Told tr time x) (c.in-Ok-Scalar.is ∙ ap Ok c.in-Ok-Scalar.field-0-is)
    (answered floats row time _ _ _ c.sample.result c.track_of.ensures c.requires.0 c.requires.1 c.requires.2 refl c.sample.ensures) in
    handed floats row time _ _ _ _ (c.of_scalars.ensures _) c.property_of-in-Ok-Scalar.ensures t.0 t.1

pub returns-in-Err : goal.returns-in-Err
returns-in-Err c =
    let floats = c.args.floats.now in
    let row = c.args.row in
    let time = c.args.time in
    let tr = track_in floats (track_for row) in
    let t = subst (λ (x : Result SampledValue Refusal). Told tr time x) c.in-Err.is
    (answered floats row time _ _ _ c.sample.result c.track_of.ensures c.requires.0 c.requires.1 c.requires.2 refl c.sample.ensures) in
    handed floats row time _ _ _ _ (no-gift _ tr.kind none refl) refl refl t
