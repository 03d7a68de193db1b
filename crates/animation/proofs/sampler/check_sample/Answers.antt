use mathlib.Core.Path.{refl, sym, ap, ◌∙◌}
use mathlib.Core.Bool.{true, false}
use native.Mathlib.Omega.{arith}
use Rattle.model.specs.Sampling.{in_line}
use Rattle.model.proofs.Numbers.{sample-drawn, sample-tests}
use Rattle.tracks.specs.Tracks.{track_in}
use Rattle.tracks.proofs.Drawn.{no-stride}
use Rattle.animation.proofs.SampleCalls.{last-tests}
use Rattle.refusals.proofs.Told.{above-none, passed-on}
use Rattle.refusals.specs.Drawn.{number_drawn}
use Rattle.animation.proofs.sampler.check_sample.Goals as goal

pub returns-in_err-check_table : goal.returns-in_err-check_table
returns-in_err-check_table c =
    let a = c.args in
    let r = c.in_err-check_table.field-0.0 in
    let e = c.in_err-check_table.ensures in
    ap number_drawn (passed-on c.from_residual.result r c.from_residual.ensures.1)
    ∙ e ∙ sym (sample-drawn (track_in a.floats.now a.t) a.time a.room _ (omega (arith, e, above-none r)))

pub returns-then-is_nan : goal.returns-then-is_nan
returns-then-is_nan c =
    let floats = c.args.floats.now in
    let t = c.args.t in
    sym (sample-tests (track_in floats t) c.args.time c.args.room _ true _ _ _ (sym c.in_ok-check_table.ensures) (sym c.is_nan.ensures ∙ c.if-is_nan.true) refl refl refl)

pub stride_in-stride-requires : goal.stride_in-stride-requires
stride_in-stride-requires c = (sym c.in_ok-check_table.ensures)

pub returns-then-stride-eq0 : goal.returns-then-stride-eq0
returns-then-stride-eq0 c =
    let floats = c.args.floats.now in
    let t = c.args.t in
    let tr = track_in floats t in
    sym (sample-tests tr c.args.time c.args.room _ false false _ _ (sym c.in_ok-check_table.ensures) (sym c.is_nan.ensures ∙ c.if-is_nan.false) (no-stride tr
    (sym c.stride_in-stride.ensures ∙ c.if-stride-eq0.true)) refl refl)

pub keys_of-requires : goal.keys_of-requires
keys_of-requires c = (sym c.in_ok-check_table.ensures)

pub returns-then-not-keys_in_line : goal.returns-then-not-keys_in_line
returns-then-not-keys_in_line c =
    last-tests c.args.floats.now c.args.t c.args.time c.args.room false _ _
    (sym c.in_ok-check_table.ensures)
    (sym c.is_nan.ensures ∙ c.if-is_nan.false)
    c.stride_in-stride.ensures
    c.if-stride-eq0.false
    (ap in_line (sym c.keys_of.ensures) ∙ sym c.keys_in_line.ensures ∙ c.if-not-keys_in_line.true)
    refl

pub returns-then-short_for : goal.returns-then-short_for
returns-then-short_for c =
    last-tests c.args.floats.now c.args.t c.args.time c.args.room true true _
    (sym c.in_ok-check_table.ensures)
    (sym c.is_nan.ensures ∙ c.if-is_nan.false)
    c.stride_in-stride.ensures
    c.if-stride-eq0.false
    (ap in_line (sym c.keys_of.ensures) ∙ sym c.keys_in_line.ensures ∙ c.if-not-keys_in_line.false)
    (sym c.short_for.ensures ∙ c.if-short_for.true)

pub returns : goal.returns
returns c =
    last-tests c.args.floats.now c.args.t c.args.time c.args.room true false _
    (sym c.in_ok-check_table.ensures)
    (sym c.is_nan.ensures ∙ c.if-is_nan.false)
    c.stride_in-stride.ensures
    c.if-stride-eq0.false
    (ap in_line (sym c.keys_of.ensures) ∙ sym c.keys_in_line.ensures ∙ c.if-not-keys_in_line.false)
    (sym c.short_for.ensures ∙ c.if-short_for.false)
