use mathlib.Core.Path.{◌≡◌, refl, sym, ap, ◌∙◌}
use mathlib.Core.Bool.{true, false}
use native.Mathlib.Omega.{arith}
use lib.Ieee.{binary32, of_bits}
use Rattle.model.specs.Limits.{weight_limit}
use Rattle.model.specs.Sampling.{in_line}
use Rattle.model.proofs.Numbers.{sample-drawn, sample-tests}
use Rattle.wire.specs.Bytes.{floats_in}
use Rattle.wire.proofs.Reading as reading
use Rattle.tracks.specs.Tracks.{track_in, table_number, stride_in}
use Rattle.tracks.proofs.Drawn.{clear, stride-is, no-stride, some-stride}
use Rattle.byte_tracks.proofs.WeightRoom.{roomy}
use Rattle.refusals.specs.Drawn.{number_drawn}
use Rattle.refusals.proofs.Told.{above-none, passed-on}
use Rattle.byte_tracks.proofs.check_sample.Goals as goal

pub returns-in_err-check_in : goal.returns-in_err-check_in
returns-in_err-check_in c =
    let a = c.args in
    let floats = floats_in a.table.now in
    let r = c.in_err-check_in.field-0.0 in
    let told = c.in_err-check_in.ensures floats (reading.count (of_bits binary32) a.table.now) in
    ap number_drawn (passed-on c.from_residual.result r c.from_residual.ensures.1)
    ∙ told ∙ sym (sample-drawn (track_in floats a.t) a.time weight_limit _ (omega (arith, told, above-none r)))

pub returns-then-is_nan : goal.returns-then-is_nan
returns-then-is_nan c =
    let a = c.args in
    let floats = floats_in a.table.now in
    let tr = track_in floats a.t in
    let none : table_number floats a.t ≡ 0
    = sym (c.in_ok-check_in.ensures floats (reading.count (of_bits binary32) a.table.now)) in
    sym (sample-tests tr a.time weight_limit _ true _ _ _ none (sym c.is_nan.ensures ∙ c.if-is_nan.true)
    refl refl refl)

pub track_stride-requires : goal.track_stride-requires
track_stride-requires c =
    let a = c.args in
    let floats = floats_in a.table.now in
    let tr = track_in floats a.t in
    let none : table_number floats a.t ≡ 0
    = sym (c.in_ok-check_in.ensures floats (reading.count (of_bits binary32) a.table.now)) in
    (clear floats a.t none).few

pub returns-then-track_stride-eq0 : goal.returns-then-track_stride-eq0
returns-then-track_stride-eq0 c =
    let a = c.args in
    let floats = floats_in a.table.now in
    let tr = track_in floats a.t in
    let none : table_number floats a.t ≡ 0
    = sym (c.in_ok-check_in.ensures floats (reading.count (of_bits binary32) a.table.now)) in
    let stride-told : c.track_stride.result ≡ stride_in tr
    = c.track_stride.ensures ∙ stride-is floats a.t (clear floats a.t none).inside in
    sym (sample-tests tr a.time weight_limit _ false false _ _ none
    (sym c.is_nan.ensures ∙ c.if-is_nan.false)
    (no-stride tr (sym stride-told ∙ c.if-track_stride-eq0.true)) refl refl)

pub keys_of-requires : goal.keys_of-requires
keys_of-requires c =
    let a = c.args in
    let floats = floats_in a.table.now in
    let tr = track_in floats a.t in
    let none : table_number floats a.t ≡ 0
    = sym (c.in_ok-check_in.ensures floats (reading.count (of_bits binary32) a.table.now)) in
    none

pub returns-then-not-keys_in_line : goal.returns-then-not-keys_in_line
returns-then-not-keys_in_line c =
    let a = c.args in
    let floats = floats_in a.table.now in
    let tr = track_in floats a.t in
    let none : table_number floats a.t ≡ 0
    = sym (c.in_ok-check_in.ensures floats (reading.count (of_bits binary32) a.table.now)) in
    let stride-told : c.track_stride.result ≡ stride_in tr
    = c.track_stride.ensures ∙ stride-is floats a.t (clear floats a.t none).inside in
    let is-even = some-stride tr _ stride-told c.if-track_stride-eq0.false in
    let line = ap in_line (sym c.keys_of.ensures) ∙ sym c.keys_in_line.ensures ∙ c.if-not-keys_in_line.true in
    sym (sample-tests tr a.time weight_limit _ false true false false none
    (sym c.is_nan.ensures ∙ c.if-is_nan.false) is-even line
    (roomy tr a.time (clear floats a.t none).within is-even))

pub returns : goal.returns
returns c =
    let a = c.args in
    let floats = floats_in a.table.now in
    let tr = track_in floats a.t in
    let none : table_number floats a.t ≡ 0
    = sym (c.in_ok-check_in.ensures floats (reading.count (of_bits binary32) a.table.now)) in
    let stride-told : c.track_stride.result ≡ stride_in tr
    = c.track_stride.ensures ∙ stride-is floats a.t (clear floats a.t none).inside in
    let is-even = some-stride tr _ stride-told c.if-track_stride-eq0.false in
    let line = ap in_line (sym c.keys_of.ensures) ∙ sym c.keys_in_line.ensures ∙ c.if-not-keys_in_line.false in
    sym (sample-tests tr a.time weight_limit _ false true true false none
    (sym c.is_nan.ensures ∙ c.if-is_nan.false) is-even line
    (roomy tr a.time (clear floats a.t none).within is-even))
