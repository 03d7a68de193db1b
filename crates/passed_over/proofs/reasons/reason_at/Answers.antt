use mathlib.Core.Path.{◌≡◌, refl, sym, ◌∙◌}
use mathlib.Core.Bool.{true, false}
use borrow.Author.Tests.{le-leb, lt-leb}
use lib.Dec.{leb}
use Rattle.model.specs.Lists.{is_some}
use Rattle.tracks.specs.Tracks.{stride_in}
use Rattle.tracks.proofs.Drawn.{no-stride, some-stride}
use Rattle.pose_slots.specs.Channels.{channel_in}
use Rattle.passed_over.specs.Reasons.{fits, value_given}
use Rattle.passed_over.proofs.GiftLaws.{something-given}
use Rattle.passed_over.proofs.ReasonLaws.{by-tests}
use Rattle.passed_over.proofs.TableLaws.{few-keys, stride-told, fit-told, in-line}
use Rattle.passed_over.proofs.reasons.reason_at.Goals as goal

pub returns-then-n-row : goal.returns-then-n-row
returns-then-n-row c =
    let a = c.args in
    let t = channel_in a.floats.now a.row in
    sym (by-tests a.time a.n t true _ _ _ (le-leb a.n t.target c.if-n-row.true) refl refl refl)

pub track_stride-requires : goal.track_stride-requires
track_stride-requires c = few-keys c.args.floats.now c.args.row c.requires.0 _ c.track_of-track.ensures

pub returns-then-track_stride-eq0 : goal.returns-then-track_stride-eq0
returns-then-track_stride-eq0 c =
    let a = c.args in
    let t = channel_in a.floats.now a.row in
    let past : leb a.n t.target ≡ false = lt-leb a.n t.target c.if-n-row.false in
    let stride : c.track_stride.result ≡ stride_in t
    = stride-told a.floats.now a.row c.requires.0 _ c.track_of-track.ensures _ c.track_stride.ensures in
    sym (by-tests a.time a.n t false false _ _ past
    (no-stride t (sym stride ∙ c.if-track_stride-eq0.true)) refl refl)

pub returns-then-not-fits : goal.returns-then-not-fits
returns-then-not-fits c =
    let a = c.args in
    let t = channel_in a.floats.now a.row in
    let past : leb a.n t.target ≡ false = lt-leb a.n t.target c.if-n-row.false in
    let stride : c.track_stride.result ≡ stride_in t
    = stride-told a.floats.now a.row c.requires.0 _ c.track_of-track.ensures _ c.track_stride.ensures in
    let fit : fits t.property t.kind ≡ c.fits.result
    = fit-told a.floats.now a.row _ c.track_of-track.ensures c.property_of.result c.property_of.ensures _
    c.fits.ensures in
    sym (by-tests a.time a.n t false true false _ past (some-stride t _ stride c.if-track_stride-eq0.false)
    (fit ∙ c.if-not-fits.true) refl)

pub gift_at-requires : goal.gift_at-requires
gift_at-requires c =
    let a = c.args in
    (c.requires.0, c.requires.1, in-line a.floats.now a.row a.n c.requires.2 c.if-n-row.false)

pub returns-then-is_some : goal.returns-then-is_some
returns-then-is_some c =
    let a = c.args in
    let t = channel_in a.floats.now a.row in
    let past : leb a.n t.target ≡ false = lt-leb a.n t.target c.if-n-row.false in
    let stride : c.track_stride.result ≡ stride_in t
    = stride-told a.floats.now a.row c.requires.0 _ c.track_of-track.ensures _ c.track_stride.ensures in
    let fit : fits t.property t.kind ≡ c.fits.result
    = fit-told a.floats.now a.row _ c.track_of-track.ensures c.property_of.result c.property_of.ensures _
    c.fits.ensures in
    let value : is_some (value_given a.time t) ≡ c.is_some.result
    = something-given _ _ _ _ c.gift_at.ensures ∙ sym c.is_some.ensures in
    sym (by-tests a.time a.n t false true true true past (some-stride t _ stride c.if-track_stride-eq0.false)
    (fit ∙ c.if-not-fits.false) (value ∙ c.if-is_some.true))

pub returns : goal.returns
returns c =
    let a = c.args in
    let t = channel_in a.floats.now a.row in
    let past : leb a.n t.target ≡ false = lt-leb a.n t.target c.if-n-row.false in
    let stride : c.track_stride.result ≡ stride_in t
    = stride-told a.floats.now a.row c.requires.0 _ c.track_of-track.ensures _ c.track_stride.ensures in
    let fit : fits t.property t.kind ≡ c.fits.result
    = fit-told a.floats.now a.row _ c.track_of-track.ensures c.property_of.result c.property_of.ensures _
    c.fits.ensures in
    let value : is_some (value_given a.time t) ≡ c.is_some.result
    = something-given _ _ _ _ c.gift_at.ensures ∙ sym c.is_some.ensures in
    sym (by-tests a.time a.n t false true true false past (some-stride t _ stride c.if-track_stride-eq0.false)
    (fit ∙ c.if-not-fits.false) (value ∙ c.if-is_some.false))
