use mathlib.Core.Path.{◌≡◌, refl, sym, ap, ◌∙◌}
use mathlib.Core.Bool.{Bool}
use Prim.Native.Nat.{ℕ}
use native.Mathlib.Omega.{arith}
use lib.ListN.{length}
use Rattle.model.specs.Refusals.{bad_frame}
use Rattle.model.proofs.Numbers.{frame-drawn, frame-tests}
use Rattle.tracks.specs.Values.{interpolation_of, kind_of}
use Rattle.tracks.specs.Tracks.{track_in, table_number}
use mathlib.Core.List.{List}
use lib.Ieee.{Float}
use Rattle.tracks.proofs.Drawn.{clear, keys_length, no-stride, some-stride}
use Rattle.tracks.specs.declared.Track.{Track}
use Rattle.refusals.proofs.Told.{above-none, passed-on}
use Rattle.refusals.specs.Drawn.{number_drawn}
use Rattle.animation.proofs.frames.check_frame.Goals as goal

pub returns-in_err-check_table : goal.returns-in_err-check_table
returns-in_err-check_table c =
    let a = c.args in
    let r = c.in_err-check_table.field-0.0 in
    let e = c.in_err-check_table.ensures in
    ap number_drawn (passed-on c.from_residual.result r c.from_residual.ensures.1)
    ∙ e ∙ sym (frame-drawn (track_in a.floats.now a.t) a.rows a.k _ (omega (arith, e, above-none r)))

pub stride_in-requires : goal.stride_in-requires
stride_in-requires c = sym c.in_ok-check_table.ensures

pub returns-then-stride_in-eq0 : goal.returns-then-stride_in-eq0
returns-then-stride_in-eq0 c =
    let a = c.args in
    let t = track_in a.floats.now a.t in
    sym (frame-tests t a.rows a.k _ _ _ (sym c.in_ok-check_table.ensures) (no-stride t (sym c.stride_in.ensures ∙ c.if-stride_in-eq0.true)) refl)

-- what `bad_frame` was asked, of the track itself
asked : (floats : List Float) (t : Track) (rows : Bool) (k : ℕ) (b : Bool) → table_number floats t ≡ 0
    → b ≡ bad_frame (kind_of t.kind) (interpolation_of t.interpolation) t.keys.count rows k
    → b ≡ bad_frame (kind_of t.kind) (interpolation_of t.interpolation) (length (track_in floats t).keys) rows k
asked floats t rows k b z e =
    e
    ∙ ap (λ (n : ℕ). bad_frame (kind_of t.kind) (interpolation_of t.interpolation) n rows k)
    (sym (keys_length floats t (clear floats t z).inside))

pub returns-then-bad_frame : goal.returns-then-bad_frame
returns-then-bad_frame c =
    let a = c.args in
    let t = track_in a.floats.now a.t in
    sym (frame-tests t a.rows a.k _ _ _
    (sym c.in_ok-check_table.ensures)
    (some-stride t c.stride_in.result c.stride_in.ensures c.if-stride_in-eq0.false)
    (sym (asked a.floats.now a.t a.rows a.k _ (sym c.in_ok-check_table.ensures) c.bad_frame.ensures) ∙ c.if-bad_frame.true))

pub returns : goal.returns
returns c =
    let a = c.args in
    let t = track_in a.floats.now a.t in
    sym (frame-tests t a.rows a.k _ _ _
    (sym c.in_ok-check_table.ensures)
    (some-stride t c.stride_in.result c.stride_in.ensures c.if-stride_in-eq0.false)
    (sym (asked a.floats.now a.t a.rows a.k _ (sym c.in_ok-check_table.ensures) c.bad_frame.ensures) ∙ c.if-bad_frame.false))
