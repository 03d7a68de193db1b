use mathlib.Core.Path.{sym}
use Rattle.refusals.proofs.Told.{passed-on}
use Rattle.wire.specs.Bytes.{floats_in}
use Rattle.track_entries.proofs.Decoding.{enough-room, refused, accepted}
use Rattle.track_entries.proofs.bytes.sample_in.Goals as goal

pub returns-in_err-check_first : goal.returns-in_err-check_first
returns-in_err-check_first c =
    let a = c.args in
    let r = c.in_err-check_first.field-0.0 in
    rw (passed-on c.from_residual.result r c.from_residual.ensures.1)
    (refused _ a.time (floats_in a.table.now) a.room.now a.weights.now _ r c.in_err-check_first.ensures)

pub sample_decoded-requires : goal.sample_decoded-requires
sample_decoded-requires c =
    let a = c.args in
    enough-room a.table.now a.t a.time _ (sym c.in_ok-check_first.ensures)

pub returns : goal.returns
returns c =
    let a = c.args in
    accepted a.table.now a.t a.time a.room.now _ a.weights.now _ (sym c.in_ok-check_first.ensures) c.sample_decoded.ensures
