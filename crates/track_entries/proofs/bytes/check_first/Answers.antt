use mathlib.Core.Path.{refl, ap, ◌∙◌}
use Rattle.refusals.specs.Drawn.{number_drawn}
use Rattle.refusals.proofs.Told.{not-none, passed-on}
use Rattle.track_entries.proofs.Decoding.{drawn-before, room-short, none-short}
use Rattle.track_entries.proofs.bytes.check_first.Goals as goal

pub returns-in_err-check_sample : goal.returns-in_err-check_sample
returns-in_err-check_sample c =
    let a = c.args in
    let r = c.in_err-check_sample.field-0.0 in
    ap number_drawn (passed-on c.from_residual.result r c.from_residual.ensures.1)
    ∙ drawn-before a.table.now a.t a.time a.room _ c.in_err-check_sample.ensures (not-none r)

pub returns-then-room-table : goal.returns-then-room-table
returns-then-room-table c =
    let a = c.args in
    room-short a.table.now a.t a.time a.room _ c.in_ok-check_sample.ensures refl c.if-room-table.true

pub returns : goal.returns
returns c =
    let a = c.args in
    none-short a.table.now a.t a.time a.room _ c.in_ok-check_sample.ensures refl c.if-room-table.false
