use Rattle.scene_text.proofs.AnswerLaws.{room-refused, room-read}
use Rattle.scene_text.proofs.tables_read.text_room.Goals as goal

pub returns-in_err-check_reading : goal.returns-in_err-check_reading
returns-in_err-check_reading c =
    room-refused c.scan-f.ensures _ c.in_err-check_reading.field-0.0 c.from_residual.ensures.1
    c.in_err-check_reading.ensures

pub returns : goal.returns
returns c = room-read c.scan-f.ensures c.in_ok-check_reading.ensures c.lengths_from.ensures
