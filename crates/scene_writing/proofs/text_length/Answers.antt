use Rattle.scene_writing.proofs.WritingLaws.{length-refused, length-told}
use Rattle.scene_writing.proofs.text_length.Goals as goal

pub returns-in_err-check_tables : goal.returns-in_err-check_tables
returns-in_err-check_tables c =
    length-refused _ _ _ c.in_err-check_tables.field-0.0 c.from_residual.ensures.1 c.in_err-check_tables.ensures

pub returns : goal.returns
returns c = length-told _ _ _ c.in_ok-check_tables.ensures c.put_text.ensures
