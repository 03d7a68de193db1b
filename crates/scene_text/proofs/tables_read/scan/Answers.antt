use Rattle.scene_text.proofs.tables_read.scan.Goals as goal

pub returns : goal.returns
returns c = record { slices = _; read = c.document.ensures.read }
