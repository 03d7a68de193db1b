use mathlib.Core.Path.{refl, ◌∙◌}
use lib.ListN.{length}
use Rattle.scene_text.proofs.ReadLaws.{number-told}
use Rattle.scene_text.proofs.AnswerLaws.{words-fit, scene-refused, scene-accepted}
use Rattle.scene_text.proofs.tables_read.read_scene.Goals as goal

pub returns-in_err-check : goal.returns-in_err-check
returns-in_err-check c =
    record {
      same = (refl, refl, refl, refl);
      read =
          scene-refused _ c.in_err-check.field-0.0 c.from_residual.ensures.1
          (c.in_err-check.ensures ∙ number-told c.scan-f.ensures _) refl;
    }

pub contents-requires : goal.contents-requires
contents-requires c = words-fit (length c.args.text.now) c.scan-f.result _ c.in_ok-check.ensures

pub returns : goal.returns
returns c =
    record {
      same = c.document.ensures.same;
      read = scene-accepted c.scan-f.ensures c.document.ensures.read c.in_ok-check.ensures c.contents.ensures;
    }
