use mathlib.Core.Path.{refl}
use borrow.Author.Rules.{rules}
use Rattle.scene_writing.proofs.WritingLaws.{write-refused, write-short, write-whole}
use Rattle.scene_writing.proofs.write_scene.Goals as goal

pub returns-in_err-needed : goal.returns-in_err-needed
returns-in_err-needed c =
    write-refused _ _ _ _ c.in_err-needed.field-0.0 c.from_residual.ensures.1 c.in_err-needed.ensures refl

pub returns-then-out-needed : goal.returns-then-out-needed
returns-then-out-needed c = write-short _ _ _ c.in_ok-needed.ensures c.if-out-needed.true refl

pub returns : goal.returns
returns c =
    write-whole _ _ _ c.in_ok-needed.ensures c.if-out-needed.false (search rules) c.put_text.ensures
