use mathlib.Core.Path.{refl}
use borrow.Author.Tests.{eq-eqb, ne_eqb}
use Rattle.grammar.specs.Digits.{numbers}
use Rattle.spelling.specs.Pushed.{out_at}
use Rattle.scene_spelling.proofs.FieldLaws.{put-there, put-absent}
use Rattle.scene_spelling.proofs.fields.put_tag.Goals as goal

pub returns-then-tag-n : goal.returns-then-tag-n
returns-then-tag-n c =
    put-there c.args.g numbers (out_at c.args.out.now c.args.at) (eq-eqb _ _ c.if-tag-n.true) refl c.put_items.ensures

pub returns : goal.returns
returns c = put-absent c.args.g numbers _ _ (ne_eqb _ _ c.if-tag-n.false)
