use mathlib.Core.Path.{refl, sym, ◌∙◌}
use Rattle.grammar.specs.Digits.{numbers}
use Rattle.spelling.specs.Pushed.{out_at}
use Rattle.scene_spelling.proofs.FieldLaws.{put-there, put-absent}
use Rattle.scene_spelling.proofs.fields.put_id.Goals as goal

pub returns-then-is_marked : goal.returns-then-is_marked
returns-then-is_marked c =
    put-there c.args.g numbers (out_at c.args.out.now c.args.at)
    (sym c.is_marked.ensures ∙ c.if-is_marked.true) refl c.put_number.ensures

pub returns : goal.returns
returns c = put-absent c.args.g numbers _ _ (sym c.is_marked.ensures ∙ c.if-is_marked.false)
