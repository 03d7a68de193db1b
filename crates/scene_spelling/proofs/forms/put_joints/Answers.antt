use mathlib.Core.Path.{sym, ◌∙◌}
use Rattle.grammar.specs.Digits.{numbers}
use Rattle.spelling.specs.Pushed.{out_at}
use Rattle.scene_spelling.proofs.FieldLaws.{put-there, put-absent}
use Rattle.scene_spelling.proofs.forms.put_joints.Goals as goal

pub returns-then-is_marked : goal.returns-then-is_marked
returns-then-is_marked c =
    put-there 67 numbers (out_at c.args.out.now c.args.at)
    (sym c.is_marked.ensures ∙ c.if-is_marked.true) c.words_in.ensures
    c.put_items.ensures

pub returns : goal.returns
returns c = put-absent 67 numbers _ _ (sym c.is_marked.ensures ∙ c.if-is_marked.false)
