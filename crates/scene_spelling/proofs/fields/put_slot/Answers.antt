use mathlib.Core.Path.{sym, ap, ◌∙◌}
use Rattle.scene_spelling.specs.Written.{bits_of}
use Rattle.grammar.specs.Digits.{floats}
use Rattle.spelling.specs.Pushed.{out_at}
use Rattle.scene_spelling.proofs.FieldLaws.{put-there, put-absent}
use Rattle.scene_spelling.proofs.fields.put_slot.Goals as goal

pub returns-then-is_marked : goal.returns-then-is_marked
returns-then-is_marked c =
    put-there c.args.g floats (out_at c.args.out.now c.args.at)
    (sym c.is_marked.ensures ∙ c.if-is_marked.true) (ap bits_of c.floats_in.ensures)
    c.put_items.ensures

pub returns : goal.returns
returns c = put-absent c.args.g floats _ _ (sym c.is_marked.ensures ∙ c.if-is_marked.false)
