use mathlib.Core.Path.{ap, ◌∙◌}
use Rattle.scene_marks.specs.Marks.{word_from}
use Rattle.scene_marks.proofs.word_at.Goals as goal

pub returns-in-Some : goal.returns-in-Some
returns-in-Some c =
    let a = c.args in
    c.word.ensures ∙ ap (word_from a.k a.marks.now) c.in-Some.ensures

pub returns-in-None : goal.returns-in-None
returns-in-None c = let a = c.args in ap (word_from a.k a.marks.now) c.in-None.ensures
