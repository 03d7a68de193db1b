use mathlib.Core.Path.{ap}
use mathlib.Core.Bool.{not}
use borrow.Author.Tests.{eq-eqb, ne_eqb}
use Rattle.grammar.specs.Digits.{floats}
use Rattle.spelling.proofs.Pushing.{put-append}
use Rattle.scene_spelling.specs.Written.{bits_of}
use Rattle.scene_spelling.proofs.FieldLaws.{put-there, put-absent}
use Rattle.scene_spelling.proofs.forms.put_base.Goals as goal

pub returns-then-form-eq0 : goal.returns-then-form-eq0
returns-then-form-eq0 c =
    let parts = eq-eqb _ _ c.if-form-eq0.true in
    put-append _ _ _
    (put-there 16 floats _ parts (ap bits_of c.floats_in.ensures) c.put_items.ensures)
    (put-absent 17 floats _ _ (ap not parts))

pub returns : goal.returns
returns c =
    let matrix = ne_eqb _ _ c.if-form-eq0.false in
    put-append _ _ _
    (put-absent 16 floats _ _ matrix)
    (put-there 17 floats _ (ap not matrix) (ap bits_of c.floats_in-2.ensures) c.put_items-2.ensures)
