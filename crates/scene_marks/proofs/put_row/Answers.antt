use native.Mathlib.Omega.{arith}
use Rattle.scene_marks.specs.Marks.{row_of}
use Rattle.scene_marks.proofs.MarkLaws.{sets-out}
use Rattle.scene_marks.proofs.KindLaws.{kind-of-word, putting-starts, putting-length}
use Rattle.scene_marks.proofs.KindLaws.{putting-more, putting-ends}
use Rattle.scene_marks.proofs.put_row.Goals as goal

pub returns-then-words-at : goal.returns-then-words-at
returns-then-words-at c =
    let args = c.args in
    sets-out args.words.now args.at (row_of args.k args.marks.now) c.if-words-at.true

pub loop-w-preserved : goal.loop-w-preserved
loop-w-preserved c =
    putting-more c.loop-w.invariant c.loop-w-test.true c.store.ensures c.word_at.ensures

pub loop-w-init : goal.loop-w-init
loop-w-init c = putting-starts c.stride-n.ensures

pub overflow_add-at : goal.overflow_add-at
overflow_add-at c = omega (arith, kind-of-word c.args.k c.loop-w.w (omega arith))

pub word_at-requires : goal.word_at-requires
word_at-requires c = kind-of-word c.args.k c.loop-w.w (omega arith)

pub shape_of-words : goal.shape_of-words
shape_of-words c = putting-length c.loop-w.invariant

pub returns : goal.returns
returns c = putting-ends c.loop-w.invariant c.loop-w-test.false
