use mathlib.Core.Path.{refl}
use native.Mathlib.Omega.{arith}
use Rattle.scene_forms.proofs.FieldLaws.{same-more}
use Rattle.scene_forms.proofs.DocumentLaws.{document-start, document-more, document-done}
use Rattle.scene_forms.proofs.forms.document.Goals as goal

pub loop-k-init : goal.loop-k-init
loop-k-init c = ((refl, refl, refl, refl), document-start _ _ _ _ c.start-p.ensures refl refl)

pub forms_of-b-requires : goal.forms_of-b-requires
forms_of-b-requires c =
    (c.loop-k.invariant.1.within, c.loop-k-test.true)

pub bounds-counts-k : goal.bounds-counts-k
bounds-counts-k c = omega (arith, c.loop-k-test.true, c.loop-k.invariant.1.nine)

pub bounds-reaches-k : goal.bounds-reaches-k
bounds-reaches-k c = omega (arith, c.loop-k-test.true, c.loop-k.invariant.1.reached)

pub loop-k-preserved : goal.loop-k-preserved
loop-k-preserved c = (
  same-more c.args.tables.now c.loop-k.tables c.forms_of-b.new.tables c.loop-k.invariant.0 c.forms_of-b.ensures.same,
  document-more c.loop-k.invariant.1 c.loop-k-test.true c.forms_of-b.ensures.read refl refl,
)

pub returns : goal.returns
returns c =
    record {
      same = c.loop-k.invariant.0;
      read = document-done c.loop-k.invariant.1 _ _ c.start-p.ensures c.loop-k-test.false refl;
    }
