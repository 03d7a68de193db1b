use mathlib.Core.Path.{◌≡◌, refl, ap, ◌∙◌}
use native.Mathlib.Omega.{arith}
use Rattle.grammar.specs.Parsed.{code_of}
use Rattle.scene_schema.specs.Numbers.{Named, titles, no_name}
use lib.ListN.{get_or}
use Prim.Native.Nat.{ℕ, ◌<◌}
use Rattle.scene_schema.specs.Schema.{kind_at}
use Rattle.scene_schema.proofs.Numbers.{kind-is}
use Rattle.scene_forms.proofs.FieldLaws.{same-more}
use Rattle.scene_forms.proofs.FormLaws.{forms-start, forms-other, forms-out, forms-more}
use Rattle.scene_forms.proofs.FormLaws.{titled-within}
use Rattle.scene_forms.proofs.forms.forms_of.Goals as goal

-- the code of the title
code_is : (k : ℕ) (n : Named) → k < 9 → n ≡ get_or titles k no_name → n.code ≡ code_of (kind_at k).title
code_is k n h e = ap (λ (n : Named). n.code) e ∙ (kind-is k h).title

pub loop-count-init : goal.loop-count-init
loop-count-init c = ((refl, refl, refl, refl), forms-start _ _ c.requires.0 (omega arith))

pub returns-then-w-title : goal.returns-then-w-title
returns-then-w-title c = record {
  same = c.loop-count.invariant.0;
  read =
      forms-other c.loop-count.invariant.1 (code_is _ _ c.requires.1 c.title-title.ensures) c.name-w.ensures
      c.if-w-title.true;
}

pub form-q-requires : goal.form-q-requires
form-q-requires c = (titled-within c.loop-count.invariant.1 c.name-w.ensures, c.requires.1)

pub loop-count-preserved : goal.loop-count-preserved
loop-count-preserved c = (
  same-more c.args.tables.now c.loop-count.tables c.form-q.new.tables c.loop-count.invariant.0 c.form-q.ensures.same,
  forms-more c.loop-count.invariant.1 (omega arith) (omega arith) (code_is _ _ c.requires.1 c.title-title.ensures)
      c.name-w.ensures c.if-w-title.false c.form-q.ensures.read,
)

pub returns : goal.returns
returns c = record {
  same = c.loop-count.invariant.0;
  read =
      forms-out c.loop-count.invariant.1 (omega arith) (omega (arith, c.loop-count.invariant.1.turns));
}
