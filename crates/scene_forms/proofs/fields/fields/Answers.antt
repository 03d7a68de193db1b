use mathlib.Core.Path.{◌≡◌, refl}
use Prim.Native.Nat.{ℕ, ◌<◌}
use native.Mathlib.Omega.{arith}
use borrow.Author.Rules.{rules}
use lib.ListN.{length, get_or}
use Rattle.scene_schema.specs.Numbers.{slot_counts}
use Rattle.scene_schema.specs.Schema.{kind_at}
use Rattle.scene_schema.proofs.Numbers.{kind-is}
use Rattle.scene_marks.specs.Marks.{no_mark}
use Rattle.scene_forms.proofs.FieldLaws.{same-more, fields-start, fields-more, fields-done}
use Rattle.scene_forms.proofs.fields.fields.Goals as goal

pub loop-j-init : goal.loop-j-init
loop-j-init c =
    let none : c.default-marks.result ≡ no_mark = search rules in
    ((refl, refl, refl, refl), rw none (fields-start _ _ c.requires.0))

-- slot j is one of the kind's
inside : (k j n : ℕ) (h : k < 9) → n ≡ get_or slot_counts k 0 → j < n → j < length (kind_at k).slots
inside k j n h e l = let t = kind-is k h in omega (arith, t.count)

pub field-e-requires : goal.field-e-requires
field-e-requires c =
    (c.loop-j.invariant.1.within, c.requires.1, inside _ _ _ c.requires.1 c.slots-n.ensures c.loop-j-test.true)

pub loop-j-preserved : goal.loop-j-preserved
loop-j-preserved c = (
  same-more c.args.tables.now c.loop-j.tables c.field-e.new.tables c.loop-j.invariant.0 c.field-e.ensures.same,
  rw c.renewed-q.ensures
      (fields-more c.loop-j.invariant.1 (inside _ _ _ c.requires.1 c.slots-n.ensures c.loop-j-test.true)
      c.field-e.ensures.read c.set_mark.ensures),
)

pub returns : goal.returns
returns c =
    let k = kind-is _ c.requires.1 in
    record {
      same = c.loop-j.invariant.0;
      read = fields-done c.loop-j.invariant.1 (omega (arith, c.loop-j-test.false, c.slots-n.ensures, k.count));
    }
