use mathlib.Core.Path.{refl}
use Rattle.std.proofs.Common.{◌≡◌, rules}
use Rattle.scene_marks.specs.Marks.{no_mark}
use native.Mathlib.Omega.{arith}
use Rattle.scene_schema.proofs.Numbers.{kind-is}
use Rattle.scene_forms.proofs.FieldLaws.{field-missing, field-there, items-fit}
use Rattle.scene_forms.proofs.fields.field.Goals as goal

pub overflow_add-k : goal.overflow_add-k
overflow_add-k c =
    omega (arith, (kind-is _ c.requires.1).few, c.requires)

pub returns-then-w-name : goal.returns-then-w-name
returns-then-w-name c =
    let t = (kind-is _ c.requires.1).slots _ c.requires.2 in
    let none : c.default.result ≡ no_mark = search rules in
    record {
      same = (refl, refl, refl, refl);
      read =
          field-missing _ c.behind.ensures c.name-w.ensures c.requires.0 t c.slot_name-name.ensures c.if-w-name.true
          none;
    }

pub overflow_mul-k-2 : goal.overflow_mul-k-2
overflow_mul-k-2 c = omega (arith, c.requires)

pub overflow_add-k-2 : goal.overflow_add-k-2
overflow_add-k-2 c = omega (arith, (kind-is _ c.requires.1).few, c.requires)

pub behind_items-requires : goal.behind_items-requires
behind_items-requires c =
    let fit = items-fit c.args.s c.behind.ensures c.name-w.ensures c.requires.0 c.items-l.ensures.read in
    omega (arith, fit)

pub returns : goal.returns
returns c =
    let t = (kind-is _ c.requires.1).slots _ c.requires.2 in record {
      same = c.items-l.ensures.same;
      read =
          field-there _ c.behind.ensures c.name-w.ensures c.requires.0 t c.slot_name-name.ensures c.if-w-name.false
          c.slot_rule-rule.ensures c.meet.ensures c.meet-opened.ensures c.meet_bytes-named.ensures
          c.items-l.ensures.read c.behind_items.ensures c.mark_of.ensures;
    }
