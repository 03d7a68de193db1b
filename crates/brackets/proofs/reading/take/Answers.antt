use mathlib.Core.Path.{sym, ap, subst, ◌∙◌}
use mathlib.Core.List.{◌∷◌}
use native.Mathlib.Omega.{arith}
use Rattle.grammar.specs.Digits.{Sort, digits_of}
use Rattle.digits.specs.Standing.{Stands}
use Rattle.brackets.specs.Met.{meets}
use Rattle.brackets.specs.Read.{ItemRead}
use Rattle.brackets.proofs.ReadingLaws.{in-text, item-stands, item-there}
use Rattle.brackets.proofs.reading.take.Goals as goal

pub overflow_add-at : goal.overflow_add-at
overflow_add-at g c = omega (arith, in-text c.args.text.now c.args.at c.requires)

pub meet_there-requires : goal.meet_there-requires
meet_there-requires g c =
    let a = c.args in
    let d = c.in-Some.d in
    subst (λ (s : Sort). Stands a.text.now a.at d.next (32 ∷ digits_of s d.value)) (sym c.is_float-float.ensures)
    (item-stands c.requires c.in-Some.ensures)

pub returns-in-Some : goal.returns-in-Some
returns-in-Some g c =
    let a = c.args in
    let same = ap (λ (s : Sort). meets a.text.now (32 ∷ digits_of s c.in-Some.d.value) a.met) c.is_float-float.ensures in
    item-there c.requires c.in-Some.ensures (c.meet_there.ensures ∙ same)

pub returns : goal.returns
returns g c =
    let a = c.args in
    subst (λ (s : Sort). ItemRead s a.text.now a.at a.met c.take_item.result) c.is_float-float.ensures
    c.take_item.ensures
