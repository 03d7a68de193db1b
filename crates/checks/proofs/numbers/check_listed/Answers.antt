use mathlib.Core.Path.{◌∙◌}
use Rattle.checks.specs.Drawn.{lower_of, listed_number}
use Rattle.checks.proofs.numbers.check_listed.Goals as goal

pub returns : goal.returns
unfolding listed_number
returns g c floats e =
    let n1 = c.check_whole-skeletons.ensures floats e in
    let n2 = c.lower-skins.ensures ∙ (λ j. lower_of (c.check_whole.ensures floats e j) (n1 j)) in
    let n3 = c.lower-between.ensures ∙ (λ j. lower_of (c.check_whole-2.ensures floats e j) (n2 j)) in
    let n4 = c.lower-targets.ensures ∙ (λ j. lower_of (c.check_whole-3.ensures floats e j) (n3 j)) in
    let n5 = c.lower-shapes.ensures ∙ (λ j. lower_of (c.check_whole-4.ensures floats e j) (n4 j)) in
    let n6 = c.lower-meshes.ensures ∙ (λ j. lower_of (c.check_whole-5.ensures floats e j) (n5 j)) in
    c.lower.ensures ∙ (λ j. lower_of (c.check_whole-6.ensures floats e j) (n6 j))
