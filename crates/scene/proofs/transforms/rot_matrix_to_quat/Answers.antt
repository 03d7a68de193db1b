use mathlib.Core.Path.{ap, ◌∙◌}
use Rattle.model.specs.Transform.{from_w, from_x, from_y, from_z}
use Rattle.scene.specs.Values.{vec3}
use Rattle.scene.proofs.Turns.{at-trace, at_first, at_second, at-third, not-first-left, not-first-right}
use Rattle.scene.proofs.transforms.rot_matrix_to_quat.Goals.{then-x-y-2+else-x-z, else-x-y-2}
use Rattle.scene.proofs.transforms.rot_matrix_to_quat.Goals as goal

pub returns-then-x-y : goal.returns-then-x-y
returns-then-x-y c = c.from_w.ensures ∙ ap (from_w (vec3 c.args.a) (vec3 c.args.b) (vec3 c.args.c)) c.twice_root.ensures ∙ at-trace (vec3 c.args.a) (vec3 c.args.b) (vec3 c.args.c) c.if-x-y.true

pub returns-then-x-z : goal.returns-then-x-z
returns-then-x-z c =
    c.from_x.ensures ∙ ap (from_x (vec3 c.args.a) (vec3 c.args.b) (vec3 c.args.c)) c.twice_root-then-x-z.ensures
    ∙ at_first (vec3 c.args.a) (vec3 c.args.b) (vec3 c.args.c) c.if-x-y.false c.if-x-y-2.true c.if-x-z.true

pub returns-then-y-z : goal.returns-then-y-z
returns-then-y-z c =
    c.from_y.ensures ∙ ap (from_y (vec3 c.args.a) (vec3 c.args.b) (vec3 c.args.c)) c.twice_root-then-y-z.ensures
    ∙ at_second (vec3 c.args.a) (vec3 c.args.b) (vec3 c.args.c) c.if-x-y.false (elim c.if-x-y-2.branch [ then-x-y-2+else-x-z w ↦ not-first-right (vec3 c.args.a) (vec3 c.args.b) (vec3 c.args.c) w.if-x-z.false | else-x-y-2 w ↦ not-first-left (vec3 c.args.a) (vec3 c.args.b) (vec3 c.args.c) w.if-x-y-2.false ]) c.if-y-z.true

pub returns : goal.returns
returns c =
    c.from_z.ensures ∙ ap (from_z (vec3 c.args.a) (vec3 c.args.b) (vec3 c.args.c)) c.twice_root-2.ensures
    ∙ at-third (vec3 c.args.a) (vec3 c.args.b) (vec3 c.args.c) c.if-x-y.false (elim c.if-x-y-2.branch [ then-x-y-2+else-x-z w ↦ not-first-right (vec3 c.args.a) (vec3 c.args.b) (vec3 c.args.c) w.if-x-z.false | else-x-y-2 w ↦ not-first-left (vec3 c.args.a) (vec3 c.args.b) (vec3 c.args.c) w.if-x-y-2.false ]) c.if-y-z.false
