use mathlib.Core.Path.{◌∙◌, sym, ap}
use Rattle.checks.specs.Drawn.{row_number}
use Rattle.checks.specs.declared.Table.{Table}
use Rattle.checks.proofs.records.check_row.Goals as goal

pub returns-in-Nodes : goal.returns-in-Nodes
returns-in-Nodes c floats e =
    let a = c.args in
    c.check_node.ensures ∙ ap (λ (k : Table). row_number a.words.now floats a.s a.t k a.i) (sym c.in-Nodes.is)

pub returns-in-Channels : goal.returns-in-Channels
returns-in-Channels c floats e =
    let a = c.args in
    c.check_channel.ensures floats e ∙ ap (λ (k : Table). row_number a.words.now floats a.s a.t k a.i) (sym c.in-Channels.is)

pub returns-in-Meshes : goal.returns-in-Meshes
returns-in-Meshes c floats e =
    let a = c.args in
    c.check_mesh.ensures ∙ ap (λ (k : Table). row_number a.words.now floats a.s a.t k a.i) (sym c.in-Meshes.is)

pub returns-in-Primitives : goal.returns-in-Primitives
returns-in-Primitives c floats e =
    let a = c.args in
    c.check_primitive.ensures ∙ ap (λ (k : Table). row_number a.words.now floats a.s a.t k a.i) (sym c.in-Primitives.is)

pub returns-in-Targets : goal.returns-in-Targets
returns-in-Targets c floats e =
    let a = c.args in
    c.check_target.ensures ∙ ap (λ (k : Table). row_number a.words.now floats a.s a.t k a.i) (sym c.in-Targets.is)

pub returns-in-InBetweens : goal.returns-in-InBetweens
returns-in-InBetweens c floats e =
    let a = c.args in
    c.check_in_between.ensures ∙ ap (λ (k : Table). row_number a.words.now floats a.s a.t k a.i) (sym c.in-InBetweens.is)

pub returns-in-Skins : goal.returns-in-Skins
returns-in-Skins c floats e =
    let a = c.args in
    c.check_skin.ensures ∙ ap (λ (k : Table). row_number a.words.now floats a.s a.t k a.i) (sym c.in-Skins.is)

pub returns-in-Skeletons : goal.returns-in-Skeletons
returns-in-Skeletons c floats e =
    let a = c.args in
    c.check_skeleton.ensures ∙ ap (λ (k : Table). row_number a.words.now floats a.s a.t k a.i) (sym c.in-Skeletons.is)
