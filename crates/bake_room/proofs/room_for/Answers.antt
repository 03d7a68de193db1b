-- Assumes no_room.
use mathlib.Core.Path.{sym, ap, ◌∙◌, subst}
use Rattle.tracks.specs.declared.Part.{Part}
use Rattle.tables.specs.declared.MeshRow.{MeshRow}
use Rattle.refusals.proofs.Told.{not-none, passed-on}
use Rattle.tables.specs.Decoded.{lent_of}
use Rattle.shapes.specs.declared.Lengths.{Lengths}
use Rattle.shapes.specs.Rest.{lengths_below, Counted}
use Rattle.bake_room.specs.Needed.{answer_of}
use Rattle.bake_room.proofs.Needed.{refused-with, none-drawn, draw, few, told}
use Rattle.bake_room.proofs.room_for.Goals as goal

pub returns-in_err-check_weights : goal.returns-in_err-check_weights
returns-in_err-check_weights c =
    let e = c.in_err-check_weights.field-0.0 in
    ap answer_of (passed-on _ e c.from_residual.ensures.1)
    ∙ refused-with (lent_of c.args.lent) c.args.node _ c.in_err-check_weights.ensures (not-none e)

pub mesh_lengths-n-requires : goal.mesh_lengths-n-requires
mesh_lengths-n-requires c =
    let a = c.args in
    let l = lent_of a.lent in
    let i = a.node in
    let z = none-drawn l i (sym c.in_ok-check_weights.ensures) in
    subst (λ (m : MeshRow). Counted l.words l.header.meshes.primitives m.primitives)
    (sym c.mesh_of-mesh.ensures) (draw l i z.0 z.1).counted

pub room_from-requires : goal.room_from-requires
room_from-requires c =
    let a = c.args in
    let l = lent_of a.lent in
    let i = a.node in
    let z = none-drawn l i (sym c.in_ok-check_weights.ensures) in
    few l i z.0 z.1 _ c.child_entries.ensures

pub returns : goal.returns
returns c =
    let a = c.args in
    let l = lent_of a.lent in
    let i = a.node in
    let z = none-drawn l i (sym c.in_ok-check_weights.ensures) in
    let all : Part → Lengths = λ p. lengths_below l.words l.header.meshes.primitives p p.count in
    let part = ap (λ (m : MeshRow). m.primitives) c.mesh_of-mesh.ensures in
    let n = c.mesh_lengths-n.ensures ∙ ap all part in
    told l i z.0 z.1 _ c.child_entries.ensures _ n _ c.room_from.ensures
