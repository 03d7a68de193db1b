use mathlib.Core.Path.{refl, sym, ap, ◌∙◌}
use mathlib.Core.List.{List}
use lib.Ieee.{Float}
use Rattle.model.specs.Lists.{rows_in}
use Rattle.model.specs.Vector.{Vector, ◌⊙◌, ◌⊞◌}
use Rattle.model.specs.Morph.{with_deltas}
use Rattle.model.specs.Attributes.{over_rows}
use Rattle.tables.specs.Decoded.{target_of}
use Rattle.deltas.specs.Deltas.{lent_in}
use Rattle.mesh.proofs.SlotLaws.{slot-rows}
use Rattle.mesh.proofs.TargetLaws.{plus_xyz, unmoved, moved-by-stations, moved-plainly}
use Rattle.mesh.proofs.targets.add_target.Goals as goal

pub returns-then-w-clause-moved : goal.returns-then-w-clause-moved
returns-then-w-clause-moved c =
    let a = c.args in
    unmoved a.w (target_of (lent_in a.lent.words.now a.lent.floats.now a.lent.header) a.row) a.out.now.positions.now a.out.now.positions.now a.out.now.normals.now a.out.now.normals.now a.out.now.tangents.now a.out.now.tangents.now
    c.if-w.true refl refl refl

pub returns-then-has_valid-clause-moved : goal.returns-then-has_valid-clause-moved
returns-then-has_valid-clause-moved c =
    let a = c.args in
    let moved : List Vector → List Float = λ ds. over_rows 4 (with_deltas (plus_xyz a.w) (rows_in 4 a.out.now.tangents.now) ds) a.out.now.tangents.now in
    moved-by-stations a.w (target_of (lent_in a.lent.words.now a.lent.floats.now a.lent.header) a.row) a.out.now.positions.now _ a.out.now.normals.now _ a.out.now.tangents.now _
    c.if-w.false
    (sym c.has_valid.ensures ∙ c.if-has_valid.true)
    c.add_stations.ensures
    (c.add_tangents.ensures ∙ ap moved (ap (rows_in 3) c.deltas_in.ensures ∙ sym (slot-rows a.lent.floats.now a.row.tangents)))

pub returns-clause-moved : goal.returns-clause-moved
returns-clause-moved c =
    let a = c.args in
    let moved : List Vector → List Float = λ ds. over_rows 4 (with_deltas (plus_xyz a.w) (rows_in 4 a.out.now.tangents.now) ds) a.out.now.tangents.now in
    let p = sym (slot-rows a.lent.floats.now a.row.positions) in
    let n = sym (slot-rows a.lent.floats.now a.row.normals) in
    let added = c.add_plain.ensures in
    moved-plainly a.w (target_of (lent_in a.lent.words.now a.lent.floats.now a.lent.header) a.row) a.out.now.positions.now _ a.out.now.normals.now _ a.out.now.tangents.now _
    c.if-w.false
    (sym c.has_valid.ensures ∙ c.if-has_valid.false)
    (record {
      positions = added.positions ∙ ap (λ (ds : List Vector). over_rows 3 (with_deltas (λ v d. v ⊞ a.w ⊙ d) (rows_in 3 a.out.now.positions.now) ds) a.out.now.positions.now) p;
      normals = added.normals ∙ ap (λ (ds : List Vector). over_rows 3 (with_deltas (λ v d. v ⊞ a.w ⊙ d) (rows_in 3 a.out.now.normals.now) ds) a.out.now.normals.now) n;
    })
    (c.add_tangents.ensures ∙ ap moved (ap (rows_in 3) c.deltas_in.ensures ∙ sym (slot-rows a.lent.floats.now a.row.tangents)))
