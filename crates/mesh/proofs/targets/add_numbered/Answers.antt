use mathlib.Core.Path.{subst}
use Rattle.model.specs.Morph.{with_target}
use Rattle.model.specs.Attributes.{attributes_in, shape_of, Reshaped}
use Rattle.tables.specs.declared.TargetRow.{TargetRow}
use Rattle.tables.specs.Decoded.{target_of}
use Rattle.deltas.specs.Deltas.{lent_in}
use Rattle.mesh.proofs.targets.add_numbered.Goals as goal

pub returns-clause-moved : goal.returns-clause-moved
returns-clause-moved c =
    let a = c.args in
    subst
    (λ (r : TargetRow). Reshaped (shape_of (with_target (attributes_in a.out.now.positions.now a.out.now.normals.now a.out.now.tangents.now) (target_of (lent_in a.lent.words.now a.lent.floats.now a.lent.header) r) a.w)) a.out.now.positions.now c.add_target.new.out.positions.now a.out.now.normals.now c.add_target.new.out.normals.now a.out.now.tangents.now c.add_target.new.out.tangents.now)
    c.target_at-row.ensures
    c.add_target.ensures.moved
