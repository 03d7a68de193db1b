use Rattle.refusals.proofs.Told.{passed-on}
use Rattle.tables.specs.Decoded.{lent_of}
use Rattle.bake_stages.specs.Scratch.{slices_in}
use Rattle.bake.specs.Baked.{Room}
use Rattle.byte_baking.specs.Output.{output_of}
use Rattle.byte_baking.proofs.BakedLaws.{position-fits, normal-fits, tangent-fits, written_out, nothing-written}
use Rattle.byte_baking.proofs.bake_over.Goals as goal

pub returns-in_err-put-clause-baked : goal.returns-in_err-put-clause-baked
returns-in_err-put-clause-baked c =
    let a = c.args in
    let r : Room = record {
      scratch = slices_in a.marks.now a.slots.now a.room.now;
      output = record { positions = a.positions.now; normals = a.normals.now; tangents = a.tangents.now };
    } in
    let o = output_of a.bytes.now in
    rw (passed-on _ c.in_err-put.field-0.0 c.from_residual.ensures.1)
    (written_out (lent_of a.lent) a.node a.time r o _ _ _
    (record { positions = c.min-p.ensures; normals = c.min-n.ensures; tangents = c.min-t.ensures }) _ _ c.in_err-put.ensures.baked
    (record {
      positions = c.bake_floats.auto.positions;
      normals = c.bake_floats.auto.normals;
      tangents = c.bake_floats.auto.tangents;
    }) o
    (λ j. record {
      positions = nothing-written o.positions j;
      normals = nothing-written o.normals j;
      tangents = nothing-written o.tangents j;
    }))

pub write_start-requires : goal.write_start-requires
write_start-requires c =
    let a = c.args in
    let r : Room = record {
      scratch = slices_in a.marks.now a.slots.now a.room.now;
      output = record { positions = a.positions.now; normals = a.normals.now; tangents = a.tangents.now };
    } in
    let o = output_of a.bytes.now in
    position-fits (lent_of a.lent) a.node a.time r o _ _ _
    (record { positions = c.min-p.ensures; normals = c.min-n.ensures; tangents = c.min-t.ensures }) _ _ c.in_ok-put.ensures.baked
    (record {
      positions = c.bake_floats.auto.positions;
      normals = c.bake_floats.auto.normals;
      tangents = c.bake_floats.auto.tangents;
    })

pub write_start-requires-2 : goal.write_start-requires-2
write_start-requires-2 c =
    let a = c.args in
    let r : Room = record {
      scratch = slices_in a.marks.now a.slots.now a.room.now;
      output = record { positions = a.positions.now; normals = a.normals.now; tangents = a.tangents.now };
    } in
    let o = output_of a.bytes.now in
    normal-fits (lent_of a.lent) a.node a.time r o _ _ _
    (record { positions = c.min-p.ensures; normals = c.min-n.ensures; tangents = c.min-t.ensures }) _ _ c.in_ok-put.ensures.baked
    (record {
      positions = c.bake_floats.auto.positions;
      normals = c.bake_floats.auto.normals;
      tangents = c.bake_floats.auto.tangents;
    })

pub write_start-requires-3 : goal.write_start-requires-3
write_start-requires-3 c =
    let a = c.args in
    let r : Room = record {
      scratch = slices_in a.marks.now a.slots.now a.room.now;
      output = record { positions = a.positions.now; normals = a.normals.now; tangents = a.tangents.now };
    } in
    let o = output_of a.bytes.now in
    tangent-fits (lent_of a.lent) a.node a.time r o _ _ _
    (record { positions = c.min-p.ensures; normals = c.min-n.ensures; tangents = c.min-t.ensures }) _ _ c.in_ok-put.ensures.baked
    (record {
      positions = c.bake_floats.auto.positions;
      normals = c.bake_floats.auto.normals;
      tangents = c.bake_floats.auto.tangents;
    })

pub returns-clause-baked : goal.returns-clause-baked
returns-clause-baked c =
    let a = c.args in
    let r : Room = record {
      scratch = slices_in a.marks.now a.slots.now a.room.now;
      output = record { positions = a.positions.now; normals = a.normals.now; tangents = a.tangents.now };
    } in
    let o = output_of a.bytes.now in
    written_out (lent_of a.lent) a.node a.time r o _ _ _
    (record { positions = c.min-p.ensures; normals = c.min-n.ensures; tangents = c.min-t.ensures }) _ _ c.in_ok-put.ensures.baked
    (record {
      positions = c.bake_floats.auto.positions;
      normals = c.bake_floats.auto.normals;
      tangents = c.bake_floats.auto.tangents;
    }) _
    (λ j. record { positions = c.write_start.ensures j; normals = c.write_start-2.ensures j; tangents = c.write_start-3.ensures j })
