use Rattle.skin_entries.proofs.mesh3d_joint_matrices_floats.Goals as goal

pub returns : goal.returns
returns c = rw c.from.ensures c.joint_matrices_with.ensures
