use Rattle.entries.proofs.matrices.mesh3d_rot_matrix_to_quat.Goals as goal

pub returns : goal.returns
returns c = cc
