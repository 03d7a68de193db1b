use Rattle.entries.proofs.matrices.mesh3d_vec3_len.Goals as goal

pub returns : goal.returns
returns c = cc
