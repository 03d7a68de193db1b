use Rattle.entries.proofs.matrices.mesh3d_trs_to_matrix.Goals as goal

pub returns : goal.returns
returns c = cc
