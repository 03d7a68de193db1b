use Rattle.entries.proofs.matrices.mesh3d_mul3.Goals as goal

pub returns : goal.returns
returns c = cc
