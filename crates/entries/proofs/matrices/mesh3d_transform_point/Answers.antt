use Rattle.entries.proofs.matrices.mesh3d_transform_point.Goals as goal

pub returns : goal.returns
returns c = cc
