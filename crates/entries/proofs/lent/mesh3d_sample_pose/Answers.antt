use Rattle.entries.proofs.lent.mesh3d_sample_pose.Goals as goal

pub returns : goal.returns
returns c = rw c.number.ensures c.sample_pose.ensures
