use Rattle.skin_entries.proofs.mesh3d_skin_root.Goals as goal

pub returns : goal.returns
returns c = rw c.from.ensures c.skin_root.ensures
