use Rattle.entries.proofs.lent.mesh3d_parents.Goals as goal

pub returns : goal.returns
returns c = rw c.number.ensures c.parents.ensures
