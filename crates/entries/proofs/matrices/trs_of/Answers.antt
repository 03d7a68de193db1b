use Rattle.entries.proofs.matrices.trs_of.Goals as goal

pub returns : goal.returns
returns c = cc
