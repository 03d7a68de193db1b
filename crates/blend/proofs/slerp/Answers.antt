use Rattle.model.specs.Sampling.{slerp}
use Rattle.blend.proofs.slerp.Goals as goal

pub returns : goal.returns
unfolding slerp
returns c =
    rw (← c.dot4-d.ensures, ← c.nearer-near.ensures, ← c.shorter.ensures, ← c.cut_at_one-c.ensures)
    c.along_arc.ensures
