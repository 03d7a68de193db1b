use Rattle.checks.specs.Drawn.{lent_as}
use Rattle.bake_stages.specs.Scratch.{slices_in}
use Rattle.bake_stages.proofs.Posed.{left}
use Rattle.bake_stages.proofs.posing.pose_and_place.Goals as goal

pub returns-clause-placed : goal.returns-clause-placed
returns-clause-placed c =
    let a = c.args in
    λ own mesh.
    left (lent_as a.lent.words.now a.lent.floats.now own mesh a.lent.header) a.time
    (slices_in a.marks.now a.slots.now a.room.now)
    c.requires.poses _ _ _ _ _ _ c.pose_all.ensures.0 c.pose_all.ensures.1 c.place_all.ensures.run
