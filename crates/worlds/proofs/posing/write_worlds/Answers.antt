use mathlib.Core.Path.{ap, ◌∙◌}
use Rattle.tables.specs.Decoded.{lent_of}
use Rattle.worlds.specs.Posed.{placed_in_order}
use Rattle.worlds.proofs.posing.write_worlds.Goals as goal

pub returns-clause-worlds_alone : goal.returns-clause-worlds_alone
returns-clause-worlds_alone c =
    let a = c.args in
    let w = c.place_worlds.ensures.worlds_alone in
    (w.0, w.1, w.2 ∙ ap (placed_in_order (lent_of a.lent) a.marks.now a.slots.now a.room.now.places.now a.order.now) c.clear.ensures)
