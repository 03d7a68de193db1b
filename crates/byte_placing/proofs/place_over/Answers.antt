use mathlib.Core.Path.{refl}
use Rattle.refusals.proofs.Told.{not-none, passed-on}
use Rattle.tables.specs.Decoded.{lent_of}
use Rattle.byte_placing.specs.Placed.{Room}
use Rattle.byte_placing.proofs.PlacedLaws.{refused, fits, accepted}
use Rattle.byte_placing.proofs.place_over.Goals as goal

pub returns-in_err-taken : goal.returns-in_err-taken
returns-in_err-taken c =
    let a = c.args in
    let r : Room = record { walk = a.walk.now; codes = a.codes.now; matrices = a.matrices.now; places = a.places.now; worlds = a.worlds.now } in
    let e = c.in_err-taken.field-0.0 in
    rw (passed-on _ e c.from_residual.ensures.1)
    (refused (lent_of a.lent) a.marks.now a.slots.now r _ _ c.min-c.ensures c.min-m.ensures _ _ _ _ c.in_err-taken.ensures (not-none e))

pub write_back-requires : goal.write_back-requires
write_back-requires c =
    let a = c.args in
    let r : Room = record { walk = a.walk.now; codes = a.codes.now; matrices = a.matrices.now; places = a.places.now; worlds = a.worlds.now } in
    let f = fits (lent_of a.lent) a.marks.now a.slots.now r _ _ c.min-c.ensures c.min-m.ensures _ _ _ _ c.in_ok-taken.ensures refl
    c.place_numbers.auto.codes c.place_numbers.auto.matrices in
    record { n_in_bounds = f.0; n_in_bounds_2 = f.1 }

pub returns : goal.returns
returns c =
    let a = c.args in
    let r : Room = record { walk = a.walk.now; codes = a.codes.now; matrices = a.matrices.now; places = a.places.now; worlds = a.worlds.now } in
    accepted (lent_of a.lent) a.marks.now a.slots.now r _ _ c.min-c.ensures c.min-m.ensures _ _ _ _ c.in_ok-taken.ensures refl
    c.place_numbers.auto.codes c.place_numbers.auto.matrices _ _ c.write_back.ensures
