use native.Mathlib.Omega.{arith}
use Rattle.tables.proofs.Cutting.{no-width, has_room, no_room}
use Rattle.tables.proofs.parts.entries_in.Goals as goal

pub returns-then-width-eq0 : goal.returns-then-width-eq0
returns-then-width-eq0 c = let a = c.args in no-width a.count a.width a.room c.if-width-eq0.true

pub overflow_mul-result : goal.overflow_mul-result
overflow_mul-result c =
    let a = c.args in
    omega (arith, has_room a.count a.width a.room c.if-width-eq0.false c.if-count-room.true)

pub returns-then-count-room : goal.returns-then-count-room
returns-then-count-room c =
    let a = c.args in
    omega (arith, has_room a.count a.width a.room c.if-width-eq0.false c.if-count-room.true)

pub returns : goal.returns
returns c =
    let a = c.args in
    omega (arith, no_room a.count a.width a.room c.if-width-eq0.false c.if-count-room.false)
