use Prim.Native.Nat.{◌≤◌}
use lib.ListN.{length, take}
use Rattle.tables.specs.Decoded.{lent_of}
use Rattle.worlds.specs.Posed.{placed_in_order}
use Rattle.worlds.specs.Rooms.{SameRoom, WorldsAlone}
use Rattle.worlds.proofs.posing.place_worlds.Given as goal

abbrev pub invariant-loop-k : goal.invariant-loop-k
invariant-loop-k l =
    (l.k ≤ length l.order)
    × SameRoom l.initial.room l.room
    × WorldsAlone l.initial.room l.room
    (placed_in_order (lent_of l.lent) l.marks l.slots l.initial.room.places.now (take l.k l.order) l.initial.room.worlds.now)
