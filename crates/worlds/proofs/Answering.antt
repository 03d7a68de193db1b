-- The number of a placing, by what the tables draw and the room. Assumes nothing.
use mathlib.Core.Path.{◌≡◌, sym, ap, ◌∙◌}
use mathlib.Core.Bool.{Bool, ◌||◌}
use mathlib.Core.List.{[], ◌∷◌}
use Prim.Native.Nat.{ℕ, ◌+◌}
use native.Mathlib.Omega.{arith}
use lib.Dec.{ltb}
use lib.ListN.{length}
use Rattle.model.specs.Lists.{pick}
use Rattle.model.specs.Placing.{child_entries}
use Rattle.model.specs.Refusals.{short_scratch, first_of, lowest, Scratch, scratch_is_short, place_number}
use Rattle.model.proofs.Numbers.{lowest-some}
use Rattle.tables.specs.Decoded.{Lent, scene_of}
use Rattle.tables.proofs.Decoding.{node-count}
use Rattle.checks.specs.Drawn.{tables_number, capped_entries}
use Rattle.checks.proofs.Clearing.{checked}
use Rattle.worlds.specs.Rooms.{short_in}

module _ (l : Lent) (room : Scratch) where
  pub drawn-first : (r : ℕ) → r ≡ tables_number l → (r ≡ 0 → ⊥) → r ≡ place_number (tables_number l) (scene_of l) room
  unfolding place_number
  drawn-first r e d = lowest-some r _ d ∙ ap (λ (g : ℕ). lowest g (first_of (record { applies = scratch_is_short (scene_of l) room; refusal = short_scratch } ∷ []))) e

  -- the counts of the tables are those of the scene
  pub short-is : tables_number l ≡ 0 → short_in l.words l.header.graph room.walk_room room.pose_slots room.world_slots ≡ scratch_is_short (scene_of l) room
  short-is z =
      let k = checked l z in
      let g = l.header.graph in
      let e : g.roots.count + capped_entries l.words g.nodes ≡ length (scene_of l).roots + child_entries (scene_of l)
      = omega (arith, k.root-count, k.children, k.few-children) in
      let n = sym (node-count l) in
      (λ j. ltb room.walk_room (e j) || ltb room.pose_slots (n j) || ltb room.world_slots (n j))

  pub by-room : (b : Bool) → tables_number l ≡ 0 → short_in l.words l.header.graph room.walk_room room.pose_slots room.world_slots ≡ b → pick b 6 0 ≡ place_number (tables_number l) (scene_of l) room
  unfolding place_number first_of
  by-room b z e = sym (λ j. lowest (z j) (pick ((sym (short-is z) ∙ e) j) 6 0))
