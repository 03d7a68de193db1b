-- The room that is told is enough for a bake, and no slice may be shorter. Assumes nothing.
use mathlib.Core.Path.{◌≡◌, refl, sym, ap, ◌∙◌, subst}
use mathlib.Core.Bool.{Bool, true, false, true≢false}
use mathlib.Core.Option.{Option, none, some}
use Prim.Native.Nat.{ℕ, zero, suc, ◌≤◌}
use native.Mathlib.Omega.{arith}
use borrow.Author.Tests.{eqb-false, not-false}
use lib.Dec.{eqb}
use lib.Ieee.{Float}
use Rattle.model.specs.Lists.{pick, is_some}
use Rattle.model.specs.Scene.{Mesh, mesh_at}
use Rattle.model.specs.Refusals.{number, short_scratch, short_output}
use Rattle.tables.specs.Decoded.{Lent, scene_of}
use Rattle.checks.specs.Drawn.{tables_number}
use Rattle.bake.specs.Baked as bake
use Rattle.bake.proofs.TablesRange.{tables-at-most-2}
use Rattle.bake_room.specs.declared.Room.{Room}
use Rattle.bake_room.specs.Needed.{room_in, room_or, room_for}
use Rattle.bake_room.specs.Lengths.{Enough, ShortScratch, ShortOutput, number_with, NeitherShort}
use Rattle.bake_room.proofs.Needed.{mesh, room-is}
use Rattle.bake_room.proofs.Judging.{first_test, number_by, scratch_test, output_test, number_is}
use Rattle.bake_room.proofs.Judging.{scratch-long, scratch-short, output-long, output-short}

-- ---- the first test that applies

-- none that finds the room short, where the scratch room is not, and no output is unless there is no mesh
neither-short : (a b c d e f g k : Bool) → (e ≡ false → k ≡ false) → NeitherShort (first_test a b c d false e f g k)
unfolding first_test
neither-short true b c d e f g k o = (λ h. omega (arith, h), λ h. omega (arith, h))
neither-short false true c d e f g k o = (λ h. omega (arith, h), λ h. omega (arith, h))
neither-short false false true d e f g k o = (λ h. omega (arith, h), λ h. omega (arith, h))
neither-short false false false true e f g k o = (λ h. omega (arith, h), λ h. omega (arith, h))
neither-short false false false false true f g k o = (λ h. omega (arith, h), λ h. omega (arith, h))
neither-short false false false false false true g k o = (λ h. omega (arith, h), λ h. omega (arith, h))
neither-short false false false false false false true k o = (λ h. omega (arith, h), λ h. omega (arith, h))
neither-short false false false false false false false true o = absurd (true≢false (o refl))
neither-short false false false false false false false false o = (λ h. omega (arith, h), λ h. omega (arith, h))

-- where none applies with one room, another room alone decides
by-room : (a b c d e f g h k : Bool) → first_test a b c d e f g h k ≡ 0
    → (scratch output : Bool) → first_test a b c d scratch f g h output ≡ pick scratch 6 (pick output 10 0)
unfolding first_test
by-room true b c d e f g h k z = absurd (omega (arith, z))
by-room false true c d e f g h k z = absurd (omega (arith, z))
by-room false false true d e f g h k z = absurd (omega (arith, z))
by-room false false false true e f g h k z = absurd (omega (arith, z))
by-room false false false false true f g h k z = absurd (omega (arith, z))
by-room false false false false false true g h k z = absurd (omega (arith, z))
by-room false false false false false false true h k z = absurd (omega (arith, z))
by-room false false false false false false false true k z = absurd (omega (arith, z))
by-room false false false false false false false false k z = λ scratch output. refl

-- and the tables draw nothing, and there is a mesh
none-applies : (a b c d e f g h k : Bool) → first_test a b c d e f g h k ≡ 0 → (a ≡ false) × (b ≡ false) × (f ≡ false)
unfolding first_test
none-applies true b c d e f g h k z = absurd (omega (arith, z))
none-applies false true c d e f g h k z = absurd (omega (arith, z))
none-applies false false true d e f g h k z = absurd (omega (arith, z))
none-applies false false false true e f g h k z = absurd (omega (arith, z))
none-applies false false false false true f g h k z = absurd (omega (arith, z))
none-applies false false false false false true g h k z = absurd (omega (arith, z))
none-applies false false false false false false g h k z = (refl, refl, refl)

neither-drawn : (t : ℕ) → t ≤ 2 → eqb t 1 ≡ false → eqb t 2 ≡ false → t ≡ 0
neither-drawn zero h a b = refl
neither-drawn (suc zero) h a b = absurd (eqb-false 1 1 a refl)
neither-drawn (suc (suc zero)) h a b = absurd (eqb-false 2 2 b refl)
neither-drawn (suc (suc (suc t))) h a b = absurd (omega arith)

module _ (l : Lent) (i : ℕ) where
  -- the tables draw nothing, and node i has a mesh
  abbrev There : Type 0
  There = (tables_number l ≡ 0) × (is_some (mesh_at (scene_of l) i) ≡ true)

  told-there : (room_for l i).number ≡ 0 → There
  unfolding room_for
  told-there h = go (tables_number l) (mesh_at (scene_of l) i) h
    where
      go : (g : ℕ) (m : Option Mesh) → (room_or g (scene_of l) m).number ≡ 0 → (g ≡ 0) × (is_some m ≡ true)
      go zero (some m) h = (refl, refl)
      go zero none h = absurd (omega (arith, h))
      go (suc g) m h = absurd (omega (arith, h))

  module _ (time : Float) where
    -- with scratch room that is not short, and outputs that are not where there is a mesh, no slice is found too short
    pub not_short : (r : bake.Room) → scratch_test l i time r ≡ false
        → (is_some (mesh_at (scene_of l) i) ≡ true → output_test l i time r ≡ false) → NeitherShort (number_with l i time r)
    not_short r scratch output =
        subst (λ (k : ℕ). NeitherShort k)
        (sym (number_is l i time r ∙ ap (λ (b : Bool). number_by l i time b (output_test l i time r)) scratch))
        (neither-short _ _ _ _ _ _ _ _ (λ h. output (not-false _ h)))

    -- nor with as much room as told
    pub enough : (r : bake.Room) → (room_for l i).number ≡ 0 → Enough (room_for l i) r
        → NeitherShort (number_with l i time r)
    enough r n e =
        let t = told-there n in
        let room = subst (λ (x : Room). Enough x r) (room-is l i t.0 t.1) e in
        not_short r (scratch-long l i time r room.scratch)
        (λ m. output-long l i time r t.0 m room.output)

    -- ---- a bake that is accepted with some room
    module _ (r' : bake.Room) (z : number_with l i time r' ≡ 0) where
      none_first : number_by l i time (scratch_test l i time r') (output_test l i time r') ≡ 0
      none_first = sym (number_is l i time r') ∙ z

      there : There
      there =
          let a = none-applies _ _ _ _ _ _ _ _ _ none_first in
          (neither-drawn (tables_number l) (tables-at-most-2 l) a.0 a.1, not-false _ a.2)

      room-there : room_for l i ≡ room_in (scene_of l) (mesh l i)
      room-there = room-is l i there.0 there.1

      decided : (r : bake.Room) (scratch output : Bool)
          → scratch_test l i time r ≡ scratch → output_test l i time r ≡ output
          → number_with l i time r ≡ pick scratch 6 (pick output 10 0)
      decided r scratch output p q =
          number_is l i time r
          ∙ (λ j. number_by l i time (p j) (q j))
          ∙ by-room _ _ _ _ _ _ _ _ _ none_first scratch output

      -- its room is told
      pub accepted-told : (room_for l i).number ≡ 0
      accepted-told = ap (λ (x : Room). x.number) room-there

      module _ (r : bake.Room) where
        -- with as much room as told it is accepted
        pub enough-accepted : Enough (room_for l i) r → number_with l i time r ≡ 0
        enough-accepted e =
            let room = subst (λ (x : Room). Enough x r) room-there e in
            decided r false false (scratch-long l i time r room.scratch)
            (output-long l i time r there.0 there.1 room.output)

        -- with a scratch room that is shorter in some slice it is refused with 6
        pub short-scratch : ShortScratch (room_for l i) r.scratch → number_with l i time r ≡ number short_scratch
        short-scratch e =
            let room = subst (λ (x : Room). ShortScratch x r.scratch) room-there e in
            decided r true (output_test l i time r) (scratch-short l i time r room) refl

        -- with scratch room as told, and an output that is shorter, with 10
        pub short-output : ShortOutput (room_for l i) r → number_with l i time r ≡ number short_output
        short-output e =
            let room = subst (λ (x : Room). ShortOutput x r) room-there e in
            decided r false true (scratch-long l i time r room.scratch)
            (output-short l i time r there.0 there.1 room.output)
