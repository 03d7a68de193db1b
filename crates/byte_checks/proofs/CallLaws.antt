-- The numbers of calls on scenes in bytes, test by test. Assumes nothing.
use mathlib.Core.Path.{◌≡◌, refl, sym, ap, ◌∙◌}
use mathlib.Core.Bool.{Bool, true, false}
use Prim.Native.Nat.{ℕ}
use lib.Ieee.{Float}
use Rattle.model.specs.Lists.{pick, is_some}
use Rattle.model.specs.Scene.{mesh_at}
use Rattle.model.specs.Refusals.{lowest, Scratch, early_number}
use Rattle.model.proofs.Numbers.{lowest-some}
use Rattle.tables.specs.Decoded.{Lent, scene_of}
use Rattle.checks.specs.Drawn.{tables_number}
use Rattle.worlds.specs.Rooms.{short_in}
use Rattle.worlds.proofs.Answering.{drawn-first, short-is, by-room}
use Rattle.byte_checks.specs.Scene.{scene_number}
use Rattle.byte_checks.specs.Numbers.{room_in, place_in, early_in, first_in}
use Rattle.byte_checks.proofs.SceneLaws.{first-none, scene-none, room_after, bake-refused}

-- the decoding room comes after the scratch room
next-room : (b : Bool) (drawn : ℕ) → pick b 6 drawn ≡ lowest (pick b 6 0) drawn
next-room true drawn = refl
next-room false drawn = refl

module _ (l : Lent) (r : Scratch) (drawn : ℕ) where
  abbrev short : Bool
  short = short_in l.words l.header.graph r.walk_room r.pose_slots r.world_slots

  abbrev rooms : ℕ
  rooms = room_in drawn l.words l.header.graph r.walk_room r.pose_slots r.world_slots

  -- ---- a placing
  pub place-drawn : (g : ℕ) → g ≡ tables_number l → (g ≡ 0 → ⊥) → g ≡ place_in drawn l r
  place-drawn g e d = lowest-some g drawn d ∙ ap (λ (n : ℕ). lowest n drawn) (drawn-first l r g e d)

  pub place-rooms : tables_number l ≡ 0 → rooms ≡ place_in drawn l r
  place-rooms z = next-room short drawn ∙ ap (λ (n : ℕ). lowest n drawn) (by-room l r short z refl)

  -- ---- a bake
  module _ (time : Float) where
    pub early-drawn : (g : ℕ) → g ≡ scene_number l time → (g ≡ 0 → ⊥) → g ≡ early_in drawn l time r
    early-drawn g e d =
        lowest-some g drawn d
        ∙ ap (λ (n : ℕ). lowest n drawn) (e ∙ sym (bake-refused l time (λ z. d (e ∙ z)) r))

    pub early-rooms : scene_number l time ≡ 0 → rooms ≡ early_in drawn l time r
    early-rooms z =
        next-room short drawn
        ∙ (λ j. lowest (lowest (sym z j) (pick (short-is l r (scene-none l time z) j) 6 0)) drawn)
        ∙ ap (λ (n : ℕ). lowest n drawn) (sym (room_after l time r))

    -- the tables draw no number where nothing as far as 6 is drawn
    pub early-none : early_in drawn l time r ≡ 0 → tables_number l ≡ 0
    unfolding early_number
    early-none h = first-none (tables_number l) _ (first-none (early_number (tables_number l) (scene_of l) time r) drawn h)

    module _ (i : ℕ) where
      pub first-drawn : (g : ℕ) → g ≡ early_in drawn l time r → (g ≡ 0 → ⊥) → g ≡ first_in drawn l i time r
      first-drawn g e d =
          let n : ℕ = pick (is_some (mesh_at (scene_of l) i)) 0 7 in
          lowest-some g n d ∙ ap (λ (k : ℕ). lowest k n) e

      pub by-mesh : (b : Bool) → early_in drawn l time r ≡ 0 → is_some (mesh_at (scene_of l) i) ≡ b
          → pick b 0 7 ≡ first_in drawn l i time r
      by-mesh b z e = sym (λ j. lowest (z j) (pick (e j) 0 7))
