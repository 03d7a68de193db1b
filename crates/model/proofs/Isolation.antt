-- However the other nodes of a shared scene are changed, a node's bake stays: demand 3. Assumes nothing.
use mathlib.Core.Path.{◌≡◌, refl, sym, ap, ◌∙◌}
use mathlib.Core.Bool.{Bool, true, false}
use mathlib.Core.List.{List, [], ◌∷◌}
use mathlib.Core.Option.{Option, none, some}
use Prim.Native.Nat.{ℕ, zero, suc, ◌≤◌, ◌<◌}
use native.Mathlib.Decide.{dec_lt}
use native.Mathlib.Omega.{arith}
use lib.Ieee.{Float}
use lib.ListN.{length, get_or, replicate, length-replicate, get_or-eq_default}
use Rattle.model.specs.Lists.{foldl, and_then, is_some}
use Rattle.model.specs.Matrix.{Matrix}
use Rattle.model.specs.Transform.{to_matrix}
use Rattle.model.specs.Scene.{Scene, Skeleton, Track, node_count, node_at, mesh_at, skeleton_at}
use Rattle.model.specs.Placing.{Entry, order, taken}
use Rattle.model.specs.Pose.{Pose, at_rest, drive, poses, local_transform, tracks_of}
use Rattle.model.specs.World.{poses_of, pose_at, local_at, worlds_from, worlds, world_at}
use Rattle.model.specs.Skin.{products, binds_of, palette_of}
use Rattle.model.specs.Refusals.{early_number}
use Rattle.model.specs.Bake.{Request, Outcome, palette_with, judged, baked_from, baked_after, bake}
use Rattle.model.specs.Agree.{OnPath, itself, SameListing, SameMotion, SamePath, Each, joints_of, Agree, Past6}
use Rattle.model.proofs.Listing.{order-agree, taken-agree}
use Rattle.model.proofs.Posing.{pose-of, length-poses}
use Rattle.model.proofs.Worlds.{worlds-agree, products-agree}
use Rattle.model.proofs.Numbers.{early-le}

each : {A : Type 0} {P Q : A → Type 0} → ((a : A) → P a → Q a) → (l : List A) → Each P l → Each Q l
each f [] h = tt
each f (x ∷ xs) h = (f x h.0, each f xs h.1)

module _ (time : Float) (s₁ s₂ : Scene) (l : SameListing s₁ s₂) where
  ps₁ : List Pose
  ps₁ = poses_of time s₁

  ps₂ : List Pose
  ps₂ = poses_of time s₂

  pose-agree : (a : ℕ) → a < node_count s₁ → SameMotion s₁ s₂ a → pose_at ps₁ a ≡ pose_at ps₂ a
  unfolding ps₁ ps₂
  pose-agree a b h =
      pose-of time (node_count s₁) s₁.tracks a b
      ∙ ap (λ (ts : List Track). foldl (drive time) at_rest ts) h.tracks
      ∙ sym (pose-of time (node_count s₂) s₂.tracks a (omega (arith, l.count)))

  local-agree : (a : ℕ) → a < node_count s₁ → SameMotion s₁ s₂ a → local_at ps₁ s₁ a ≡ local_at ps₂ s₂ a
  local-agree a b h = let p = pose-agree a b h in λ j. to_matrix (local_transform (p j) (h.base j))

  world-agree : (i : ℕ) → SamePath s₁ s₂ i → world_at (worlds ps₁ s₁) i ≡ world_at (worlds ps₂ s₂) i
  unfolding worlds
  world-agree i h =
      worlds-agree (local_at ps₁ s₁) (local_at ps₂ s₂) (node_count s₁) (order s₁) i (λ a b p. local-agree a b (h a b p)) (order s₁) (λ e m. m)
      (replicate (node_count s₁) none) (replicate (node_count s₁) none) (length-replicate (node_count s₁) none) (length-replicate (node_count s₁) none) (λ a p. refl) i itself
      ∙ (λ j. get_or (worlds_from (local_at ps₂ s₂) (replicate (l.count j) none) (order-agree s₁ s₂ l j)) i none)

  palette-agree : (b : Bool) (t : Option Skeleton) → Each (SamePath s₁ s₂) (joints_of t)
      → palette_with (world_at (worlds ps₁ s₁)) b t ≡ palette_with (world_at (worlds ps₂ s₂)) b t
  palette-agree false t h = refl
  palette-agree true none h = refl
  palette-agree true (some t) h =
      ap (λ (o : Option (List Matrix)). and_then {B = Option (List Matrix)} o (λ (ms : List Matrix). some (some ms)))
      (products-agree (world_at (worlds ps₁ s₁)) (world_at (worlds ps₂ s₂)) t.joints (binds_of (length t.joints) t.inverse_binds) (each (λ j. world-agree j) t.joints h))

module _ (s₁ s₂ : Scene) (r : Request) (h : Agree s₁ s₂ r.node) where
  -- the node is on its own path; an id out of range has no pose
  posed : Dec (r.node < node_count s₁) → pose_at (poses_of r.time s₁) r.node ≡ pose_at (poses_of r.time s₂) r.node
  unfolding ps₁ ps₂
  posed (yes b) = pose-agree r.time s₁ s₂ h.listing r.node b (h.path r.node b itself)
  posed (no b) = beyond s₁ (omega arith) ∙ sym (beyond s₂ (omega (arith, h.listing.count)))
    where
      beyond : (s : Scene) → node_count s ≤ r.node → pose_at (poses_of r.time s) r.node ≡ at_rest
      beyond s f = get_or-eq_default (poses r.time (node_count s) s.tracks) at_rest (omega (arith, length-poses r.time (node_count s) s.tracks))

  baked-agree : baked_from (poses_of r.time s₁) s₁ r ≡ baked_from (poses_of r.time s₂) s₂ r
  unfolding baked_from ps₁ ps₂
  baked-agree =
      let i = r.node in
      let ws₁ = worlds (poses_of r.time s₁) s₁ in
      let ws₂ = worlds (poses_of r.time s₂) s₂ in
      let p : palette_with (world_at ws₁) (is_some (node_at s₁ i).skin) (skeleton_at s₁ i) ≡ palette_with (world_at ws₂) (is_some (node_at s₂ i).skin) (skeleton_at s₂ i)
      = palette-agree r.time s₁ s₂ h.listing (is_some (node_at s₁ i).skin) (skeleton_at s₁ i) h.joints
      ∙ (λ j. palette_with (world_at ws₂) (h.skin j) (h.skeleton j)) in
      λ j. judged r (taken-agree s₁ s₂ h.listing j) (posed (dec_lt i (node_count s₁)) j).weights (h.weights j) (h.mesh j) (world-agree r.time s₁ s₂ h.listing i h.path j) (p j)

past : (g : ℕ) (s : Scene) (r : Request) → g ≤ 6 → Past6 (baked_after g s r) → baked_after g s r ≡ baked_from (poses_of r.time s) s r
unfolding baked_after
past zero s r b p = refl
past (suc g) s r b p = absurd (p (omega arith) b)

-- the bakes of one node in two versions of a scene that agree on it
pub isolation : (s₁ s₂ : Scene) (r : Request) → Agree s₁ s₂ r.node
    → (g₁ g₂ : ℕ) → g₁ ≤ 2 → g₂ ≤ 2 → Past6 (bake g₁ s₁ r) → Past6 (bake g₂ s₂ r)
    → bake g₁ s₁ r ≡ bake g₂ s₂ r
unfolding bake
isolation s₁ s₂ r h g₁ g₂ b₁ b₂ p₁ p₂ =
    past (early_number g₁ s₁ r.time r.scratch) s₁ r (early-le g₁ s₁ r.time r.scratch b₁) p₁
    ∙ baked-agree s₁ s₂ r h
    ∙ sym (past (early_number g₂ s₂ r.time r.scratch) s₂ r (early-le g₂ s₂ r.time r.scratch b₂) p₂)
