-- When two versions of a shared scene agree on a node, and what then follows: demand 3; scope, "Two makers, one scene".
-- Definitions only.
use Rattle.std.specs.Prelude.{◌≡◌, ℕ, ◌≤◌, ◌<◌, Float, length, take}
use mathlib.Core.List.{List, [], ◌∷◌, Memᴰ}
use Rattle.std.proofs.Math.Option.{Option, none, some}
use Rattle.model.specs.Lists.{is_some}
use Rattle.model.specs.Scene.{Scene, Skeleton, node_count, node_at, children_at, mesh_at, skeleton_at}
use Rattle.model.specs.Placing.{Entry, below, order}
use Rattle.model.specs.Pose.{tracks_of}
use Rattle.model.specs.Bake.{Outcome, Output, written}

-- i and the nodes above it: those on its placing path; a node that is not placed has none above it
pub data OnPath (es : List Entry) (i : ℕ) : ℕ → Type 0 where
  itself : OnPath es i i
  up : {a p : ℕ} → OnPath es i a → Memᴰ (record { node = a; place = below p }) es → OnPath es i p

-- node count, roots and child lists
pub record SameListing (s₁ s₂ : Scene) : Type 0 where
  pub count : node_count s₁ ≡ node_count s₂
  pub roots : s₁.roots ≡ s₂.roots
  pub lists : (i : ℕ) → i < node_count s₁ → children_at s₁ i ≡ children_at s₂ i

-- the base transform of a node, and all channels aimed at it, in order, passed over or not
pub record SameMotion (s₁ s₂ : Scene) (i : ℕ) : Type 0 where
  pub base : (node_at s₁ i).base ≡ (node_at s₂ i).base
  pub tracks : tracks_of i s₁.tracks ≡ tracks_of i s₂.tracks

-- the motion of a node and of every node above it
abbrev pub SamePath : Scene → Scene → ℕ → Type 0
SamePath s₁ s₂ i = (a : ℕ) → a < node_count s₁ → OnPath (order s₁) i a → SameMotion s₁ s₂ a

abbrev pub Each : {A : Type 0} → (A → Type 0) → List A → Type 0
Each P [] = Unit {0}
Each P (x ∷ xs) = P x × Each P xs

-- the joints of a node's skin, as far as its ids name something
abbrev pub joints_of : Option Skeleton → List ℕ
joints_of none = []
joints_of (some t) = t.joints

-- The node i with its mesh, skin and skeleton, its joints, and all above these. What an id names is `none` where it
-- names nothing: two such ids need not be the same number, and of a skin the joints and inverse binds count, not its
-- named root or its skeleton's number.
pub record Agree (s₁ s₂ : Scene) (i : ℕ) : Type 0 where
  pub listing : SameListing s₁ s₂
  pub mesh : mesh_at s₁ i ≡ mesh_at s₂ i
  pub weights : (node_at s₁ i).weights ≡ (node_at s₂ i).weights
  pub skin : is_some (node_at s₁ i).skin ≡ is_some (node_at s₂ i).skin
  pub skeleton : skeleton_at s₁ i ≡ skeleton_at s₂ i
  pub path : SamePath s₁ s₂ i
  pub joints : Each (SamePath s₁ s₂) (joints_of (skeleton_at s₁ i))

-- no refusal from 1 to 6
abbrev pub Past6 : Outcome → Type 0
Past6 o = 1 ≤ o.answer.refusal → o.answer.refusal ≤ 6 → ⊥

-- What two runs show: the whole answer, and each output up to the length that the answer gives for it, whatever the
-- outputs held on entry.
pub record SameBake (o₁ o₂ : Outcome) (lent₁ lent₂ : Output) : Type 0 where
  pub answer : o₁.answer ≡ o₂.answer
  pub positions : take o₁.answer.positions (written o₁.output.positions lent₁.positions)
      ≡ take o₂.answer.positions (written o₂.output.positions lent₂.positions)
  pub normals : take o₁.answer.normals (written o₁.output.normals lent₁.normals)
      ≡ take o₂.answer.normals (written o₂.output.normals lent₂.normals)
  pub tangents : take o₁.answer.tangents (written o₁.output.tangents lent₁.tangents)
      ≡ take o₂.answer.tangents (written o₂.output.tangents lent₂.tangents)
