-- Palette, skin root and effective weights: scope, "Palette, skin root, weights" (skin.rs, skinning.rs); glTF 2.0,
-- 3.7.3. Definitions only.
use Rattle.std.specs.Prelude.{List, [], ◌∷◌, Bool, true, false, ◌&&◌, ℕ, zero, suc, eqb, ltb, Float, length, replicate}
use Rattle.std.proofs.Math.Option.{Option, none, some}
use Rattle.std.proofs.Math.ListN.{get_elem?}
use Rattle.model.specs.Lists.{pick, every, any_of, first_that, and_then}
use Rattle.model.specs.Matrix.{Matrix, identity, mul}
use Rattle.model.specs.Scene.{Scene, Mesh, Skin, Skeleton, node_count}
use Rattle.model.specs.Parents.{parent_of}

-- ---- the palette (`joint_matrices_with`)

-- each joint's world times its inverse bind matrix; none where a joint has no world, or there are too few matrices
unfoldable pub products : (ℕ → Option Matrix) → List ℕ → List Matrix → Option (List Matrix)
products world [] binds = some []
products world (j ∷ js) [] = none
products world (j ∷ js) (b ∷ bs) =
    and_then (world j) (λ w. and_then (products world js bs) (λ ms. some (mul w b ∷ ms)))

-- the identity for each joint if no inverse bind matrices are given
abbrev pub binds_of : ℕ → List Matrix → List Matrix
binds_of n [] = replicate n identity
binds_of n (b ∷ bs) = b ∷ bs

abbrev pub palette_of : (ℕ → Option Matrix) → Skeleton → Option (List Matrix)
palette_of world k = products world k.joints (binds_of (length k.joints) k.inverse_binds)

-- ---- the skin root (`skin_root`): the nearest common ancestor of all joints

-- a node and the nodes above it, the nearest first; the first argument bounds how many
unfoldable pub ancestors : ℕ → (ℕ → Option ℕ) → Option ℕ → List ℕ
ancestors zero parent o = []
ancestors (suc k) parent none = []
ancestors (suc k) parent (some i) = i ∷ ancestors k parent (parent i)

-- i and the nodes above it by `parents`
abbrev pub line_of : Scene → ℕ → List ℕ
line_of s i = ancestors (suc (node_count s)) (parent_of s) (some i)

abbrev pub is_among : ℕ → List ℕ → Bool
is_among a l = any_of (λ b. eqb b a) l

unfoldable pub common_root : Scene → List ℕ → Option ℕ
common_root s [] = none
common_root s (j ∷ js) =
    pick (every (λ i. ltb i (node_count s)) (j ∷ js))
    (first_that (λ a. every (λ i. is_among a (line_of s i)) js) (line_of s j))
    none

abbrev in_range : Scene → ℕ → Option ℕ
in_range s r = pick (ltb r (node_count s)) (some r) none

-- a root that is named stands without a look at the joints
abbrev root_of : Scene → Option ℕ → ℕ → Option ℕ
root_of s (some r) k = in_range s r
root_of s none k = and_then (get_elem? s.skeletons k) (λ (t : Skeleton). common_root s t.joints)

unfoldable pub skin_root : Scene → ℕ → Option ℕ
skin_root s k = and_then (get_elem? s.skins k) (λ (t : Skin). root_of s t.root t.skeleton)

-- ---- the weights that a mesh is blended with

-- a node's own, if it has any, otherwise its mesh's (`effective_morph_weights`)
abbrev pub effective_weights : Option (List Float) → Mesh → List Float
effective_weights none mesh = mesh.weights
effective_weights (some []) mesh = mesh.weights
effective_weights (some (w ∷ ws)) mesh = w ∷ ws

-- the posed ones, if there are any, before these
abbrev pub blend_weights : Option (List Float) → Option (List Float) → Mesh → List Float
blend_weights (some ws) own mesh = ws
blend_weights none own mesh = effective_weights own mesh
