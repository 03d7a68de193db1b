-- What the calls on a palette, a skin root and morph weights answer, and which number they draw: scope, "Palette, skin
-- root, weights" and "Numbers when a piece is turned down". `tables` is what the tables drew, 0, 1 or 2. Definitions
-- only.
use Rattle.std.specs.Prelude.{not, List, [], ◌∷◌, ℕ, zero, suc, ◌*◌, ltb, Float, length}
use Rattle.std.proofs.Math.Option.{Option, none, some}
use Rattle.model.specs.Lists.{is_some, or_else, and_then}
use Rattle.model.specs.Matrix.{Matrix}
use Rattle.model.specs.Scene.{Scene, Skeleton, Mesh, node_count, node_at, mesh_at, skeleton_of, skeleton_at}
use Rattle.model.specs.Skin.{palette_of, skin_root, effective_weights}
use Rattle.model.specs.Refusals.{Test, first_of, lowest, short_scratch, no_such_node, no_palette, short_output}
use Rattle.model.specs.Refusals.{no_common_root}

-- ---- the palette (`joint_matrices_with`), from worlds that are given

-- the palette of skin k: none where its id or its skeleton's is bad, a joint has no world, or there are too few inverse
-- binds
abbrev pub skin_palette : (ℕ → Option Matrix) → Scene → ℕ → Option (List Matrix)
skin_palette world s k = and_then (skeleton_of s k) (λ (t : Skeleton). palette_of world t)

-- the palette of node i: none where it has no skin, too
abbrev pub node_palette : (ℕ → Option Matrix) → Scene → ℕ → Option (List Matrix)
node_palette world s i = and_then (node_at s i).skin (λ k. skin_palette world s k)

-- with so many world slots, and room for so many floats
abbrev pub palette_tests : Scene → ℕ → ℕ → Option (List Matrix) → ℕ → List Test
palette_tests s slots i palette room =
    record { applies = ltb slots (node_count s); refusal = short_scratch }
    ∷ record { applies = not (ltb i (node_count s)); refusal = no_such_node }
    ∷ record { applies = not (is_some palette); refusal = no_palette }
    ∷ record { applies = ltb room (length (or_else palette []) * 16); refusal = short_output }
    ∷ []

unfoldable pub palette_number : ℕ → Scene → ℕ → ℕ → Option (List Matrix) → ℕ → ℕ
palette_number tables s slots i palette room = lowest tables (first_of (palette_tests s slots i palette room))

-- ---- the skin root

abbrev pub skin_root_tests : Scene → ℕ → List Test
skin_root_tests s k = record { applies = not (is_some (skin_root s k)); refusal = no_common_root } ∷ []

unfoldable pub skin_root_number : ℕ → Scene → ℕ → ℕ
skin_root_number tables s k = lowest tables (first_of (skin_root_tests s k))

-- ---- the weights of a node's mesh (`effective_morph_weights`): a part of one of two slices, empty where the call is
-- refused

abbrev pub weights_tests : Scene → ℕ → List Test
weights_tests s i = record { applies = not (is_some (mesh_at s i)); refusal = no_such_node } ∷ []

unfoldable pub weights_number : ℕ → Scene → ℕ → ℕ
weights_number tables s i = lowest tables (first_of (weights_tests s i))

abbrev pub weights_or : ℕ → Option (List Float) → Option Mesh → List Float
weights_or zero own (some mesh) = effective_weights own mesh
weights_or zero own none = []
weights_or (suc n) own mesh = []

unfoldable pub weights_of : ℕ → Scene → ℕ → List Float
weights_of tables s i = weights_or (weights_number tables s i) (node_at s i).weights (mesh_at s i)
