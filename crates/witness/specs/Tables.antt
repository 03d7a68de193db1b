-- The same two scenes as tables that are lent (docs/TABLES.md), laid out in other orders. Definitions only.
use Rattle.std.specs.Prelude.{List, [], ◌∷◌, ◌++◌, ℕ, Float, replicate}
use Rattle.float.specs.F32.{zero32, one32}
use Rattle.tracks.specs.declared.Part.{Part}
use Rattle.tables.specs.Decoded.{Lent}
use Rattle.bake.specs.Baked.{Room}
use Rattle.witness.specs.Scenes.{vector, shifted, still, two32}

abbrev table : ℕ → ℕ → Part
table at count = record { at = at; count = count }

-- ---- floats

-- translation, rotation and scale
abbrev ten : Float → List Float
ten x = vector x zero32 zero32 ++ still ++ vector one32 one32 one32

-- 61 floats: at 0 the matrix of node 0, at 16 the parts of nodes 1 and 2, at 26 and 28 the joint's keys and values, at
-- 34 and 35 the asked node's, at 38 and 41 positions and weights, at 45 the inverse bind
abbrev own : List Float
own =
    shifted two32 ++ ten zero32
    ++ (zero32 ∷ one32 ∷ []) ++ vector zero32 zero32 zero32 ++ vector two32 zero32 zero32
    ++ (zero32 ∷ []) ++ vector two32 two32 two32
    ++ vector one32 zero32 zero32 ++ (one32 ∷ zero32 ∷ zero32 ∷ zero32 ∷ []) ++ shifted zero32

-- ---- before: nodes first, and the own floats first

abbrev words₁ : List ℕ
words₁ =
    -- 0: nodes
    1 ∷ 0 ∷ 64 ∷ 1 ∷ 0 ∷ 0 ∷ 0 ∷ 0 ∷ 0 ∷ 0 ∷ 0 ∷ 0 ∷ 0 ∷ 0 ∷ 0 ∷ 0
    ∷ 0 ∷ 16 ∷ 0 ∷ 0 ∷ 0 ∷ 0 ∷ 0 ∷ 0 ∷ 0 ∷ 0 ∷ 0 ∷ 0 ∷ 0 ∷ 0 ∷ 0 ∷ 0
    ∷ 0 ∷ 16 ∷ 0 ∷ 0 ∷ 1 ∷ 0 ∷ 1 ∷ 0 ∷ 0 ∷ 0 ∷ 0 ∷ 0 ∷ 0 ∷ 0 ∷ 0 ∷ 0
    ∷ 1 ∷ 61 ∷ 0 ∷ 0 ∷ 1 ∷ 1 ∷ 0 ∷ 0 ∷ 0 ∷ 0 ∷ 0 ∷ 0 ∷ 0 ∷ 0 ∷ 0 ∷ 0
    -- 64: the child of node 0, 65: roots, 68: the joint, 69: the joints of the vertex
    ∷ 1 ∷ 0 ∷ 2 ∷ 3 ∷ 1 ∷ 0 ∷ 0 ∷ 0 ∷ 0
    -- 73: channels
    ∷ 1 ∷ 0 ∷ 0 ∷ 1 ∷ 26 ∷ 2 ∷ 28 ∷ 2
    ∷ 2 ∷ 2 ∷ 0 ∷ 0 ∷ 34 ∷ 1 ∷ 35 ∷ 1
    ∷ 3 ∷ 3 ∷ 2 ∷ 0 ∷ 80 ∷ 1 ∷ 81 ∷ 1
    -- 97: meshes, 105: primitives
    ∷ 0 ∷ 1 ∷ 0 ∷ 0
    ∷ 1 ∷ 1 ∷ 0 ∷ 0
    ∷ 38 ∷ 1 ∷ 0 ∷ 0 ∷ 0 ∷ 0 ∷ 0 ∷ 0 ∷ 1 ∷ 69 ∷ 1 ∷ 1 ∷ 41 ∷ 1 ∷ 0 ∷ 0
    ∷ 77 ∷ 1 ∷ 0 ∷ 0 ∷ 0 ∷ 0 ∷ 0 ∷ 0 ∷ 0 ∷ 0 ∷ 0 ∷ 0 ∷ 0 ∷ 0 ∷ 0 ∷ 0
    -- 137: skins, 141: skeletons
    ∷ 0 ∷ 0 ∷ 0 ∷ 0
    ∷ 68 ∷ 1 ∷ 45 ∷ 1 ∷ []

abbrev pub lent₁ : Lent
lent₁ = record {
  words = words₁;
  floats = own ++ shifted one32 ++ vector zero32 zero32 two32 ++ (zero32 ∷ one32 ∷ []);
  node_weights = [];
  mesh_weights = [];
  header = record {
    graph = record { nodes = table 0 4; roots = table 65 3 };
    channels = table 73 3;
    meshes = record { meshes = table 97 2; primitives = table 105 2; targets = table 0 0; in_betweens = table 0 0 };
    skins = record { skins = table 137 1; skeletons = table 141 1 };
  };
}

-- ---- after: nodes last, and the other maker's twenty floats first

abbrev words₂ : List ℕ
words₂ =
    -- 0: skeletons, 8: skins
    80 ∷ 1 ∷ 0 ∷ 0
    ∷ 81 ∷ 1 ∷ 65 ∷ 1
    ∷ 0 ∷ 0 ∷ 0 ∷ 0
    ∷ 1 ∷ 1 ∷ 0 ∷ 0
    -- 16: primitives, 48: meshes
    ∷ 10 ∷ 2 ∷ 0 ∷ 0 ∷ 0 ∷ 0 ∷ 0 ∷ 0 ∷ 0 ∷ 0 ∷ 0 ∷ 0 ∷ 0 ∷ 0 ∷ 0 ∷ 0
    ∷ 58 ∷ 1 ∷ 0 ∷ 0 ∷ 0 ∷ 0 ∷ 0 ∷ 0 ∷ 1 ∷ 82 ∷ 1 ∷ 1 ∷ 61 ∷ 1 ∷ 0 ∷ 0
    ∷ 0 ∷ 1 ∷ 0 ∷ 0
    ∷ 1 ∷ 1 ∷ 0 ∷ 0
    -- 56: channels
    ∷ 3 ∷ 0 ∷ 0 ∷ 0 ∷ 16 ∷ 1 ∷ 17 ∷ 1
    ∷ 1 ∷ 0 ∷ 0 ∷ 1 ∷ 46 ∷ 2 ∷ 48 ∷ 2
    ∷ 2 ∷ 2 ∷ 0 ∷ 0 ∷ 54 ∷ 1 ∷ 55 ∷ 1
    -- 80 and 81: the joints, 82: the joints of the vertex, 86: the child of node 0, 87: roots
    ∷ 3 ∷ 1 ∷ 0 ∷ 0 ∷ 0 ∷ 0 ∷ 1 ∷ 0 ∷ 2 ∷ 3
    -- 90: nodes
    ∷ 1 ∷ 20 ∷ 86 ∷ 1 ∷ 0 ∷ 0 ∷ 0 ∷ 0 ∷ 0 ∷ 0 ∷ 0 ∷ 0 ∷ 0 ∷ 0 ∷ 0 ∷ 0
    ∷ 0 ∷ 36 ∷ 0 ∷ 0 ∷ 0 ∷ 0 ∷ 0 ∷ 0 ∷ 0 ∷ 0 ∷ 0 ∷ 0 ∷ 0 ∷ 0 ∷ 0 ∷ 0
    ∷ 0 ∷ 36 ∷ 0 ∷ 0 ∷ 1 ∷ 1 ∷ 1 ∷ 1 ∷ 0 ∷ 0 ∷ 0 ∷ 0 ∷ 0 ∷ 0 ∷ 0 ∷ 0
    ∷ 0 ∷ 0 ∷ 0 ∷ 0 ∷ 1 ∷ 0 ∷ 1 ∷ 0 ∷ 1 ∷ 0 ∷ 1 ∷ 0 ∷ 0 ∷ 0 ∷ 0 ∷ 0 ∷ []

abbrev pub lent₂ : Lent
lent₂ = record {
  words = words₂;
  floats =
      ten two32 ++ vector one32 one32 one32 ++ vector two32 two32 two32
      ++ (zero32 ∷ []) ++ vector one32 one32 one32 ++ own;
  node_weights = one32 ∷ [];
  mesh_weights = [];
  header = record {
    graph = record { nodes = table 90 4; roots = table 87 3 };
    channels = table 56 3;
    meshes = record { meshes = table 48 2; primitives = table 16 2; targets = table 0 0; in_betweens = table 0 0 };
    skins = record { skins = table 8 2; skeletons = table 0 2 };
  };
}

-- ---- room that just suffices, and holds other numbers before and after

abbrev filled : ℕ → Float → Room
filled n x = record {
  scratch = record {
    marks = replicate 16 n;
    slots = replicate 40 x;
    walk = replicate 8 n;
    places = replicate 4 n;
    worlds = replicate 64 x;
  };
  output = record { positions = replicate 3 x; normals = []; tangents = [] };
}

abbrev pub room₁ : Room
room₁ = filled 0 zero32

abbrev pub room₂ : Room
room₂ = filled 7 one32
