-- One scene of two makers, before and after the other maker's changes: scope, "Two makers, one scene". Node 2 is the
-- one that is asked for: it is skinned, its joint is node 1, which stands under node 0, and both have a track. Node 3
-- is the other maker's. Definitions only.
use Rattle.std.specs.Prelude.{◌≡◌, List, [], ◌∷◌, ◌++◌, ℕ, Float}
use Rattle.std.proofs.Math.Option.{none, some}
use Rattle.float.specs.F32.{f32, zero32, one32}
use Rattle.model.specs.Vector.{Vector}
use Rattle.model.specs.Matrix.{Matrix}
use Rattle.model.specs.Transform.{Transform, parts, matrix}
use Rattle.model.specs.Scene.{Node, Track, translation, scale, morph_weights, vec3s, scalars, step, linear}
use Rattle.model.specs.Scene.{Primitive, Mesh, Skeleton, Scene, node_at}

abbrev pub half32 : Float
half32 = f32 0x3f00_0000

abbrev pub two32 : Float
two32 = f32 0x4000_0000

abbrev pub four32 : Float
four32 = f32 0x4080_0000

abbrev pub vector : Float → Float → Float → Vector
vector x y z = x ∷ y ∷ z ∷ []

-- a move along x, as a matrix
abbrev pub shifted : Float → Matrix
shifted x =
    one32 ∷ zero32 ∷ zero32 ∷ x
    ∷ zero32 ∷ one32 ∷ zero32 ∷ zero32
    ∷ zero32 ∷ zero32 ∷ one32 ∷ zero32
    ∷ zero32 ∷ zero32 ∷ zero32 ∷ one32 ∷ []

-- the rotation that turns nothing
abbrev pub still : Vector
still = zero32 ∷ zero32 ∷ zero32 ∷ one32 ∷ []

-- a move along x, as parts
abbrev pub shifted_parts : Float → Transform
shifted_parts x =
    parts (record { translation = vector x zero32 zero32; rotation = still; scale = vector one32 one32 one32 })

-- ---- what is the same in both

-- one vertex, which follows the first joint with its whole weight
abbrev pub our_mesh : Mesh
our_mesh = record {
  primitives = record {
    positions = vector one32 zero32 zero32 ∷ [];
    normals = none;
    tangents = none;
    joints = some ((0 ∷ 0 ∷ 0 ∷ 0 ∷ []) ∷ []);
    weights = some ((one32 ∷ zero32 ∷ zero32 ∷ zero32 ∷ []) ∷ []);
    targets = [];
  } ∷ [];
  weights = [];
}

abbrev pub bones : Skeleton
bones = record { joints = 1 ∷ []; inverse_binds = shifted zero32 ∷ [] }

abbrev pub stand : Node
stand = record { base = matrix (shifted two32); children = 1 ∷ []; mesh = none; skin = none; weights = none }

abbrev pub joint : Node
joint = record { base = shifted_parts zero32; children = []; mesh = none; skin = none; weights = none }

-- the asked node; mesh and skin have other numbers before and after
abbrev pub asked : ℕ → ℕ → Node
asked mesh skin =
    record { base = shifted_parts zero32; children = []; mesh = some mesh; skin = some skin; weights = none }

-- the joint moves by 2 along x in one second
abbrev pub joint_track : Track
joint_track = record {
  target = 1;
  property = translation;
  kind = vec3s;
  interpolation = linear;
  keys = zero32 ∷ one32 ∷ [];
  values = vector zero32 zero32 zero32 ++ vector two32 zero32 zero32;
}

abbrev pub asked_track : Track
asked_track = record {
  target = 2;
  property = scale;
  kind = vec3s;
  interpolation = step;
  keys = zero32 ∷ [];
  values = vector two32 two32 two32;
}

-- ---- the other maker's, before and after

abbrev pub unskinned : List Vector → Primitive
unskinned l = record { positions = l; normals = none; tangents = none; joints = none; weights = none; targets = [] }

abbrev pub their_mesh₁ : Mesh
their_mesh₁ = record { primitives = unskinned (vector zero32 zero32 two32 ∷ []) ∷ []; weights = [] }

abbrev pub their_mesh₂ : Mesh
their_mesh₂ =
    record { primitives = unskinned (vector one32 one32 one32 ∷ vector two32 two32 two32 ∷ []) ∷ []; weights = [] }

abbrev pub theirs₁ : Node
theirs₁ = record { base = matrix (shifted one32); children = []; mesh = some 1; skin = none; weights = none }

abbrev pub theirs₂ : Node
theirs₂ =
    record { base = shifted_parts two32; children = []; mesh = some 0; skin = some 0; weights = some (one32 ∷ []) }

abbrev pub their_track₁ : Track
their_track₁ = record {
  target = 3;
  property = morph_weights;
  kind = scalars;
  interpolation = step;
  keys = zero32 ∷ [];
  values = one32 ∷ [];
}

abbrev pub their_track₂ : Track
their_track₂ = record {
  target = 3;
  property = translation;
  kind = vec3s;
  interpolation = step;
  keys = zero32 ∷ [];
  values = vector one32 one32 one32;
}

-- ---- the scene before and after

abbrev pub before : Scene
before = record {
  nodes = stand ∷ joint ∷ asked 0 0 ∷ theirs₁ ∷ [];
  roots = 0 ∷ 2 ∷ 3 ∷ [];
  tracks = joint_track ∷ asked_track ∷ their_track₁ ∷ [];
  meshes = our_mesh ∷ their_mesh₁ ∷ [];
  skins = record { skeleton = 0; root = none } ∷ [];
  skeletons = bones ∷ [];
}

abbrev pub after : Scene
after = record {
  nodes = stand ∷ joint ∷ asked 1 1 ∷ theirs₂ ∷ [];
  roots = 0 ∷ 2 ∷ 3 ∷ [];
  tracks = their_track₂ ∷ joint_track ∷ asked_track ∷ [];
  meshes = their_mesh₂ ∷ our_mesh ∷ [];
  skins = record { skeleton = 0; root = none } ∷ record { skeleton = 1; root = some 0 } ∷ [];
  skeletons = record { joints = 3 ∷ []; inverse_binds = [] } ∷ bones ∷ [];
}

-- no table of the one is that of the other, and the other maker's node has another base transform
pub record Apart (s₁ s₂ : Scene) : Type 0 where
  pub nodes : s₁.nodes ≡ s₂.nodes → ⊥
  pub base : (node_at s₁ 3).base ≡ (node_at s₂ 3).base → ⊥
  pub tracks : s₁.tracks ≡ s₂.tracks → ⊥
  pub meshes : s₁.meshes ≡ s₂.meshes → ⊥
  pub skins : s₁.skins ≡ s₂.skins → ⊥
  pub skeletons : s₁.skeletons ≡ s₂.skeletons → ⊥
