-- A scene as its tables are read: offsets are gone, each part is a list of its own, and what is absent is told from
-- what is empty.
-- Pieces (the scope's word) are nodes; ids count from 0. Definitions only.
use Rattle.std.specs.Prelude.{List, [], ℕ, Float, length, get_or}
use Rattle.std.proofs.Math.Option.{Option, none, some}
use Rattle.std.proofs.Math.ListN.{get_elem?}
use Rattle.model.specs.Lists.{and_then, or_else}
use Rattle.model.specs.Vector.{Vector}
use Rattle.model.specs.Matrix.{Matrix}
use Rattle.model.specs.Transform.{Transform, matrix}

-- glTF 2.0, 3.5.3; the weights are the node's own morph weights
pub record Node : Type 0 where
  pub base : Transform
  pub children : List ℕ
  pub mesh : Option ℕ
  pub skin : Option ℕ
  pub weights : Option (List Float)

-- what a channel drives, the kind of its values, and the interpolation (glTF 2.0, 3.11 and Appendix C)
pub data Property : Type 0 where
  translation rotation scale morph_weights : Property

pub data Kind : Type 0 where
  vec3s quats scalars : Kind

pub data Interpolation : Type 0 where
  step linear cubic_spline : Interpolation

-- a channel with its sampler; the values are flat
pub record Track : Type 0 where
  pub target : ℕ
  pub property : Property
  pub kind : Kind
  pub interpolation : Interpolation
  pub keys : List Float
  pub values : List Float

-- morph deltas, a slot for each attribute (glTF 2.0, 3.7.2.2)
pub record InBetween : Type 0 where
  pub weight : Float
  pub positions : Option (List Vector)
  pub normals : Option (List Vector)

pub record Target : Type 0 where
  pub positions : Option (List Vector)
  pub normals : Option (List Vector)
  pub tangents : Option (List Vector)
  pub in_betweens : List InBetween

-- tangents, joints and weights have four entries a vertex (glTF 2.0, 3.7.2.1 and 3.7.3)
pub record Primitive : Type 0 where
  pub positions : List Vector
  pub normals : Option (List Vector)
  pub tangents : Option (List Vector)
  pub joints : Option (List (List ℕ))
  pub weights : Option (List Vector)
  pub targets : List Target

pub record Mesh : Type 0 where
  pub primitives : List Primitive
  pub weights : List Float

pub record Skin : Type 0 where
  pub skeleton : ℕ
  pub root : Option ℕ

pub record Skeleton : Type 0 where
  pub joints : List ℕ
  pub inverse_binds : List Matrix

pub record Scene : Type 0 where
  pub nodes : List Node
  pub roots : List ℕ
  pub tracks : List Track
  pub meshes : List Mesh
  pub skins : List Skin
  pub skeletons : List Skeleton

abbrev pub node_count : Scene → ℕ
node_count s = length s.nodes

-- what an id out of range reads as
abbrev pub blank : Node
blank = record { base = matrix []; children = []; mesh = none; skin = none; weights = none }

abbrev pub node_at : Scene → ℕ → Node
node_at s i = get_or s.nodes i blank

abbrev pub children_at : Scene → ℕ → List ℕ
children_at s i = (node_at s i).children

-- the mesh of node i: none where i is out of range, or the node has no mesh id or a bad one
abbrev pub mesh_at : Scene → ℕ → Option Mesh
mesh_at s i = and_then (node_at s i).mesh (λ m. get_elem? s.meshes m)

-- the skeleton of a skin: none where either id is bad
abbrev pub skeleton_of : Scene → ℕ → Option Skeleton
skeleton_of s k = and_then (get_elem? s.skins k) (λ (t : Skin). get_elem? s.skeletons t.skeleton)

-- the skeleton of node i, where it has a skin and both ids name something
abbrev pub skeleton_at : Scene → ℕ → Option Skeleton
skeleton_at s i = and_then (node_at s i).skin (λ k. skeleton_of s k)
