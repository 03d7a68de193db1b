-- The starred lines of the scope's "From the blade bench" as one table; `Holds` says what each line claims. Definitions
-- only.
use Rattle.std.specs.Prelude.{◌≡◌, List, [], ◌∷◌, map, ℕ, pos, Float, false, get_or}
use Rattle.std.proofs.Math.Option.{Option, none, some}
use Rattle.std.specs.Float.{nan, inf, binary32}
use Rattle.std.specs.Float.Ieee.{div, neg, of_int}
use Rattle.turn.specs.Weight.{weight}
use Rattle.model.specs.Vector.{Vector}
use Rattle.model.specs.Matrix.{identity}
use Rattle.model.specs.Transform.{matrix}
use Rattle.model.specs.Scene.{Node, Interpolation, step, linear, cubic_spline, scalars, morph_weights, Track}
use Rattle.model.specs.Scene.{InBetween, Target, Primitive, Scene}
use Rattle.model.specs.Sampling.{sample}
use Rattle.model.specs.Placing.{Place, unplaced, root, below, places, taken}
use Rattle.model.specs.Parents.{parent_of}
use Rattle.model.specs.Morph.{morphed}
use Rattle.model.specs.Vertices.{skinned}
use Rattle.model.specs.Refusals.{sample_number}

-- ---- numbers

abbrev pub whole : ℕ → Float
whole n = of_int binary32 (pos n)

abbrev pub ◌per◌ : ℕ → ℕ → Float
n per d = div binary32 (whole n) (whole d)

infixl 80 ◌per◌
-- ---- what a line speaks of

-- a track of one scalar a frame
abbrev pub track : Interpolation → List Float → List Float → Track
track i ks vs = record {
  target = 0;
  property = morph_weights;
  kind = scalars;
  interpolation = i;
  keys = ks;
  values = vs;
}

-- a scene by its roots and child lists
abbrev pub listing : List ℕ → List (List ℕ) → Scene
listing roots lists = record {
  nodes =
      map (λ (l : List ℕ). record { base = matrix identity; children = l; mesh = none; skin = none; weights = none })
      lists;
  roots = roots;
  tracks = [];
  meshes = [];
  skins = [];
  skeletons = [];
}

-- one vertex with one coordinate that counts
abbrev pub point : Float → Vector
point x = x ∷ whole 0 ∷ whole 0 ∷ []

abbrev pub vertex : Vector → List Target → Primitive
vertex p ts = record {
  positions = p ∷ [];
  normals = none;
  tangents = none;
  joints = none;
  weights = none;
  targets = ts;
}

-- in-between 0.5 with the delta 1, and the target's delta 4
abbrev pub stationed : Target
stationed = record {
  positions = some (point (whole 4) ∷ []);
  normals = none;
  tangents = none;
  in_betweens = record { weight = 1 per 2; positions = some (point (whole 1) ∷ []); normals = none } ∷ [];
}

-- ---- the lines

pub data Line : Type 0 where
  -- keys, values and a time: the value
  samples : Interpolation → List Float → List Float → Float → Float → Line
  -- keys and values of a linear track at time 0: the number
  refuses : List Float → List Float → ℕ → Line
  -- v and c: W
  turns : Float → Float → Float → Line
  -- roots, child lists and a node: where it is placed, its parent by `parents`
  stands : List ℕ → List (List ℕ) → ℕ → Place → Option ℕ → Line
  -- roots and child lists: the entries taken
  takes : List ℕ → List (List ℕ) → ℕ → Line
  -- a weight: how far the station's vertex is moved
  morphs : Float → Float → Line
  -- joints and weights of a vertex, with one identity in the palette: where a point goes
  skins : List ℕ → Vector → Vector → Vector → Line

abbrev pub Holds : Line → Type 0
Holds (samples i ks vs t v) = sample (track i ks vs) t ≡ some (v ∷ [])
Holds (refuses ks vs n) = sample_number 0 (track linear ks vs) (whole 0) 1 ≡ n
Holds (turns v c w) = weight v c ≡ w
Holds (stands rs ls i p q) = (get_or (places (listing rs ls)) i unplaced ≡ p) × (parent_of (listing rs ls) i ≡ q)
Holds (takes rs ls n) = taken (listing rs ls) ≡ n
Holds (morphs w x) = (morphed (w ∷ []) (vertex (point (whole 0)) (stationed ∷ []))).positions ≡ point x ∷ []
Holds (skins js ws p q) = (skinned (identity ∷ []) (js ∷ []) (ws ∷ []) (vertex p [])).positions ≡ q ∷ []

abbrev infinity : Float
infinity = inf false

abbrev minus_one : Float
minus_one = neg (whole 1)

abbrev pub table : List Line
table =
    samples linear (whole 0 ∷ whole 1 ∷ []) (whole 0 ∷ whole 10 ∷ []) (1 per 4) (5 per 2)
    ∷ samples step (whole 0 ∷ whole 1 ∷ []) (whole 0 ∷ whole 10 ∷ []) (1 per 4) (whole 0)
    ∷ samples linear (whole 0 ∷ whole 1 ∷ []) (whole 0 ∷ whole 10 ∷ []) minus_one (whole 0)
    ∷ samples linear (whole 0 ∷ whole 1 ∷ []) (whole 0 ∷ whole 10 ∷ []) infinity (whole 10)
    ∷ samples step (whole 0 ∷ whole 1 ∷ []) (whole 0 ∷ whole 10 ∷ []) minus_one (whole 0)
    ∷ samples step (whole 0 ∷ whole 1 ∷ []) (whole 0 ∷ whole 10 ∷ []) infinity (whole 10)
    ∷ refuses [] (whole 0 ∷ []) 4
    ∷ refuses (whole 0 ∷ whole 1 ∷ []) (whole 0 ∷ whole 1 ∷ whole 2 ∷ []) 4
    ∷ refuses (whole 0 ∷ whole 0 ∷ []) (whole 0 ∷ whole 1 ∷ []) 5
    ∷ samples cubic_spline (whole 0 ∷ whole 1 ∷ []) (whole 0 ∷ whole 0 ∷ whole 0 ∷ whole 0 ∷ whole 8 ∷ whole 0 ∷ [])
    (1 per 2) (whole 4)
    ∷ turns (whole 0) (1 per 2) (whole 0)
    ∷ turns (whole 1) (1 per 2) (whole 1)
    ∷ stands (0 ∷ []) ((1 ∷ 2 ∷ []) ∷ (2 ∷ []) ∷ [] ∷ []) 2 (below 1) (some 0)
    ∷ takes (0 ∷ []) ((1 ∷ 2 ∷ []) ∷ (2 ∷ []) ∷ [] ∷ []) 4
    ∷ stands (0 ∷ 1 ∷ []) ((1 ∷ []) ∷ (0 ∷ []) ∷ []) 1 (below 0) none
    ∷ stands (0 ∷ 1 ∷ []) ((1 ∷ []) ∷ (0 ∷ []) ∷ []) 0 root none
    ∷ takes (0 ∷ 1 ∷ []) ((1 ∷ []) ∷ (0 ∷ []) ∷ []) 4
    ∷ takes (0 ∷ []) [] 0
    ∷ morphs (1 per 4) (1 per 2)
    ∷ morphs (3 per 4) (5 per 2)
    ∷ morphs (whole 2) (whole 10)
    ∷ skins (0 ∷ 0 ∷ 0 ∷ 1 ∷ []) (1 per 2 ∷ nan ∷ minus_one ∷ 1 per 2 ∷ []) (whole 2 ∷ whole 4 ∷ whole 6 ∷ [])
    (whole 1 ∷ whole 2 ∷ whole 3 ∷ [])
    ∷ []
