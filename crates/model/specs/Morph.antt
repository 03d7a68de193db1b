-- Morphed primitives: scope, "Morphed and baked vertices"; glTF 2.0, 3.7.2.2, with in-betweens, which glTF does not
-- have. Definitions only.
use mathlib.Core.List.{List, [], ◌∷◌, ◌++◌, map, zip_with}
use Rattle.std.specs.Prelude.{Bool, true, false, not, ◌&&◌, ℕ, suc, max, eqb, Float, length, get_or, take, drop}
use Rattle.std.proofs.Math.Option.{Option, none, some}
use Rattle.std.specs.Float.Ieee.{lt, le, eq}
use Rattle.std.specs.Float.Ieee.Scale.{finite}
use Rattle.float.specs.F32.{◌⊖◌, ◌⊘◌, zero32, one32}
use Rattle.model.specs.Lists.{pick, foldl, keep, any_of, tabulate, map_some}
use Rattle.model.specs.Vector.{Vector, ◌⊙◌, ◌⊞◌}
use Rattle.model.specs.Scene.{InBetween, Target, Primitive}

-- f of each entry and its delta, up to the shorter list; the entries past it stay
unfoldable pub with_deltas : (Vector → Vector → Vector) → List Vector → List Vector → List Vector
with_deltas f [] ds = []
with_deltas f (v ∷ vs) [] = v ∷ vs
with_deltas f (v ∷ vs) (d ∷ ds) = f v d ∷ with_deltas f vs ds

-- the same for a slot of deltas and an attribute that may be absent
abbrev on_slot : (Vector → Vector → Vector) → List Vector → Option (List Vector) → List Vector
on_slot f vs none = vs
on_slot f vs (some ds) = with_deltas f vs ds

abbrev on_attribute : (Vector → Vector → Vector) → Option (List Vector) → Option (List Vector) → Option (List Vector)
on_attribute f vs ds = map_some (λ l. on_slot f l ds) vs

abbrev plus : Float → Vector → Vector → Vector
plus w v d = v ⊞ w ⊙ d

-- of a tangent x, y and z alone
abbrev plus_xyz : Float → Vector → Vector → Vector
plus_xyz w v d = (take 3 v ⊞ w ⊙ d) ++ drop 3 v

-- ---- stations: the in-betweens of a target, with 0 and 1

pub record Station : Type 0 where
  pub weight : Float
  pub positions : Option (List Vector)
  pub normals : Option (List Vector)

abbrev pub valid : Float → Bool
valid w = finite w && not (eq w zero32) && not (eq w one32)

-- no other in-between has its weight
abbrev alone : List InBetween → InBetween → Bool
alone all b = eqb (length (keep (λ (c : InBetween). eq c.weight b.weight) all)) 1

abbrev station_of : InBetween → Station
station_of b = record { weight = b.weight; positions = b.positions; normals = b.normals }

unfoldable pub inserted : Station → List Station → List Station
inserted s [] = s ∷ []
inserted s (t ∷ ts) = pick (lt s.weight t.weight) (s ∷ t ∷ ts) (t ∷ inserted s ts)

-- in rising order
unfoldable pub stations : Target → List Station
stations t =
    foldl (λ (l : List Station) (b : InBetween). inserted (station_of b) l)
    (record { weight = zero32; positions = none; normals = none }
    ∷ record { weight = one32; positions = t.positions; normals = t.normals } ∷ [])
    (keep (λ (b : InBetween). valid b.weight && alone t.in_betweens b) t.in_betweens)

-- two neighbouring stations
pub record Segment : Type 0 where
  pub low : Station
  pub high : Station

-- the first segment whose upper end is w or more, else the last
unfoldable pub segment_from : Float → Station → Station → List Station → Segment
segment_from w a b [] = record { low = a; high = b }
segment_from w a b (c ∷ rest) = pick (le w b.weight) (record { low = a; high = b }) (segment_from w b c rest)

abbrev zeros : Vector
zeros = zero32 ∷ zero32 ∷ zero32 ∷ []

abbrev entry_of : Option (List Vector) → ℕ → Vector
entry_of none i = zeros
entry_of (some l) i = get_or l i zeros

-- a + t (b - a), a missing entry reading as zeros
abbrev mixed : Float → Vector → Vector → Vector
mixed t a b = a ⊞ t ⊙ zip_with ◌⊖◌ b a

abbrev longer : Option (List Vector) → Option ℕ → Option ℕ
longer none n = n
longer (some l) none = some (length l)
longer (some l) (some n) = some (max (length l) n)

-- the target's slot gives the length, or the longest station's; none if no slot has it
abbrev length_of : Option (List Vector) → List (Option (List Vector)) → Option ℕ
length_of (some l) slots = some (length l)
length_of none slots = foldl (λ (n : Option ℕ) (s : Option (List Vector)). longer s n) none slots

-- the deltas at w of one attribute, which is read from a station by `slot`
unfoldable pub between : (Station → Option (List Vector)) → Option (List Vector) → List Station → Float → Segment
    → Option (List Vector)
between slot own all w g =
    let t = (w ⊖ g.low.weight) ⊘ (g.high.weight ⊖ g.low.weight) in
    map_some (λ n. tabulate n (λ i. mixed t (entry_of (slot g.low) i) (entry_of (slot g.high) i)))
    (length_of own (map slot all))

-- ---- a target at weight w, which is not 0

abbrev with_tangents : Float → Target → Primitive → List Vector → Option (List Vector) → Primitive
with_tangents w t p positions normals = record {
  positions = positions;
  normals = normals;
  tangents = on_attribute (plus_xyz w) p.tangents t.tangents;
  joints = p.joints;
  weights = p.weights;
  targets = p.targets;
}

unfoldable pub plain_target : Float → Target → Primitive → Primitive
plain_target w t p =
    with_tangents w t p (on_slot (plus w) p.positions t.positions) (on_attribute (plus w) p.normals t.normals)

unfoldable pub station_target : Float → Target → Primitive → Primitive
station_target w t p = go (stations t)
  where
    blended : List Station → Segment → Primitive
    blended all g =
        with_tangents w t p
        (on_slot ◌⊞◌ p.positions (between (λ (s : Station). s.positions) t.positions all w g))
        (on_attribute ◌⊞◌ p.normals (between (λ (s : Station). s.normals) t.normals all w g))

    go : List Station → Primitive
    go [] = p
    go (a ∷ []) = p
    go (a ∷ b ∷ rest) = blended (a ∷ b ∷ rest) (segment_from w a b rest)

-- stations where an in-between has a valid weight; weight 0 adds nothing
unfoldable pub with_target : Primitive → Target → Float → Primitive
with_target p t w =
    pick (eq w zero32) p
    (pick (any_of (λ (b : InBetween). valid b.weight) t.in_betweens) (station_target w t p) (plain_target w t p))

-- targets and weights in order, paired up to the shorter list
unfoldable pub with_targets : List Target → List Float → Primitive → Primitive
with_targets [] ws p = p
with_targets (t ∷ ts) [] p = p
with_targets (t ∷ ts) (w ∷ ws) p = with_targets ts ws (with_target p t w)

abbrev pub morphed : List Float → Primitive → Primitive
morphed ws p = with_targets p.targets ws p
