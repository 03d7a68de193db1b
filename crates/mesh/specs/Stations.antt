-- The stations of a target as code keeps them: of all stations only the two ends of a segment, and the longest slots.
-- Definitions only.
use Rattle.std.specs.Prelude.{◌≡◌, List, [], ◌∷◌, ℕ, ◌/◌, max, Float, length}
use Rattle.std.proofs.Math.Option.{Option, none}
use Rattle.std.specs.Float.Ieee.{lt, le}
use Rattle.float.specs.F32.{zero32}
use Rattle.model.specs.Lists.{pick, tabulate, or_else}
use Rattle.model.specs.Vector.{Vector}
use Rattle.model.specs.Scene.{InBetween}
use Rattle.model.specs.Morph as morph
use Rattle.tracks.specs.declared.Part.{Part}
use Rattle.tables.specs.declared.Header.{Header}
use Rattle.tables.specs.Decoded.{slot_in}
use Rattle.deltas.specs.declared.Station.{Station}
use Rattle.deltas.specs.Deltas.{deltas_in}
use Rattle.deltas.specs.Betweens.{station_at, kept_in}
use Rattle.mesh.specs.declared.Segment.{Segment}
use Rattle.mesh.specs.declared.Blend.{Blend}

-- ---- of the model: the segment of w in a list of two stations or more, and the longest of the slots, an absent one
-- having no entries

abbrev blank : morph.Station
blank = record { weight = zero32; positions = none; normals = none }

abbrev pub segment_of : Float → List morph.Station → morph.Segment
segment_of w [] = record { low = blank; high = blank }
segment_of w (a ∷ []) = record { low = blank; high = blank }
segment_of w (a ∷ b ∷ rest) = morph.segment_from w a b rest

unfoldable pub longest_of : (morph.Station → Option (List Vector)) → List morph.Station → ℕ
longest_of slot [] = 0
longest_of slot (s ∷ l) = max (length (or_else (slot s) [])) (longest_of slot l)

-- ---- what a station and a segment of the code are

abbrev pub station_for : List Float → Station → morph.Station
station_for floats s = record {
  weight = s.weight;
  positions = slot_in floats s.positions 3;
  normals = slot_in floats s.normals 3;
}

abbrev pub segment_for : List Float → Segment → morph.Segment
segment_for floats g = record { low = station_for floats g.low; high = station_for floats g.high }

-- what is kept of a list of stations for a weight w
pub record Blends (floats : List Float) (all : List morph.Station) (w : Float) (b : Blend) : Type 0 where
  pub segment : segment_for floats b.segment ≡ segment_of w all
  pub positions : b.positions ≡ longest_of (λ (s : morph.Station). s.positions) all
  pub normals : b.normals ≡ longest_of (λ (s : morph.Station). s.normals) all

-- ---- one station more

unfoldable pub narrowed_in : Float → Segment → Station → Segment
narrowed_in w g s =
    pick (lt s.weight g.low.weight)
    (pick (le w g.low.weight) (record { low = s; high = g.low }) g)
    (pick (lt s.weight g.high.weight)
    (pick (le w s.weight) (record { low = g.low; high = s }) (record { low = s; high = g.high }))
    (pick (le w g.high.weight) g (record { low = g.high; high = s })))

unfoldable pub widened_in : List Float → Float → Blend → Station → Blend
widened_in floats w b s = record {
  segment = narrowed_in w b.segment s;
  positions = max (length (deltas_in floats s.positions) / 3) b.positions;
  normals = max (length (deltas_in floats s.normals) / 3) b.normals;
}

-- ---- the in-betweens that a part names

abbrev pub stations_in : List ℕ → List Float → Header → Part → List Station
stations_in words floats h betweens = tabulate betweens.count (station_at words floats h betweens)

-- the blend with s among its stations, if it is one
unfoldable pub widened_by : List Float → Float → List InBetween → Blend → Station → Blend
widened_by floats w all b s = pick (kept_in all s.weight) (widened_in floats w b s) b
