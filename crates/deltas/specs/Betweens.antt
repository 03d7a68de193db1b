-- The in-betweens that a part names, and which of them are stations. Definitions only.
use Rattle.std.specs.Prelude.{Bool, ◌&&◌, List, ℕ, ◌+◌, eqb, Float, length, get_or}
use Rattle.std.specs.Float.Ieee.{eq}
use Rattle.float.specs.F32.{zero32}
use Rattle.model.specs.Lists.{keep}
use Rattle.model.specs.Scene.{InBetween}
use Rattle.model.specs.Morph.{valid}
use Rattle.tracks.specs.declared.Part.{Part}
use Rattle.tables.specs.declared.Header.{Header}
use Rattle.tables.specs.Records.{in_between_row}
use Rattle.tables.specs.Decoded.{in_between_of, records_in}
use Rattle.deltas.specs.declared.Station.{Station}
use Rattle.deltas.specs.Deltas.{lent_in}

abbrev pub betweens_in : List ℕ → List Float → Header → Part → List InBetween
betweens_in words floats h betweens =
    records_in (λ i. in_between_of (lent_in words floats h) (in_between_row words h.meshes.in_betweens i)) betweens

abbrev pub station_at : List ℕ → List Float → Header → Part → ℕ → Station
station_at words floats h betweens k =
    let r = in_between_row words h.meshes.in_betweens (betweens.at + k) in
    record { weight = get_or floats r.weight zero32; positions = r.positions; normals = r.normals }

-- how many have a weight
abbrev pub sharing : List InBetween → Float → ℕ
sharing all w = length (keep (λ (c : InBetween). eq c.weight w) all)

-- the weight of an in-between that is valid, and has its weight alone
abbrev pub kept_in : List InBetween → Float → Bool
kept_in all w = valid w && eqb (sharing all w) 1
