-- What the tags and marks of a record say. A mark is 0 for absent; a number that names nothing is over size (2), so
-- what it reads as does not matter. Definitions only.
use Rattle.std.specs.Prelude as rust
use Rattle.std.specs.Prelude.{Bool, true, false, ℕ, zero, suc}
use Rattle.std.proofs.Math.Option.{Option, none, some}
use Rattle.model.specs.Lists.{pick}
use Rattle.model.specs.Scene as scene
use Rattle.tracks.specs.Codes.{kind_for, interpolation_for}
use Rattle.tracks.specs.declared.Track.{Track}
use Rattle.tables.specs.declared.Reference.{Reference}
use Rattle.tables.specs.declared.ChannelRow.{ChannelRow}
use Rattle.tables.specs.declared.Property.{Property}
use Rattle.tables.specs.declared.Property.TheVariants as property

abbrev pub is_marked : ℕ → Bool
is_marked zero = false
is_marked (suc n) = true

abbrev pub property_for : ℕ → scene.Property
property_for zero = scene.translation
property_for (suc zero) = scene.rotation
property_for (suc (suc zero)) = scene.scale
property_for (suc (suc (suc n))) = scene.morph_weights

abbrev pub track_for : ChannelRow → Track
track_for r = record {
  kind = kind_for r.kind;
  interpolation = interpolation_for r.interpolation;
  keys = r.keys;
  values = r.values;
}

abbrev pub id_of : Reference → Option ℕ
id_of r = pick (is_marked r.mark) (some r.id) none

-- ---- what the values of the code say

abbrev pub option_of : {A : Type 0} → rust.Option A → Option A
option_of (rust.Some x) = some x
option_of rust.None = none

abbrev pub property_of : Property → scene.Property
property_of property.Translation = scene.translation
property_of property.Rotation = scene.rotation
property_of property.Scale = scene.scale
property_of property.MorphWeights = scene.morph_weights
