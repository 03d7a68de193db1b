-- What a call on vertices is lent, and the deltas of a slot. Definitions only.
use Rattle.std.specs.Prelude.{List, [], ℕ, Float}
use Rattle.model.specs.Lists.{pick}
use Rattle.tables.specs.declared.Header.{Header}
use Rattle.tables.specs.declared.Slot.{Slot}
use Rattle.tables.specs.Tags.{is_marked}
use Rattle.tables.specs.Decoded.{Lent, span_in}

-- targets do not read the weights of nodes and meshes
abbrev pub lent_in : List ℕ → List Float → Header → Lent
lent_in words floats h = record { words = words; floats = floats; node_weights = []; mesh_weights = []; header = h }

-- the deltas of a slot as they lie; none where it is absent
unfoldable pub deltas_in : List Float → Slot → List Float
deltas_in floats s = pick (is_marked s.mark) (span_in floats s.part 3) []
