-- Morph targets as they are lent. Definitions only.
use Rattle.std.specs.Prelude.{List, ℕ, Float}
use Rattle.model.specs.Scene as scene
use Rattle.tracks.specs.declared.Part.{Part}
use Rattle.tables.specs.declared.Header.{Header}
use Rattle.tables.specs.Records.{target_row}
use Rattle.tables.specs.Decoded.{records_in, target_of}
use Rattle.deltas.specs.Deltas.{lent_in}

-- the targets that a part names
abbrev pub targets_in : List ℕ → List Float → Header → Part → List scene.Target
targets_in words floats h targets =
    records_in (λ i. target_of (lent_in words floats h) (target_row words h.meshes.targets i)) targets
