-- A scene in fields: its header and the places of its lists. Definitions only.
use Rattle.std.specs.Prelude.{List, ℕ, ◌+◌, ◌*◌, length, get_or}
use Rattle.tracks.specs.declared.Part.{Part}
use Rattle.tables.specs.declared.Graph.{Graph}
use Rattle.tables.specs.declared.Header.{Header}
use Rattle.tables.specs.declared.Meshes.{Meshes}
use Rattle.tables.specs.declared.Skins.{Skins}
use Rattle.lists.specs.Fields.{ahead_of, behind_list}

-- table k of a header: where it starts, and how many records it has
abbrev pub part_at : List ℕ → ℕ → ℕ → Part
part_at fields at k = record { at = get_or fields (at + 2 * k) 0; count = get_or fields (at + (2 * k + 1)) 0 }

abbrev pub graph_at : List ℕ → ℕ → Graph
graph_at fields at = record { nodes = part_at fields at 0; roots = part_at fields at 1 }

abbrev pub meshes_at : List ℕ → ℕ → Meshes
meshes_at fields at = record {
  meshes = part_at fields at 3;
  primitives = part_at fields at 4;
  targets = part_at fields at 5;
  in_betweens = part_at fields at 6;
}

abbrev pub skins_at : List ℕ → ℕ → Skins
skins_at fields at = record { skins = part_at fields at 7; skeletons = part_at fields at 8 }

-- nine tables, in the order of docs/TABLES.md
abbrev pub header_at : List ℕ → ℕ → Header
header_at fields at = record {
  graph = graph_at fields at;
  channels = part_at fields at 2;
  meshes = meshes_at fields at;
  skins = skins_at fields at;
}

-- where the lists of a scene stand, and what is behind them
pub record Places : Type 0 where
  pub words : ℕ
  pub floats : ℕ
  pub node_weights : ℕ
  pub mesh_weights : ℕ
  pub end : ℕ

-- behind the 18 fields of the header the lists words, floats, node weights and mesh weights, with room for so many
abbrev pub places_at : List ℕ → ℕ → ℕ → ℕ → ℕ → Places
places_at fields at room own mesh =
    let words = ahead_of fields at 18 in
    let floats = behind_list fields words (length fields) in
    let node_weights = behind_list fields floats room in
    let mesh_weights = behind_list fields node_weights own in
    record {
      words = words;
      floats = floats;
      node_weights = node_weights;
      mesh_weights = mesh_weights;
      end = behind_list fields mesh_weights mesh;
    }
