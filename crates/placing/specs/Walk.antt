-- Which node is placed under which, and in what order, for the listing that the tables of nodes and roots say: scope,
-- "Placed pieces" (`posed_node_transforms` of pose.rs, without its matrices). Definitions only.
use Rattle.std.specs.Prelude.{◌≡◌, List, [], ◌++◌, map, ℕ, ◌+◌, length, drop, replicate}
use Rattle.std.proofs.Math.Option.{none}
use Rattle.borrowed.specs.Slices.{Change}
use Rattle.model.specs.Lists.{tabulate}
use Rattle.model.specs.Scene.{Scene, Node, node_count}
use Rattle.model.specs.Matrix.{identity}
use Rattle.model.specs.Transform.{matrix}
use Rattle.model.specs.Placing as placing
use Rattle.tables.specs.declared.Graph.{Graph}
use Rattle.tables.specs.Decoded.{span_in, children_in}
use Rattle.tables.specs.Codes.{codes_of}

abbrev pub roots_in : List ℕ → Graph → List ℕ
roots_in words graph = span_in words graph.roots 1

-- a node of which only the child list is told: the placing looks at nothing else
abbrev pub child_list : List ℕ → Node
child_list children = record { base = matrix identity; children = children; mesh = none; skin = none; weights = none }

-- the scene that the nodes and the roots say, as far as the placing looks at it
unfoldable pub listing_in : List ℕ → Graph → Scene
listing_in words graph = record {
  nodes = tabulate graph.nodes.count (λ i. child_list (children_in words graph.nodes i));
  roots = roots_in words graph;
  tracks = [];
  meshes = [];
  skins = [];
  skeletons = [];
}

-- the entries of a listing: roots and child entries. No run takes more
abbrev pub entries_of : Scene → ℕ
entries_of s = length s.roots + placing.child_entries s

-- zeros alone are left
abbrev pub Wiped : Change (List ℕ) → Type 0
Wiped c = c.to ≡ replicate (length c.from) 0

-- What a run leaves: the walk room wiped, the code of each node's place, the placed nodes in order, how many these are,
-- and how many entries were taken. What lies past the nodes, and past the placed ones, is as it was lent.
pub record Walked (s : Scene) (room codes ids : Change (List ℕ)) (taken placed : ℕ) : Type 0 where
  pub walk : Wiped room
  pub places : codes.to ≡ codes_of (placing.places s) ++ drop (node_count s) codes.from
  pub order :
      ids.to ≡ map (λ (e : placing.Entry). e.node) (placing.order s) ++ drop (length (placing.order s)) ids.from
  pub counted : placed ≡ length (placing.order s)
  pub entries : taken ≡ placing.taken s
