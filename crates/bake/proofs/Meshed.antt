-- The mesh of a node in checked tables: its primitives can be put out, and how many floats they have. Assumes nothing.
use mathlib.Core.Path.{◌≡◌, refl, sym, ap, ◌∙◌}
use mathlib.Core.Bool.{Bool, true, false, ◌&&◌, false≢true}
use mathlib.Core.List.{List, [], map}
use mathlib.Core.Option.{Option, none, some}
use Prim.Native.Nat.{ℕ, ◌+◌, ◌*◌, ◌≤◌, ◌<◌}
use native.Mathlib.Omega.{arith}
use native.Mathlib.Decide.{dec_lt}
use borrow.Author.Tests.{leb-true, ltb-true, ltb-false}
use lib.Dec.{ltb}
use lib.Ieee.{Float}
use lib.ListN.{length, get_elem?, get_or-eq_default}
use Rattle.model.specs.Lists.{pick, is_some, and_then}
use Rattle.model.specs.Matrix.{Matrix}
use Rattle.model.specs.Scene.{Node, Primitive, blank, mesh_at}
use Rattle.model.specs.Vertices.{Shape}
use Rattle.model.specs.Bake.{Output, baked_primitive, output_of}
use Rattle.model.proofs.Tests.{both}
use Rattle.model.proofs.RowLaws.{flat}
use Rattle.tracks.specs.declared.Part.{Part}
use Rattle.tables.specs.declared.NodeRow.{NodeRow}
use Rattle.tables.specs.declared.MeshRow.{MeshRow}
use Rattle.tables.specs.Records.{node_row, mesh_row}
use Rattle.tables.specs.Tags.{is_marked}
use Rattle.tables.specs.Decoded.{Lent, primitive_of, mesh_of, scene_of}
use Rattle.tables.proofs.Decoding.{node-count, node-at, mesh-at, no-mesh}
use Rattle.row_checks.specs.Places.{fits_in, slot_fits}
use Rattle.checks.specs.declared.Table.TheVariants as table
use Rattle.checks.specs.Drawn.{sizes_of}
use Rattle.checks.specs.Checked.{Checked}
use Rattle.shapes.specs.declared.Lengths.{Lengths}
use Rattle.shapes.specs.Rest.{primitives_in, row_lengths, row_at, lengths_below, Drawable}
use Rattle.shapes.proofs.Putting.{Floats, floats-of, joined-mapped, below_length}

-- the record of node i, and of its mesh
abbrev pub row_of : Lent → ℕ → NodeRow
row_of l i = node_row l.words l.header.graph.nodes i

abbrev pub mesh_row_of : Lent → ℕ → MeshRow
mesh_row_of l i = mesh_row l.words l.header.meshes.meshes (row_of l i).mesh.id

-- a node that has a mesh is there, and so is its mesh
pub record MeshIs (l : Lent) (i : ℕ) : Type 0 where
  pub node : i < l.header.graph.nodes.count
  pub mesh : (row_of l i).mesh.id < l.header.meshes.meshes.count
  pub at : mesh_at (scene_of l) i ≡ some (mesh_of l (mesh_row_of l i))

-- a node that is past the last one has none
blank-mesh : (l : Lent) (i : ℕ) → l.header.graph.nodes.count ≤ i → is_some (mesh_at (scene_of l) i) ≡ false
blank-mesh l i h = ap (λ (n : Node). is_some (and_then n.mesh (λ m. get_elem? (scene_of l).meshes m))) (get_or-eq_default (scene_of l).nodes blank (omega (arith, node-count l)))

module _ (l : Lent) (i : ℕ) (b : i < l.header.graph.nodes.count) where
  abbrev id : ℕ
  id = (row_of l i).mesh.id

  read : (c : Bool) → is_marked (row_of l i).mesh.mark ≡ c → mesh_at (scene_of l) i ≡ and_then (pick c (some id) none) (λ m. get_elem? (scene_of l).meshes m)
  read c e =
      ap (λ (n : Node). and_then n.mesh (λ m. get_elem? (scene_of l).meshes m)) (node-at l i b)
      ∙ ap (λ (t : Bool). and_then (pick t (some id) none) (λ m. get_elem? (scene_of l).meshes m)) e

  from_row : (c d : Bool) → is_marked (row_of l i).mesh.mark ≡ c → ltb id l.header.meshes.meshes.count ≡ d → is_some (mesh_at (scene_of l) i) ≡ true → MeshIs l i
  from_row true true e f h = record {
    node = b;
    mesh = ltb-true id _ f;
    at = read true e ∙ mesh-at l id (ltb-true id _ f);
  }
  from_row true false e f h = absurd (false≢true (sym (ap is_some (read true e ∙ no-mesh l id (ltb-false id _ f))) ∙ h))
  from_row false d e f h = absurd (false≢true (sym (ap is_some (read false e)) ∙ h))

pub mesh-is : (l : Lent) (i : ℕ) → is_some (mesh_at (scene_of l) i) ≡ true → MeshIs l i
mesh-is l i h = go (dec_lt i l.header.graph.nodes.count)
  where
    go : Dec (i < l.header.graph.nodes.count) → MeshIs l i
    go (yes b) = from_row l i b _ _ refl refl h
    go (no b) = absurd (false≢true (sym (blank-mesh l i (omega (arith, b))) ∙ h))

module _ (l : Lent) (k : Checked l) (m : ℕ) (b : m < l.header.meshes.meshes.count) where
  abbrev part : Part
  part = (mesh_row l.words l.header.meshes.meshes m).primitives

  in_table : part.at + part.count ≤ l.header.meshes.primitives.count
  in_table =
      let f = (both (fits_in part 1 (sizes_of l).primitives) _ (k.records table.Meshes m b).0).0 in
      let h = leb-true (part.at + part.count * 1) _ f in
      omega (arith, h)

  pub drawable : Drawable l.words l.floats l.header.meshes.primitives part
  drawable = record {
    counted = record {
      count = leb-true part.count 64 (k.records table.Meshes m b).1;
      last = in_table;
      within = λ j c. (k.records table.Primitives (part.at + j) (omega (arith, in_table))).1;
    };
    fits = λ j c.
        let r = row_at l.words l.header.meshes.primitives part j in
        let f = (both (fits_in r.positions 3 (length l.floats) && (slot_fits r.normals 3 (length l.floats) && slot_fits r.tangents 4 (length l.floats))) _ (k.records table.Primitives (part.at + j) (omega (arith, in_table))).0).0 in
        let g = both (fits_in r.positions 3 (length l.floats)) _ f in
        let h = both (slot_fits r.normals 3 (length l.floats)) _ g.1 in
        record { positions = g.0; normals = h.0; tangents = h.1 };
  }

-- ---- how long the results are
pub record Measured (o : Output) (n : Lengths) : Type 0 where
  pub positions : length o.positions ≡ n.positions
  pub normals : length o.normals ≡ n.normals
  pub tangents : length o.tangents ≡ n.tangents

pub measured : (l : Lent) (part : Part) → Drawable l.words l.floats l.header.meshes.primitives part → (w : Matrix) (palette : Option (List Matrix)) (ws : List Float)
    → Measured (output_of (map (baked_primitive w palette ws) (primitives_in l part))) (lengths_below l.words l.header.meshes.primitives part part.count)
unfolding output_of
measured l part d w palette ws =
    let row = row_at l.words l.header.meshes.primitives part in
    let f : ℕ → Primitive = λ j. primitive_of l (row j) in
    let of : (j : ℕ) → j < part.count → Floats (baked_primitive w palette ws (f j)) (row_lengths (row j)) = λ j b. floats-of l (row j) (d.fits j b) ws w palette in
    record {
      positions = ap length (joined-mapped (λ (s : Shape). flat s.positions) (baked_primitive w palette ws) part.count f)
          ∙ below_length (λ j. flat (baked_primitive w palette ws (f j)).positions) (λ j. (row_lengths (row j)).positions) part.count [] (λ j b. (of j b).positions) part.count (omega arith);
      normals = ap length (joined-mapped (λ (s : Shape). flat s.normals) (baked_primitive w palette ws) part.count f)
          ∙ below_length (λ j. flat (baked_primitive w palette ws (f j)).normals) (λ j. (row_lengths (row j)).normals) part.count [] (λ j b. (of j b).normals) part.count (omega arith);
      tangents = ap length (joined-mapped (λ (s : Shape). flat s.tangents) (baked_primitive w palette ws) part.count f)
          ∙ below_length (λ j. flat (baked_primitive w palette ws (f j)).tangents) (λ j. (row_lengths (row j)).tangents) part.count [] (λ j b. (of j b).tangents) part.count (omega arith);
    }
