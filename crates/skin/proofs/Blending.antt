-- The weights that rows say are the model's. Assumes nothing.
use mathlib.Core.Path.{◌≡◌, refl, sym, ap, ◌∙◌}
use mathlib.Core.Bool.{Bool, true, false, not, ◌&&◌, false≢true}
use mathlib.Core.List.{List, [], ◌∷◌}
use mathlib.Core.Option.{Option, none, some}
use Prim.Native.Nat.{ℕ, zero, suc, ◌≤◌, ◌<◌}
use native.Mathlib.Omega.{arith}
use borrow.Author.Tests.{ltb-true, ltb-false, eqb-true, eqb-false, not-false}
use lib.Dec.{ltb, eqb}
use lib.Ieee.{Float}
use lib.ListN.{length, get_elem?, get_or-eq_default}
use Rattle.model.specs.Lists.{pick, is_some, and_then}
use Rattle.model.specs.Scene.{Node, Mesh, blank, node_at, mesh_at}
use Rattle.model.specs.Skin.{effective_weights}
use Rattle.model.specs.SkinCalls.{weights_number, weights_or, weights_of}
use Rattle.model.specs.Refusals.{no_such_node, first_of, lowest}
use Rattle.model.proofs.Numbers.{lowest-some}
use Rattle.tables.specs.declared.NodeRow.{NodeRow}
use Rattle.tables.specs.Records.{node_row, mesh_row}
use Rattle.tables.specs.Tags.{is_marked}
use Rattle.tables.specs.Decoded.{Lent, node_of, mesh_of, scene_of}
use Rattle.tables.proofs.Decoding.{node-count, node-at, mesh-at, no-mesh}
use Rattle.tables.proofs.Naming.{is-there, not_there}
use Rattle.checks.specs.Drawn.{tables_number}
use Rattle.skin.specs.Weights.{names_mesh}

-- ---- own weights before the mesh's
module _ (mark : ℕ) (own : List Float) (mesh : Mesh) where
  pub own_first : (mark ≡ 0 → ⊥) → (length own ≡ 0 → ⊥) → own ≡ effective_weights (pick (is_marked mark) (some own) none) mesh
  own_first d n = go own n ∙ ap (λ (o : Option (List Float)). effective_weights o mesh) (is-there mark (some own) none d)
    where
      go : (l : List Float) → (length l ≡ 0 → ⊥) → l ≡ effective_weights (some l) mesh
      go [] f = absurd (f refl)
      go (w ∷ ws) f = refl

  pub none-own : mark ≡ 0 → mesh.weights ≡ effective_weights (pick (is_marked mark) (some own) none) mesh
  none-own e = ap (λ (o : Option (List Float)). effective_weights o mesh) (not_there mark (some own) none e)

  pub empty-own : length own ≡ 0 → mesh.weights ≡ effective_weights (pick (is_marked mark) (some own) none) mesh
  empty-own e = go mark own e
    where
      go : (m : ℕ) (l : List Float) → length l ≡ 0 → mesh.weights ≡ effective_weights (pick (is_marked m) (some l) none) mesh
      go zero l f = refl
      go (suc m) [] f = refl
      go (suc m) (w ∷ ws) f = absurd (omega (arith, f))

-- ---- the mesh of a node
module _ (l : Lent) (i : ℕ) where
  abbrev named : Option ℕ → Option Mesh
  named o = and_then o (λ m. get_elem? (scene_of l).meshes m)

  pub mesh-past : l.header.graph.nodes.count ≤ i → mesh_at (scene_of l) i ≡ none
  mesh-past h = ap (λ (n : Node). named n.mesh) (get_or-eq_default (scene_of l).nodes blank (omega (arith, node-count l)))

  module _ (row : NodeRow) (e : row ≡ node_row l.words l.header.graph.nodes i) (b : i < l.header.graph.nodes.count) where
    node-is : node_at (scene_of l) i ≡ node_of l row
    node-is = node-at l i b ∙ ap (node_of l) (sym e)

    pub mesh-none : row.mesh.mark ≡ 0 → mesh_at (scene_of l) i ≡ none
    mesh-none z = ap (λ (n : Node). named n.mesh) node-is ∙ ap named (sym (not_there row.mesh.mark (some row.mesh.id) none z))

    pub mesh-named : (row.mesh.mark ≡ 0 → ⊥) → mesh_at (scene_of l) i ≡ get_elem? (scene_of l).meshes row.mesh.id
    mesh-named d = ap (λ (n : Node). named n.mesh) node-is ∙ ap named (sym (is-there row.mesh.mark (some row.mesh.id) none d))

  pub mesh-there : (m : ℕ) → ltb m l.header.meshes.meshes.count ≡ is_some (get_elem? (scene_of l).meshes m)
  mesh-there m = go (ltb m l.header.meshes.meshes.count) refl
    where
      go : (b : Bool) → ltb m l.header.meshes.meshes.count ≡ b → b ≡ is_some (get_elem? (scene_of l).meshes m)
      go true h = sym (ap is_some (mesh-at l m (ltb-true _ _ h)))
      go false h = sym (ap is_some (no-mesh l m (ltb-false _ _ h)))

  -- a node has a mesh where its row names one
  pub mesh-by-row : (row : NodeRow) → row ≡ node_row l.words l.header.graph.nodes i
      → i < l.header.graph.nodes.count
      → names_mesh row l.header ≡ is_some (mesh_at (scene_of l) i)
  mesh-by-row row e b = go row.mesh.mark refl
    where
      go : (m : ℕ) → row.mesh.mark ≡ m
          → (is_marked m && ltb row.mesh.id l.header.meshes.meshes.count) ≡ is_some (mesh_at (scene_of l) i)
      go zero z = sym (ap is_some (mesh-none row e b z))
      go (suc m) z = mesh-there row.mesh.id ∙ sym (ap is_some (mesh-named row e b (λ q. omega (arith, z, q))))

  -- what the rows say of a node that has a mesh
  pub has-mesh : is_some (mesh_at (scene_of l) i) ≡ true → (row : NodeRow) → row ≡ node_row l.words l.header.graph.nodes i
      → (node_at (scene_of l) i ≡ node_of l row) × (mesh_at (scene_of l) i ≡ some (mesh_of l (mesh_row l.words l.header.meshes.meshes row.mesh.id)))
  has-mesh h row e = inside (ltb i l.header.graph.nodes.count) refl
    where
      out : mesh_at (scene_of l) i ≡ none → ⊥
      out n = false≢true (sym (ap is_some n) ∙ h)

      there : (c : Bool) → ltb row.mesh.id l.header.meshes.meshes.count ≡ c → mesh_at (scene_of l) i ≡ get_elem? (scene_of l).meshes row.mesh.id
          → mesh_at (scene_of l) i ≡ some (mesh_of l (mesh_row l.words l.header.meshes.meshes row.mesh.id))
      there true q n = n ∙ mesh-at l row.mesh.id (ltb-true _ _ q)
      there false q n = absurd (out (n ∙ no-mesh l row.mesh.id (ltb-false _ _ q)))

      marked : (c : Bool) → eqb row.mesh.mark 0 ≡ c → i < l.header.graph.nodes.count
          → mesh_at (scene_of l) i ≡ some (mesh_of l (mesh_row l.words l.header.meshes.meshes row.mesh.id))
      marked true q b = absurd (out (mesh-none row e b (eqb-true _ _ q)))
      marked false q b = there (ltb row.mesh.id l.header.meshes.meshes.count) refl (mesh-named row e b (eqb-false _ _ q))

      inside : (c : Bool) → ltb i l.header.graph.nodes.count ≡ c
          → (node_at (scene_of l) i ≡ node_of l row) × (mesh_at (scene_of l) i ≡ some (mesh_of l (mesh_row l.words l.header.meshes.meshes row.mesh.id)))
      inside true q = let b = ltb-true _ _ q in (node-is row e b, marked (eqb row.mesh.mark 0) refl b)
      inside false q = absurd (out (mesh-past (ltb-false _ _ q)))

-- ---- the number
lowest-none : (g : ℕ) (b : Bool) → lowest g (pick b 7 0) ≡ 0 → (g ≡ 0) × (b ≡ false)
lowest-none zero true h = absurd (omega (arith, h))
lowest-none zero false h = (refl, refl)
lowest-none (suc g) b h = absurd (omega (arith, h))

module _ (l : Lent) (i : ℕ) where
  pub drawn-first : (r : ℕ) → r ≡ tables_number l → (r ≡ 0 → ⊥) → r ≡ weights_number (tables_number l) (scene_of l) i
  unfolding weights_number
  drawn-first r e d = lowest-some r _ d ∙ ap (λ (g : ℕ). lowest g (first_of (record { applies = not (is_some (mesh_at (scene_of l) i)); refusal = no_such_node } ∷ []))) e

  pub by-mesh : (b : Bool) → tables_number l ≡ 0 → b ≡ is_some (mesh_at (scene_of l) i) → pick (not b) 7 0 ≡ weights_number (tables_number l) (scene_of l) i
  unfolding weights_number first_of
  by-mesh b z e = (λ j. lowest (sym z j) (pick (not (e j)) 7 0))

  pub refused : (r : ℕ) → r ≡ weights_number (tables_number l) (scene_of l) i → (r ≡ 0 → ⊥) → [] ≡ weights_of (tables_number l) (scene_of l) i
  unfolding weights_of
  refused r e d = nothing r d ∙ ap (λ (n : ℕ). weights_or n (node_at (scene_of l) i).weights (mesh_at (scene_of l) i)) e
    where
      nothing : (n : ℕ) → (n ≡ 0 → ⊥) → [] ≡ weights_or n (node_at (scene_of l) i).weights (mesh_at (scene_of l) i)
      nothing zero f = absurd (f refl)
      nothing (suc n) f = refl

  pub accepted : (row : NodeRow) (w : List Float) → weights_number (tables_number l) (scene_of l) i ≡ 0 → row ≡ node_row l.words l.header.graph.nodes i
      → w ≡ effective_weights (node_of l row).weights (mesh_of l (mesh_row l.words l.header.meshes.meshes row.mesh.id)) → w ≡ weights_of (tables_number l) (scene_of l) i
  unfolding weights_of weights_number first_of
  accepted row w z e h =
      let m = has-mesh l i (not-false _ (lowest-none (tables_number l) (not (is_some (mesh_at (scene_of l) i))) z).1) row e in
      h ∙ sym (λ j. weights_or (z j) (m.0 j).weights (m.1 j))
