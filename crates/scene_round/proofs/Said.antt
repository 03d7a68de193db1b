-- The tables of a document say the scene that the document says. Assumes nothing.
use mathlib.Core.Path.{◌≡◌, refl, sym, ap, ◌∙◌}
use mathlib.Core.Bool.{Bool, true, false, ◌||◌, true≢false}
use mathlib.Core.List.{List, [], ◌∷◌, map}
use Prim.Native.Nat.{ℕ, zero, suc, ◌+◌, ◌≤◌, ◌<◌}
use native.Mathlib.Omega.{arith}
use borrow.Author.Tests.{ltb-false}
use lib.Dec.{T, ltb, lit<}
use lib.ListN.{length, get_or}
use Rattle.model.specs.Lists.{tabulate}
use Rattle.model.proofs.ListLaws.{get_d_tabulate}
use Rattle.model.proofs.Rowwise.{tabulate-alike, tabulate-entries, map-tabulate}
use Rattle.tables.specs.Records.{node_row, channel_row, mesh_row, primitive_row, target_row, in_between_row, skin_row}
use Rattle.tables.specs.Records.{skeleton_row}
use Rattle.tables.specs.Decoded.{node_of, channel_of, in_between_of, target_of, primitive_of, mesh_of, skin_of, skeleton_of}
use Rattle.tables.specs.Decoded.{scene_of}
use Rattle.grammar.specs.Forms.{Form, Document, FitsKinds}
use Rattle.grammar.specs.Shape.{holds}
use Rattle.scene_schema.specs.declared.Pool.TheVariants as pool
use Rattle.scene_schema.specs.Schema.{kinds}
use Rattle.scene_forms.specs.Filled.{list_slot}
use Rattle.scene_forms.specs.Laid.{items_of, field_at, item_of, items_from, reach_of}
use Rattle.scene_forms.specs.Read.{Slices}
use Rattle.scene_forms.specs.Said.{forms_of, count_of, tables_of, header_of, leaves}
use Rattle.scene_round.specs.Read.{lent_of}
use Rattle.scene_round.specs.Meaning.{node_from, track_from, in_between_from, target_from, primitive_from, mesh_from}
use Rattle.scene_round.specs.Meaning.{skin_from, skeleton_from, scene_from}
use Rattle.scene_round.proofs.Placed.{form_of}
use Rattle.scene_round.proofs.Tables.{Short, form_in}
use Rattle.scene_round.proofs.Kept.{scene-kept, nodes-kept, channels-kept, meshes-kept, primitives-kept}
use Rattle.scene_round.proofs.Kept.{targets-kept, betweens-kept, skins-kept, skeletons-kept}
use Rattle.scene_round.proofs.Records.{front-shows, Shown, node-said, channel-said, between-said}
use Rattle.scene_round.proofs.Records.{target-said, primitive-said, mesh-said, skin-said, skeleton-said}

-- ---- lists of records

-- the list of a form reaches no farther
reach-within : (k : ℕ) (fs : List Form) (i : ℕ) → i < length fs
    → item_of (get_or fs i []) (list_slot k) 0 + item_of (get_or fs i []) (list_slot k) 1 ≤ reach_of k fs
unfolding reach_of
reach-within k [] i h = absurd (omega arith)
reach-within k (f ∷ fs) zero h = omega arith
reach-within k (f ∷ fs) (suc i) h = omega (arith, reach-within k fs i (omega arith))

neither : (a b : Bool) → (a || b) ≡ false → (a ≡ false) × (b ≡ false)
neither true b e = absurd (true≢false e)
neither false b e = (refl, e)

-- those of primitives, targets and in-betweens stay in their tables
record Inside (d : Document) : Type 0 where
  meshes : reach_of 3 (forms_of d 3) ≤ count_of d 4
  primitives : reach_of 4 (forms_of d 4) ≤ count_of d 5
  targets : reach_of 5 (forms_of d 5) ≤ count_of d 6

stays-in : (d : Document) → leaves d ≡ false → Inside d
stays-in d e =
    let a = ltb (count_of d 4) (reach_of 3 (forms_of d 3)) in
    let b = ltb (count_of d 5) (reach_of 4 (forms_of d 4)) in
    let c = ltb (count_of d 6) (reach_of 5 (forms_of d 5)) in
    let first = neither a (b || c) e in
    let second = neither b c first.1 in
    record {
      meshes = ltb-false (count_of d 4) (reach_of 3 (forms_of d 3)) first.0;
      primitives = ltb-false (count_of d 5) (reach_of 4 (forms_of d 4)) second.0;
      targets = ltb-false (count_of d 6) (reach_of 5 (forms_of d 5)) second.1;
    }

-- ---- entries

-- with nothing behind the floats and the weights
abbrev bare : Slices → Slices
bare behind = record { words = behind.words; floats = []; node_weights = []; mesh_weights = [] }

shown : (d : Document) (behind : Slices) → Shown (lent_of d behind) (lent_of d (bare behind))
unfolding tables_of
shown d behind = record {
  floats = front-shows (items_from pool.Floats 0 d) behind.floats;
  node_weights = front-shows (items_from pool.NodeWeights 0 d) behind.node_weights;
  mesh_weights = front-shows (items_from pool.MeshWeights 0 d) behind.mesh_weights;
}

entry : (n : ℕ) (g : ℕ → Form) {fs : List Form} → tabulate n g ≡ fs → (i : ℕ) → i < n → g i ≡ get_or fs i []
entry n g e i h = sym (get_d_tabulate n g i [] h) ∙ ap (λ (fs : List Form). get_or fs i []) e

mapped : {A : Type 0} (g : Form → A) (h : ℕ → A) (fs : List Form)
    → ((i : ℕ) → i < length fs → h i ≡ g (get_or fs i [])) → tabulate (length fs) h ≡ map g fs
mapped g h fs e =
    tabulate-alike (length fs) h (λ i. g (get_or fs i [])) e
    ∙ sym (map-tabulate (length fs) g (λ i. get_or fs i []))
    ∙ ap (map g) (tabulate-entries fs [])

module _ (d : Document) (behind : Slices) (fits : FitsKinds kinds d) (shaped : T (holds kinds d))
    (short : Short (tables_of d)) where
  node-at : (i : ℕ) → i < count_of d 1 → let l = lent_of d behind in
      node_of l (node_row l.words l.header.graph.nodes i) ≡ node_from (form_of d 1 i)
  unfolding header_of
  node-at i h =
      let l = lent_of d behind in
      node-said (shown d behind) (node_row l.words l.header.graph.nodes i)
      (form_in d behind fits shaped short 1 i (lit< tt) h)
      (entry _ _ (nodes-kept d behind fits shaped short) i h)
      (entry _ _ (nodes-kept d (bare behind) fits shaped short) i h)

  channel-at : (i : ℕ) → i < count_of d 2 → let l = lent_of d behind in
      channel_of l (channel_row l.words l.header.channels i) ≡ track_from (form_of d 2 i)
  unfolding header_of
  channel-at i h =
      let l = lent_of d behind in
      channel-said (shown d behind) (channel_row l.words l.header.channels i)
      (form_in d behind fits shaped short 2 i (lit< tt) h)
      (entry _ _ (channels-kept d behind fits shaped short) i h)
      (entry _ _ (channels-kept d (bare behind) fits shaped short) i h)

  skin-at : (i : ℕ) → i < count_of d 7 → let l = lent_of d behind in
      skin_of (skin_row l.words l.header.skins.skins i) ≡ skin_from (form_of d 7 i)
  unfolding header_of
  skin-at i h =
      let l = lent_of d behind in
      skin-said (skin_row l.words l.header.skins.skins i)
      (entry _ _ (skins-kept d behind fits shaped short) i h)

  skeleton-at : (i : ℕ) → i < count_of d 8 → let l = lent_of d behind in
      skeleton_of l (skeleton_row l.words l.header.skins.skeletons i) ≡ skeleton_from (form_of d 8 i)
  unfolding header_of
  skeleton-at i h =
      let l = lent_of d behind in
      skeleton-said (shown d behind) (skeleton_row l.words l.header.skins.skeletons i)
      (entry _ _ (skeletons-kept d behind fits shaped short) i h)
      (entry _ _ (skeletons-kept d (bare behind) fits shaped short) i h)

  between-at : (i : ℕ) → i < count_of d 6 → let l = lent_of d behind in
      in_between_of l (in_between_row l.words l.header.meshes.in_betweens i) ≡ in_between_from (form_of d 6 i)
  unfolding header_of
  between-at i h =
      let l = lent_of d behind in
      between-said (shown d behind) (in_between_row l.words l.header.meshes.in_betweens i)
      (entry _ _ (betweens-kept d behind fits shaped short) i h)
      (entry _ _ (betweens-kept d (bare behind) fits shaped short) i h)

  module _ (within : Inside d) where
    target_at : (i : ℕ) → i < count_of d 5 → let l = lent_of d behind in
        target_of l (target_row l.words l.header.meshes.targets i) ≡ target_from d (form_of d 5 i)
    unfolding header_of
    target_at i h =
        let l = lent_of d behind in
        target-said (shown d behind) d (target_row l.words l.header.meshes.targets i)
        (entry _ _ (targets-kept d behind fits shaped short) i h)
        (entry _ _ (targets-kept d (bare behind) fits shaped short) i h)
        (omega (arith, reach-within 5 (forms_of d 5) i h)) between-at

    primitive-at : (i : ℕ) → i < count_of d 4 → let l = lent_of d behind in
        primitive_of l (primitive_row l.words l.header.meshes.primitives i) ≡ primitive_from d (form_of d 4 i)
    unfolding header_of
    primitive-at i h =
        let l = lent_of d behind in
        primitive-said (shown d behind) d (primitive_row l.words l.header.meshes.primitives i)
        (entry _ _ (primitives-kept d behind fits shaped short) i h)
        (entry _ _ (primitives-kept d (bare behind) fits shaped short) i h)
        (omega (arith, reach-within 4 (forms_of d 4) i h)) target_at

    mesh-at : (i : ℕ) → i < count_of d 3 → let l = lent_of d behind in
        mesh_of l (mesh_row l.words l.header.meshes.meshes i) ≡ mesh_from d (form_of d 3 i)
    unfolding header_of
    mesh-at i h =
        let l = lent_of d behind in
        mesh-said (shown d behind) d (mesh_row l.words l.header.meshes.meshes i)
        (entry _ _ (meshes-kept d behind fits shaped short) i h)
        (entry _ _ (meshes-kept d (bare behind) fits shaped short) i h)
        (omega (arith, reach-within 3 (forms_of d 3) i h)) primitive-at

-- ---- the whole

pub scene-said : (d : Document) (behind : Slices) → FitsKinds kinds d → T (holds kinds d) → Short (tables_of d)
    → leaves d ≡ false → scene_of (lent_of d behind) ≡ scene_from d
unfolding scene_of scene_from header_of
scene-said d behind fits shaped short stays =
    λ t. record {
      nodes = mapped node_from _ (forms_of d 1) (node-at d behind fits shaped short) t;
      roots = items_of (field_at (get_or (scene-kept d behind fits shaped short t) 0 []) 2);
      tracks = mapped track_from _ (forms_of d 2) (channel-at d behind fits shaped short) t;
      meshes = mapped (mesh_from d) _ (forms_of d 3) (mesh-at d behind fits shaped short (stays-in d stays)) t;
      skins = mapped skin_from _ (forms_of d 7) (skin-at d behind fits shaped short) t;
      skeletons = mapped skeleton_from _ (forms_of d 8) (skeleton-at d behind fits shaped short) t;
    }
