-- The tables that a written scene is read back into draw neither 1 nor 2. Assumes nothing.
use mathlib.Core.Path.{◌≡◌, refl, sym, ap, subst, ◌∙◌}
use mathlib.Core.Bool.{true}
use mathlib.Core.List.{List, [], ◌∷◌, ◌++◌}
use Prim.Native.Nat.{ℕ, zero, suc, ◌+◌, ◌*◌, ◌≤◌, ◌<◌}
use native.Mathlib.Omega.{arith}
use borrow.Author.Tests.{le-leb}
use lib.Dec.{T, lit<}
use lib.Ieee.{Float, binary32, fits}
use lib.ListN.{length, get_or, take, length-append}
use Rattle.model.specs.Lists.{tabulate, part}
use Rattle.model.specs.Limits.{node_limit, root_limit, channel_limit}
use Rattle.model.proofs.ListLaws.{length-tabulate, get_d_tabulate}
use Rattle.tracks.specs.declared.Part.{Part}
use Rattle.tracks.specs.Tracks as tracks
use Rattle.tables.specs.declared.ChannelRow.{ChannelRow}
use Rattle.tables.specs.declared.MeshRow.{MeshRow}
use Rattle.tables.specs.declared.PrimitiveRow.{PrimitiveRow}
use Rattle.tables.specs.declared.TargetRow.{TargetRow}
use Rattle.tables.specs.declared.InBetweenRow.{InBetweenRow}
use Rattle.tables.specs.declared.SkinRow.{SkinRow}
use Rattle.tables.specs.declared.SkeletonRow.{SkeletonRow}
use Rattle.tables.specs.Records.{alone, node_row, channel_row, mesh_row, primitive_row, target_row, in_between_row, skin_row}
use Rattle.tables.specs.Records.{skeleton_row}
use Rattle.tables.specs.Tags.{track_for}
use Rattle.tables.specs.Decoded.{Lent, scene_of}
use Rattle.tables.specs.Alone.{same-node, same-channel, same-mesh, same-primitive, same_target}
use Rattle.tables.specs.Alone.{same-in-between, same-skin, same-skeleton}
use Rattle.row_checks.specs.Places.{fits_in, mesh_fits, primitive_fits, target_fits, in_between_fits, skeleton_fits}
use Rattle.row_checks.specs.Bounds.{tags_known, mesh_within, primitive_within, target_within, in_between_within, skin_within}
use Rattle.row_checks.specs.Bounds.{skeleton_within}
use Rattle.checks.specs.declared.Table.{Table}
use Rattle.checks.specs.declared.Table.TheVariants as table
use Rattle.checks.specs.Drawn.{sum_below, table_of, record_words, child_count, sizes_of, tables_number}
use Rattle.checks.specs.Checked.{Sound, Checked}
use Rattle.grammar.specs.Forms.{Form, Document, FitsKinds}
use Rattle.grammar.specs.Shape.{holds}
use Rattle.scene_schema.specs.Schema.{kinds}
use Rattle.scene_marks.specs.Marks.{row_of, stride_of}
use Rattle.scene_forms.specs.declared.Counts.{Counts}
use Rattle.scene_forms.specs.Laid.{no_counts, marks_of, rows_from}
use Rattle.scene_forms.specs.Read.{Slices}
use Rattle.scene_forms.specs.Said.{forms_of, count_of, ids_of, tables_of, header_of}
use Rattle.scene_forms.proofs.TableLaws.{rows_long, row_words}
use Rattle.scene_spelling.specs.Written.{node_form, channel_form, mesh_form, primitive_form, target_form, in_between_form}
use Rattle.scene_spelling.specs.Written.{skin_form, skeleton_form, document_of}
use Rattle.scene_round.specs.Read.{lent_of}
use Rattle.scene_round.proofs.Placed.{counts_at}
use Rattle.scene_round.proofs.Fields.{FormIn}
use Rattle.scene_round.proofs.Tables.{Short, nine, row_read, form_in}
use Rattle.scene_round.proofs.Kept.{table-next, nodes-at, channels-at, meshes-at, primitives-at, targets-at}
use Rattle.scene_round.proofs.Kept.{betweens-at, skins-at, skeletons-at}
use Rattle.scene_round.proofs.Filling.{Lent32}
use Rattle.scene_round.proofs.Fits.{document-fits, document-holds}
use Rattle.scene_round.proofs.Clear.{clear-drawn}
use Rattle.scene_round.proofs.SoundRecords.{NodeSound, node-sound, channel-sound, mesh-sound, primitive-sound}
use Rattle.scene_round.proofs.SoundRecords.{target_sound, between-sound, skin-sound, skeleton-sound}

-- ---- where the tables lie

words-within : (k : ℕ) (d : Document) (o : ℕ) → row_words k (take o d) ≤ row_words k d
unfolding row_words
words-within k [] zero = omega arith
words-within k [] (suc o) = omega arith
words-within k (fs ∷ d) zero = omega arith
words-within k (fs ∷ d) (suc o) = omega (arith, words-within (suc k) d o)

module _ (d : Document) (behind : Slices) where
  table-lies : (k : ℕ) (t : Part) → t.at ≡ length (ids_of d) + row_words 0 (take k d) → t.count ≡ count_of d k
      → fits_in t (stride_of k) (length (lent_of d behind).words) ≡ true
  unfolding tables_of
  table-lies k t at count =
      let rows = rows_from 0 d no_counts in
      le-leb (t.at + t.count * stride_of k) (length (lent_of d behind).words)
      (omega (
        arith,
        ap (λ (n : ℕ). n * stride_of k) count,
        table-next d k t.at at,
        words-within 0 d (suc k),
        rows_long 0 d no_counts,
        length-append (ids_of d) rows,
        length-append (ids_of d ++ rows) behind.words,
      ))

  tables-lie : (k : Table)
      → fits_in (table_of (header_of d) k) (record_words k) (length (lent_of d behind).words) ≡ true
  unfolding header_of
  tables-lie table.Nodes = table-lies 1 (header_of d).graph.nodes (nodes-at d) refl
  tables-lie table.Channels = table-lies 2 (header_of d).channels (channels-at d) refl
  tables-lie table.Meshes = table-lies 3 (header_of d).meshes.meshes (meshes-at d) refl
  tables-lie table.Primitives = table-lies 4 (header_of d).meshes.primitives (primitives-at d) refl
  tables-lie table.Targets = table-lies 5 (header_of d).meshes.targets (targets-at d) refl
  tables-lie table.InBetweens = table-lies 6 (header_of d).meshes.in_betweens (betweens-at d) refl
  tables-lie table.Skins = table-lies 7 (header_of d).skins.skins (skins-at d) refl
  tables-lie table.Skeletons = table-lies 8 (header_of d).skins.skeletons (skeletons-at d) refl

  module _ (fits : FitsKinds kinds d) (shaped : T (holds kinds d)) (short : Short (tables_of d)) where
    -- record i of the table of kind k, whose forms are tabulated
    record-kept : (k : ℕ) (t : Part) {R : Type 0} (row : List ℕ → Part → ℕ → R) (P : R → Type 0) → k < 9
        → t.at ≡ length (ids_of d) + row_words 0 (take k d)
        → ((i : ℕ) (r : List ℕ) → r ≡ part (lent_of d behind).words (t.at + i * stride_of k) (stride_of k)
        → row r alone 0 ≡ row (lent_of d behind).words t i)
        → (n : ℕ) (g : ℕ → Form) → forms_of d k ≡ tabulate n g → (i : ℕ) → i < count_of d k
        → ((c : Counts) → i < n → FormIn (lent_of d behind) k (g i) c → P (row (row_of k (marks_of k (g i) c)) alone 0))
        → P (row (lent_of d behind).words t i)
    record-kept k t row P h at same n g e i b law =
        let low : i < n = omega (arith, ap length e, length-tabulate n g) in
        let form = ap (λ (fs : List Form). get_or fs i []) e ∙ get_d_tabulate n g i [] low in
        let c = counts_at d k i in
        subst P (same i _ (row_read d behind k i t (omega (arith, nine d fits)) b at))
        (subst (λ (f : Form). FormIn (lent_of d behind) k f c → P (row (row_of k (marks_of k f c)) alone 0)) (sym form)
        (law c low) (form_in d behind fits shaped short k i h b))

-- ---- a scene and the tables that its document is read into

sum_alike : (n : ℕ) (f g : ℕ → ℕ) → ((i : ℕ) → i < n → f i ≡ g i) → sum_below n f ≡ sum_below n g
unfolding sum_below
sum_alike zero f g h = refl
sum_alike (suc n) f g h = λ j. sum_alike n f g (λ i b. h i (omega arith)) j + h n (omega arith) j

module _ (l : Lent) (node : ℕ) (time : Float) where
  nodes-are : forms_of (document_of l node time) 1
      ≡ tabulate l.header.graph.nodes.count
      (λ i. node_form l.words l.floats l.node_weights (node_row l.words l.header.graph.nodes i))
  unfolding document_of
  nodes-are = refl

  channels-are : forms_of (document_of l node time) 2
      ≡ tabulate l.header.channels.count
      (λ i. channel_form l.floats (channel_row l.words l.header.channels i))
  unfolding document_of
  channels-are = refl

  meshes-are : forms_of (document_of l node time) 3
      ≡ tabulate l.header.meshes.meshes.count
      (λ i. mesh_form l.mesh_weights (mesh_row l.words l.header.meshes.meshes i))
  unfolding document_of
  meshes-are = refl

  primitives-are : forms_of (document_of l node time) 4
      ≡ tabulate l.header.meshes.primitives.count
      (λ i. primitive_form l.words l.floats (primitive_row l.words l.header.meshes.primitives i))
  unfolding document_of
  primitives-are = refl

  targets-are : forms_of (document_of l node time) 5
      ≡ tabulate l.header.meshes.targets.count
      (λ i. target_form l.floats (target_row l.words l.header.meshes.targets i))
  unfolding document_of
  targets-are = refl

  betweens-are : forms_of (document_of l node time) 6
      ≡ tabulate l.header.meshes.in_betweens.count
      (λ i. in_between_form l.floats (in_between_row l.words l.header.meshes.in_betweens i))
  unfolding document_of
  betweens-are = refl

  skins-are : forms_of (document_of l node time) 7
      ≡ tabulate l.header.skins.skins.count (λ i. skin_form (skin_row l.words l.header.skins.skins i))
  unfolding document_of
  skins-are = refl

  skeletons-are : forms_of (document_of l node time) 8
      ≡ tabulate l.header.skins.skeletons.count
      (λ i. skeleton_form l.words l.floats (skeleton_row l.words l.header.skins.skeletons i))
  unfolding document_of
  skeletons-are = refl

count-is : (d : Document) (k n : ℕ) (g : ℕ → Form) → forms_of d k ≡ tabulate n g → count_of d k ≡ n
count-is d k n g e = ap length e ∙ length-tabulate n g

module _ (l : Lent) (checked : Checked l) (has : Lent32 l) (node : ℕ) (time : Float) (low : node < 0x1_0000_0000)
    (held : T (fits binary32 time)) (behind : Slices) (short : Short (tables_of (document_of l node time))) where
  abbrev d : Document
  d = document_of l node time

  abbrev m : Lent
  m = lent_of d behind

  fit : FitsKinds kinds d
  fit = document-fits l checked has node time low held

  hold : T (holds kinds d)
  hold = document-holds l checked has node time low held

  node_kept : (i : ℕ) → i < count_of d 1
      → NodeSound m (node_row l.words l.header.graph.nodes i) (node_row m.words m.header.graph.nodes i)
  node_kept i b =
      let t = m.header.graph.nodes in
      let r = node_row l.words l.header.graph.nodes i in
      record-kept d behind fit hold short 1 t node_row (NodeSound m r) (lit< tt) (nodes-at d)
      (same-node m.words t) _ _ (nodes-are l node time) i b
      (λ c a q.
      let s = checked.records table.Nodes i a in
      node-sound l r q s.0 s.1)

  sound : (k : Table) (i : ℕ) → i < (table_of m.header k).count → Sound m k i
  unfolding header_of
  sound table.Nodes i b = ((node_kept i b).fits, (node_kept i b).within)
  sound table.Channels i b =
      let t = m.header.channels in
      record-kept d behind fit hold short 2 t channel_row
      (λ (r : ChannelRow). (tracks.table_number m.floats (track_for r) ≡ 0) × (tags_known r ≡ true)) (lit< tt)
      (channels-at d) (same-channel m.words t) _ _ (channels-are l node time) i b
      (λ c a q.
      let s = checked.records table.Channels i a in
      channel-sound l (channel_row l.words l.header.channels i) q s.0 s.1)
  sound table.Meshes i b =
      let t = m.header.meshes.meshes in
      record-kept d behind fit hold short 3 t mesh_row
      (λ (r : MeshRow). (mesh_fits (sizes_of m) r ≡ true) × (mesh_within r ≡ true)) (lit< tt) (meshes-at d)
      (same-mesh m.words t) _ _ (meshes-are l node time) i b
      (λ c a q.
      let s = checked.records table.Meshes i a in
      mesh-sound l (mesh_row l.words l.header.meshes.meshes i) q
      (sym (count-is d 4 _ _ (primitives-are l node time))) s.0 s.1)
  sound table.Primitives i b =
      let t = m.header.meshes.primitives in
      record-kept d behind fit hold short 4 t primitive_row
      (λ (r : PrimitiveRow). (primitive_fits (sizes_of m) r ≡ true) × (primitive_within r ≡ true)) (lit< tt)
      (primitives-at d) (same-primitive m.words t) _ _ (primitives-are l node time) i b
      (λ c a q.
      let s = checked.records table.Primitives i a in
      primitive-sound l (primitive_row l.words l.header.meshes.primitives i) q
      (sym (count-is d 5 _ _ (targets-are l node time))) s.0 s.1)
  sound table.Targets i b =
      let t = m.header.meshes.targets in
      record-kept d behind fit hold short 5 t target_row
      (λ (r : TargetRow). (target_fits (sizes_of m) r ≡ true) × (target_within r ≡ true)) (lit< tt) (targets-at d)
      (same_target m.words t) _ _ (targets-are l node time) i b
      (λ c a q.
      let s = checked.records table.Targets i a in
      target_sound l (target_row l.words l.header.meshes.targets i) q
      (sym (count-is d 6 _ _ (betweens-are l node time))) s.0 s.1)
  sound table.InBetweens i b =
      let t = m.header.meshes.in_betweens in
      record-kept d behind fit hold short 6 t in_between_row
      (λ (r : InBetweenRow). (in_between_fits (sizes_of m) r ≡ true) × (in_between_within r ≡ true)) (lit< tt)
      (betweens-at d) (same-in-between m.words t) _ _ (betweens-are l node time) i b
      (λ c a q.
      let s = checked.records table.InBetweens i a in
      between-sound l (in_between_row l.words l.header.meshes.in_betweens i) q s.0 s.1)
  sound table.Skins i b =
      let t = m.header.skins.skins in
      record-kept d behind fit hold short 7 t skin_row (λ (r : SkinRow). skin_within r ≡ true) (lit< tt) (skins-at d)
      (same-skin m.words t) _ _ (skins-are l node time) i b
      (λ c a q. skin-sound (skin_row l.words l.header.skins.skins i) q)
  sound table.Skeletons i b =
      let t = m.header.skins.skeletons in
      record-kept d behind fit hold short 8 t skeleton_row
      (λ (r : SkeletonRow). (skeleton_fits (sizes_of m) r ≡ true) × (skeleton_within r ≡ true)) (lit< tt)
      (skeletons-at d) (same-skeleton m.words t) _ _ (skeletons-are l node time) i b
      (λ c a q.
      let s = checked.records table.Skeletons i a in
      skeleton-sound l (skeleton_row l.words l.header.skins.skeletons i) q s.0 s.1)

  roots-lie : fits_in m.header.graph.roots 1 (length m.words) ≡ true
  unfolding document_of header_of
  roots-lie =
      let n = m.header.graph.roots.count in
      let first = form_in d behind fit hold short 0 0 (lit< tt) (lit< tt) in
      le-leb (0 + n * 1) (length m.words) (omega (arith, first.inside 2 _ tt refl))

  few-roots : m.header.graph.roots.count ≤ root_limit
  unfolding document_of header_of scene_of
  few-roots = checked.few-roots

  node-count : count_of d 1 ≡ l.header.graph.nodes.count
  node-count = count-is d 1 _ _ (nodes-are l node time)

  children-kept : sum_below m.header.graph.nodes.count (child_count m.words m.header.graph.nodes)
      ≡ sum_below l.header.graph.nodes.count (child_count l.words l.header.graph.nodes)
  unfolding header_of
  children-kept =
      sum_alike (count_of d 1) _ _ (λ i b. (node_kept i b).children)
      ∙ ap (λ (n : ℕ). sum_below n (child_count l.words l.header.graph.nodes)) node-count

  few-nodes : m.header.graph.nodes.count ≤ node_limit
  unfolding header_of scene_of
  few-nodes =
      subst (λ (n : ℕ). n ≤ node_limit) (length-tabulate _ _ ∙ sym node-count) checked.few-nodes

  few-channels : m.header.channels.count ≤ channel_limit
  unfolding header_of scene_of
  few-channels =
      subst (λ (n : ℕ). n ≤ channel_limit) (length-tabulate _ _ ∙ sym (count-is d 2 _ _ (channels-are l node time)))
      checked.few-channels

  pub sound-kept : tables_number m ≡ 0
  sound-kept = clear-drawn m (record {
    tables = tables-lie d behind;
    records = sound;
    roots = roots-lie;
    few-nodes = few-nodes;
    few-roots = few-roots;
    few-channels = few-channels;
    few-children = omega (arith, children-kept, checked.children, checked.few-children);
  })
