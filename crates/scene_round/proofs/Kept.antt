-- The tables of a document, with whatever stands behind them, say the document. Assumes nothing.
use mathlib.Core.Path.{◌≡◌, refl, sym, ap, ◌∙◌}
use mathlib.Core.List.{List, [], ◌∷◌}
use Prim.Native.Nat.{ℕ, zero, suc, ◌+◌, ◌*◌, ◌<◌}
use native.Mathlib.Omega.{arith}
use lib.Dec.{T, eqb, eqb→eq, lit<}
use lib.ListN.{length, get_or, take}
use Rattle.model.specs.Lists.{every, tabulate, part}
use Rattle.model.proofs.ListLaws.{entries_from, by_entries}
use Rattle.tracks.specs.declared.Part.{Part}
use Rattle.tables.specs.Records.{alone, node_row, channel_row, mesh_row, primitive_row, target_row, in_between_row, skin_row}
use Rattle.tables.specs.Records.{skeleton_row}
use Rattle.tables.specs.Alone.{same-node, same-channel, same-mesh, same-primitive, same_target}
use Rattle.tables.specs.Alone.{same-in-between, same-skin, same-skeleton}
use Rattle.grammar.specs.Forms.{Form, Document, FitsKinds}
use Rattle.grammar.specs.Shape.{form_holds, holds}
use Rattle.grammar.proofs.Words.{both}
use Rattle.scene_schema.specs.Schema.{kinds, kind_at}
use Rattle.scene_marks.specs.Marks.{row_of, stride_of}
use Rattle.scene_forms.specs.declared.Counts.{Counts}
use Rattle.scene_forms.specs.Laid.{marks_of, count_forms}
use Rattle.scene_forms.specs.Read.{Slices}
use Rattle.scene_forms.specs.Said.{forms_of, count_of, ids_of, tables_of, header_of, node_of, time_of}
use Rattle.scene_forms.proofs.TableLaws.{row_words}
use Rattle.scene_spelling.specs.Written.{scene_form, node_form, channel_form, mesh_form, primitive_form, target_form}
use Rattle.scene_spelling.specs.Written.{in_between_form, skin_form, skeleton_form, document_of}
use Rattle.scene_round.specs.Read.{lent_of}
use Rattle.scene_round.proofs.Placed.{count_kinds}
use Rattle.scene_round.proofs.Fields.{FormIn}
use Rattle.scene_round.proofs.Decoded.{scene-is, node-is, channel-is, mesh-is, primitive-is, target_is}
use Rattle.scene_round.proofs.Decoded.{between_is, skin-is, skeleton-is}
use Rattle.scene_round.proofs.Tables.{Short, kind-at, row_read, nine, form_in}

tabulate-kept : {A : Type 0} (l : List A) (g : ℕ → A) (z : A) → ((i : ℕ) → i < length l → g i ≡ get_or l i z)
    → tabulate (length l) g ≡ l
unfolding tabulate
tabulate-kept [] g z e = refl
tabulate-kept (x ∷ l) g z e =
    λ t. e 0 (omega arith) t ∷ tabulate-kept l (λ i. g (suc i)) z (λ i h. e (suc i) (omega arith)) t

-- the words of one kind more
words-next : (k : ℕ) (d : Document) (o i : ℕ) → i ≡ k + o
    → row_words k (take (suc o) d) ≡ row_words k (take o d) + length (get_or d o []) * stride_of i
unfolding row_words
words-next k [] zero i e = omega arith
words-next k [] (suc o) i e = omega arith
words-next k (fs ∷ d) zero i e =
    let here : k ≡ i = omega arith in
    omega (arith, ap (λ (n : ℕ). length fs * stride_of n) here)
words-next k (fs ∷ d) (suc o) i e = omega (arith, words-next (suc k) d o i (omega arith))

module _ (d : Document) where
  -- a table behind the one before
  pub table-next : (k at : ℕ) → at ≡ length (ids_of d) + row_words 0 (take k d)
      → at + count_of d k * stride_of k ≡ length (ids_of d) + row_words 0 (take (suc k) d)
  table-next k at e = omega (arith, words-next 0 d k k (omega arith))

  pub nodes-at : (header_of d).graph.nodes.at ≡ length (ids_of d) + row_words 0 (take 1 d)
  unfolding header_of row_words
  nodes-at = omega (arith, table-next 0 (length (ids_of d)) (omega arith))

  pub channels-at : (header_of d).channels.at ≡ length (ids_of d) + row_words 0 (take 2 d)
  unfolding header_of
  channels-at = table-next 1 (header_of d).graph.nodes.at nodes-at

  pub meshes-at : (header_of d).meshes.meshes.at ≡ length (ids_of d) + row_words 0 (take 3 d)
  unfolding header_of
  meshes-at = table-next 2 (header_of d).channels.at channels-at

  pub primitives-at : (header_of d).meshes.primitives.at ≡ length (ids_of d) + row_words 0 (take 4 d)
  unfolding header_of
  primitives-at = table-next 3 (header_of d).meshes.meshes.at meshes-at

  pub targets-at : (header_of d).meshes.targets.at ≡ length (ids_of d) + row_words 0 (take 5 d)
  unfolding header_of
  targets-at = table-next 4 (header_of d).meshes.primitives.at primitives-at

  pub betweens-at : (header_of d).meshes.in_betweens.at ≡ length (ids_of d) + row_words 0 (take 6 d)
  unfolding header_of
  betweens-at = table-next 5 (header_of d).meshes.targets.at targets-at

  pub skins-at : (header_of d).skins.skins.at ≡ length (ids_of d) + row_words 0 (take 7 d)
  unfolding header_of
  skins-at = table-next 6 (header_of d).meshes.in_betweens.at betweens-at

  pub skeletons-at : (header_of d).skins.skeletons.at ≡ length (ids_of d) + row_words 0 (take 8 d)
  unfolding header_of
  skeletons-at = table-next 7 (header_of d).skins.skins.at skins-at

module _ (d : Document) (behind : Slices) (fits : FitsKinds kinds d) (shaped : T (holds kinds d))
    (short : Short (tables_of d)) where
  -- a kind whose records are decoded by `row` and `form`
  kind-kept : (k : ℕ) (t : Part) {R : Type 0} (row : List ℕ → Part → ℕ → R) (form : R → Form) → k < 9
      → t.at ≡ length (ids_of d) + row_words 0 (take k d) → t.count ≡ count_of d k
      → ((i : ℕ) (r : List ℕ) → r ≡ part (lent_of d behind).words (t.at + i * stride_of k) (stride_of k)
      → row r alone 0 ≡ row (lent_of d behind).words t i)
      → ((f : Form) (c : Counts) → FormIn (lent_of d behind) k f c → form (row (row_of k (marks_of k f c)) alone 0) ≡ f)
      → tabulate t.count (λ i. form (row (lent_of d behind).words t i)) ≡ forms_of d k
  kind-kept k t row form h at count same is =
      let g : ℕ → Form = λ i. form (row (lent_of d behind).words t i) in
      ap (λ (n : ℕ). tabulate n g) count
      ∙ tabulate-kept (forms_of d k) g []
      (λ i l.
      sym (ap form (same i _ (row_read d behind k i t (omega (arith, nine d fits)) l at)))
      ∙ is _ _ (form_in d behind fits shaped short k i h l))

  pub scene-kept : let l = lent_of d behind in
      scene_form l.words l.header.graph.roots (node_of d) (time_of d) ∷ [] ≡ forms_of d 0
  unfolding header_of kinds entries_from count_forms count_kinds
  scene-kept =
      let fs = forms_of d 0 in
      let kind = kind-at kinds d 0 fits shaped (omega (arith, nine d fits)) in
      let one : length fs ≡ 1 =
      eqb→eq (length fs) 1 (both (every (form_holds (kind_at 0)) fs) (eqb (length fs) 1) kind.1).1 in
      ap (λ (f : Form). f ∷ []) (scene-is (form_in d behind fits shaped short 0 0 (lit< tt) (omega arith)))
      ∙ sym (by_entries [] fs 1 one)

  pub nodes-kept : let l = lent_of d behind in
      let t = l.header.graph.nodes in
      tabulate t.count (λ i. node_form l.words l.floats l.node_weights (node_row l.words t i)) ≡ forms_of d 1
  unfolding header_of
  nodes-kept =
      let l = lent_of d behind in
      let t = l.header.graph.nodes in
      kind-kept 1 t node_row (node_form l.words l.floats l.node_weights) (lit< tt) (nodes-at d) refl
      (same-node l.words t) (λ f c. node-is)

  pub channels-kept : let l = lent_of d behind in
      let t = l.header.channels in
      tabulate t.count (λ i. channel_form l.floats (channel_row l.words t i)) ≡ forms_of d 2
  unfolding header_of
  channels-kept =
      let l = lent_of d behind in
      let t = l.header.channels in
      kind-kept 2 t channel_row (channel_form l.floats) (lit< tt) (channels-at d) refl
      (same-channel l.words t) (λ f c. channel-is)

  pub meshes-kept : let l = lent_of d behind in
      let t = l.header.meshes.meshes in
      tabulate t.count (λ i. mesh_form l.mesh_weights (mesh_row l.words t i)) ≡ forms_of d 3
  unfolding header_of
  meshes-kept =
      let l = lent_of d behind in
      let t = l.header.meshes.meshes in
      kind-kept 3 t mesh_row (mesh_form l.mesh_weights) (lit< tt) (meshes-at d) refl
      (same-mesh l.words t) (λ f c. mesh-is)

  pub primitives-kept : let l = lent_of d behind in
      let t = l.header.meshes.primitives in
      tabulate t.count (λ i. primitive_form l.words l.floats (primitive_row l.words t i)) ≡ forms_of d 4
  unfolding header_of
  primitives-kept =
      let l = lent_of d behind in
      let t = l.header.meshes.primitives in
      kind-kept 4 t primitive_row (primitive_form l.words l.floats) (lit< tt) (primitives-at d) refl
      (same-primitive l.words t) (λ f c. primitive-is)

  pub targets-kept : let l = lent_of d behind in
      let t = l.header.meshes.targets in
      tabulate t.count (λ i. target_form l.floats (target_row l.words t i)) ≡ forms_of d 5
  unfolding header_of
  targets-kept =
      let l = lent_of d behind in
      let t = l.header.meshes.targets in
      kind-kept 5 t target_row (target_form l.floats) (lit< tt) (targets-at d) refl
      (same_target l.words t) (λ f c. target_is)

  pub betweens-kept : let l = lent_of d behind in
      let t = l.header.meshes.in_betweens in
      tabulate t.count (λ i. in_between_form l.floats (in_between_row l.words t i)) ≡ forms_of d 6
  unfolding header_of
  betweens-kept =
      let l = lent_of d behind in
      let t = l.header.meshes.in_betweens in
      kind-kept 6 t in_between_row (in_between_form l.floats) (lit< tt) (betweens-at d) refl
      (same-in-between l.words t) (λ f c. between_is)

  pub skins-kept : let l = lent_of d behind in
      let t = l.header.skins.skins in
      tabulate t.count (λ i. skin_form (skin_row l.words t i)) ≡ forms_of d 7
  unfolding header_of
  skins-kept =
      let l = lent_of d behind in
      let t = l.header.skins.skins in
      kind-kept 7 t skin_row skin_form (lit< tt) (skins-at d) refl
      (same-skin l.words t) (λ f c. skin-is)

  pub skeletons-kept : let l = lent_of d behind in
      let t = l.header.skins.skeletons in
      tabulate t.count (λ i. skeleton_form l.words l.floats (skeleton_row l.words t i)) ≡ forms_of d 8
  unfolding header_of
  skeletons-kept =
      let l = lent_of d behind in
      let t = l.header.skins.skeletons in
      kind-kept 8 t skeleton_row (skeleton_form l.words l.floats) (lit< tt) (skeletons-at d) refl
      (same-skeleton l.words t) (λ f c. skeleton-is)

  pub document-kept : document_of (lent_of d behind) (node_of d) (time_of d) ≡ d
  unfolding document_of entries_from
  document-kept =
      (λ t.
      scene-kept t
      ∷ nodes-kept t
      ∷ channels-kept t
      ∷ meshes-kept t
      ∷ primitives-kept t
      ∷ targets-kept t
      ∷ betweens-kept t
      ∷ skins-kept t
      ∷ skeletons-kept t
      ∷ [])
      ∙ sym (by_entries [] d 9 (nine d fits))
