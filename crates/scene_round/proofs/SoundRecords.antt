-- A record of a form is as sound as another record of that form, kind by kind. Assumes nothing.
use mathlib.Core.Path.{◌≡◌, refl, sym, ap, subst, ◌∙◌}
use mathlib.Core.Bool.{true, ◌&&◌}
use mathlib.Core.List.{List, []}
use mathlib.Core.Option.{some}
use Prim.Native.Nat.{ℕ, zero, suc, ◌+◌, ◌*◌, ◌≤◌}
use native.Mathlib.Omega.{arith}
use borrow.Author.Tests.{leb-true}
use lib.Dec.{leb, ltb, lit<}
use lib.Ieee.{Float, binary32, to_bits}
use lib.ListN.{length, length-map}
use Rattle.model.specs.Lists.{pick, part}
use Rattle.model.specs.Limits.{weight_limit, joint_limit, primitive_limit, vertex_limit, target_limit, in_between_limit}
use Rattle.model.specs.Sampling.{factor}
use Rattle.model.specs.Refusals.{is_scalars}
use Rattle.model.proofs.Tests.{both}
use Rattle.tracks.specs.declared.Part.{Part}
use Rattle.tracks.specs.declared.Track.{Track}
use Rattle.tracks.specs.Values.{kind_of, interpolation_of}
use Rattle.tracks.specs.Tracks.{keys_fit, values_fit, table_number, even_stride}
use Rattle.tracks.proofs.Drawn.{clear, drawn-weights}
use Rattle.tables.specs.declared.NodeRow.{NodeRow}
use Rattle.tables.specs.declared.ChannelRow.{ChannelRow}
use Rattle.tables.specs.declared.MeshRow.{MeshRow}
use Rattle.tables.specs.declared.PrimitiveRow.{PrimitiveRow}
use Rattle.tables.specs.declared.TargetRow.{TargetRow}
use Rattle.tables.specs.declared.InBetweenRow.{InBetweenRow}
use Rattle.tables.specs.declared.SkinRow.{SkinRow}
use Rattle.tables.specs.declared.SkeletonRow.{SkeletonRow}
use Rattle.tables.specs.Records.{alone, word_of, node_row, channel_row, mesh_row, primitive_row, target_row, in_between_row}
use Rattle.tables.specs.Records.{skin_row, skeleton_row}
use Rattle.tracks.specs.Codes.{kind_for, interpolation_for}
use Rattle.tables.specs.Tags.{track_for}
use Rattle.tables.specs.Decoded.{Lent, span_in}
use Rattle.row_checks.specs.Places.{fits_in, slot_fits, base_floats, node_fits, mesh_fits, primitive_fits, target_fits}
use Rattle.row_checks.specs.Places.{in_between_fits, skeleton_fits}
use Rattle.row_checks.specs.Bounds.{is_known, slot_within, node_within, tags_known, mesh_within, primitive_within}
use Rattle.row_checks.specs.Bounds.{target_within, in_between_within, skin_within, skeleton_within}
use Rattle.checks.specs.Drawn.{sizes_of}
use Rattle.grammar.specs.Forms.{Form}
use Rattle.scene_marks.specs.Marks.{mark_at, chosen, words_from, row_of}
use Rattle.scene_forms.specs.declared.Counts.{Counts}
use Rattle.scene_forms.specs.Laid.{field_at, marks_of}
use Rattle.scene_spelling.specs.Written.{bits_of, from, tag_field, parts_field, matrix_field, values_field, node_form}
use Rattle.scene_spelling.specs.Written.{channel_form, mesh_form, primitive_form, target_form, in_between_form, skin_form}
use Rattle.scene_spelling.specs.Written.{skeleton_form}
use Rattle.scene_round.proofs.Filling.{part-long}
use Rattle.scene_round.proofs.FormsFill.{wide}
use Rattle.scene_round.proofs.Fields.{cut, rule_at, FormIn}
use Rattle.scene_round.proofs.Parts.{Alike, part_as, mark-known, tag-number, chosen_is, tag-known, listed-is}
use Rattle.scene_round.proofs.Parts.{exact-fits, numbers-alike, floats_alike, joints-alike, rows_alike}

-- ---- tracks

-- what a table draws for a track in it is by the counts
same-track : (a b : List Float) (t u : Track) → (keys_fit (length b) u && values_fit (length b) u) ≡ true
    → u.kind ≡ t.kind → u.interpolation ≡ t.interpolation → u.keys.count ≡ t.keys.count
    → u.values.count ≡ t.values.count → table_number a t ≡ 0 → table_number b u ≡ 0
same-track a b t u inside k j n v z =
    let c = clear a t z in
    sym (drawn-weights b u inside _ (omega (arith, c.few)) refl)
    ∙ (λ i.
    pick
    (is_scalars (kind_of (k i)) && ltb weight_limit (even_stride (n i) (v i) (factor (interpolation_of (j i))))) 2 0)
    ∙ drawn-weights a t c.inside _ c.few refl
    ∙ z

-- the fields of a channel by its tags
interpolation-there : (floats : List Float) (r : ChannelRow) (n : ℕ) → r.interpolation ≡ n → n ≤ 2
    → field_at (channel_form floats r) (5 + n) ≡ some []
interpolation-there floats r zero e h = ap (λ (t : ℕ). tag_field t 0) e
interpolation-there floats r (suc zero) e h = ap (λ (t : ℕ). tag_field t 1) e
interpolation-there floats r (suc (suc zero)) e h = ap (λ (t : ℕ). tag_field t 2) e
interpolation-there floats r (suc (suc (suc n))) e h = absurd (omega arith)

values-there : (floats : List Float) (r : ChannelRow) (n : ℕ) → r.kind ≡ n → n ≤ 2
    → field_at (channel_form floats r) (9 + n) ≡ some (bits_of (span_in floats r.values (wide n)))
values-there floats r zero e h = ap (λ (t : ℕ). values_field floats t r.values 0 3) e
values-there floats r (suc zero) e h = ap (λ (t : ℕ). values_field floats t r.values 1 4) e
values-there floats r (suc (suc zero)) e h = ap (λ (t : ℕ). values_field floats t r.values 2 1) e
values-there floats r (suc (suc (suc n))) e h = absurd (omega arith)

-- those of a node by its form
base_there : (words : List ℕ) (floats weights : List Float) (r : NodeRow) (n : ℕ) → r.form ≡ n → n ≤ 1
    → field_at (node_form words floats weights r) n ≡ some (bits_of (part floats r.base (base_floats n)))
base_there words floats weights r zero e h = ap (λ (t : ℕ). parts_field floats t r.base) e
base_there words floats weights r (suc zero) e h = ap (λ (t : ℕ). matrix_field floats t r.base) e
base_there words floats weights r (suc (suc n)) e h = absurd (omega arith)

module _ {m : Lent} {f : Form} {c : Counts} where
  values-alike : (q : FormIn m 2 f c) (floats : List Float) (p : Part) (n : ℕ) → n ≤ 2
      → field_at f (9 + n) ≡ some (bits_of (span_in floats p (wide n))) → fits_in p (wide n) (length floats) ≡ true
      → Alike (part_as (rule_at 2 (9 + n)).width (mark_at (marks_of 2 f c) (9 + n))) p (wide n) (length m.floats)
  values-alike q floats p zero b e h = floats_alike q 9 3 floats p tt (lit< tt) e h
  values-alike q floats p (suc zero) b e h = floats_alike q 10 4 floats p tt (lit< tt) e h
  values-alike q floats p (suc (suc zero)) b e h = floats_alike q 11 1 floats p tt (lit< tt) e h
  values-alike q floats p (suc (suc (suc n))) b e h = absurd (omega arith)

  base-fits : (q : FormIn m 1 f c) (n : ℕ) → n ≤ 1 → (xs : List ℕ) → field_at f n ≡ some xs
      → length xs ≡ base_floats n
      → let o = chosen (marks_of 1 f c) 0 1 in
      fits_in (from (cut (mark_at (marks_of 1 f c) (0 + o)).start) (base_floats (cut o))) 1 (length m.floats) ≡ true
  base-fits q zero h xs e long =
      let o = chosen_is q 0 1 0 (lit< tt) refl h (lit< tt) xs e in
      (λ i.
      fits_in (from (cut (mark_at (marks_of 1 f c) (0 + o i)).start) (base_floats (cut (o i)))) 1 (length m.floats))
      ∙ exact-fits q 0 10 xs tt e long
  base-fits q (suc zero) h xs e long =
      let o = chosen_is q 0 1 1 (lit< tt) refl h (lit< tt) xs e in
      (λ i.
      fits_in (from (cut (mark_at (marks_of 1 f c) (0 + o i)).start) (base_floats (cut (o i)))) 1 (length m.floats))
      ∙ exact-fits q 1 16 xs tt e long
  base-fits q (suc (suc n)) h xs e long = absurd (omega arith)

-- ---- records

pub record NodeSound (m : Lent) (r q : NodeRow) : Type 0 where
  pub fits : node_fits (sizes_of m) q ≡ true
  pub within : node_within q ≡ true
  pub children : q.children.count ≡ r.children.count

module _ {m : Lent} {c : Counts} (l : Lent) where
  pub node-sound : (r : NodeRow) → let f = node_form l.words l.floats l.node_weights r in
      FormIn m 1 f c → node_fits (sizes_of l) r ≡ true → node_within r ≡ true
      → NodeSound m r (node_row (row_of 1 (marks_of 1 f c)) alone 0)
  unfolding word_of words_from chosen
  node-sound r q fits within =
      let base = fits_in (from r.base (base_floats r.form)) 1 (length l.floats) in
      let children = fits_in r.children 1 (length l.words) in
      let weights = slot_fits r.weights 1 (length l.node_weights) in
      let a = both base (children && weights) fits in
      let b = both children weights a.1 in
      let n = base_floats r.form in
      let known : r.form ≤ 1 = leb-true r.form 1 (both (is_known r.form 1) _ within).0 in
      let long : length (bits_of (part l.floats r.base n)) ≡ n =
      length-map (part l.floats r.base n) (to_bits binary32)
      ∙ part-long l.floats r.base n (omega (arith, leb-true (r.base + n * 1) (length l.floats) a.0)) in
      let first = base-fits q r.form known _
      (base_there l.words l.floats l.node_weights r r.form refl known) long in
      let ids = numbers-alike q 2 1 l.words r.children tt (lit< tt) refl b.0 in
      let last = rows_alike q 5 1 l.node_weights r.weights tt (lit< tt) refl b.1 in
      record {
        fits = λ i. first i && (ids.fits i && last.fits i);
        within = λ i. tag-known q 0 1 (lit< tt) i && (mark-known q 3 i && (mark-known q 4 i && mark-known q 5 i));
        children = ids.count;
      }

  pub channel-sound : (r : ChannelRow) → let f = channel_form l.floats r in
      FormIn m 2 f c → table_number l.floats (track_for r) ≡ 0 → tags_known r ≡ true
      → let q = channel_row (row_of 2 (marks_of 2 f c)) alone 0 in
      (table_number m.floats (track_for q) ≡ 0) × (tags_known q ≡ true)
  unfolding word_of words_from chosen
  channel-sound r q drawn tags =
      let marks = marks_of 2 (channel_form l.floats r) c in
      let t = track_for r in
      let a = both (is_known r.kind 2) (is_known r.interpolation 2) (both (is_known r.property 3) _ tags).1 in
      let b = both (keys_fit (length l.floats) t) (values_fit (length l.floats) t)
      (clear l.floats t drawn).inside in
      let kind : r.kind ≤ 2 = leb-true r.kind 2 a.0 in
      let way : r.interpolation ≤ 2 = leb-true r.interpolation 2 a.1 in
      let here = values-there l.floats r r.kind refl kind in
      let one = chosen_is q 9 2 r.kind (lit< tt) refl kind (lit< tt) _ here in
      let tag = tag-number q 9 2 r.kind (lit< tt) refl kind (lit< tt) _ here in
      let other = tag-number q 5 2 r.interpolation (lit< tt) refl way (lit< tt) _
      (interpolation-there l.floats r r.interpolation refl way) in
      let keys = floats_alike q 8 1 l.floats r.keys tt (lit< tt) refl b.0 in
      let values = subst
      (λ (o : ℕ).
      Alike (part_as (rule_at 2 (9 + o)).width (mark_at marks (9 + o))) r.values (wide r.kind)
      (length m.floats)) (sym one) (values-alike q l.floats r.values r.kind kind here b.1) in
      let o = chosen marks 9 2 in
      let p = part_as (rule_at 2 (9 + o)).width (mark_at marks (9 + o)) in
      let inside : fits_in p (wide (cut o)) (length m.floats) ≡ true =
      ap (λ (n : ℕ). fits_in p (wide n) (length m.floats)) tag ∙ values.fits in (
        same-track l.floats m.floats t _ (λ i. keys.fits i && inside i) (ap kind_for tag)
            (ap interpolation_for other) keys.count values.count drawn,
        λ i. tag-known q 1 3 (lit< tt) i && (tag-known q 9 2 (lit< tt) i && tag-known q 5 2 (lit< tt) i),
      )

  pub mesh-sound : (r : MeshRow) → let f = mesh_form l.mesh_weights r in
      FormIn m 3 f c → l.header.meshes.primitives.count ≡ m.header.meshes.primitives.count
      → mesh_fits (sizes_of l) r ≡ true → mesh_within r ≡ true
      → let q = mesh_row (row_of 3 (marks_of 3 f c)) alone 0 in
      (mesh_fits (sizes_of m) q ≡ true) × (mesh_within q ≡ true)
  unfolding word_of words_from chosen
  mesh-sound r q same fits within =
      let primitives = fits_in r.primitives 1 l.header.meshes.primitives.count in
      let a = both primitives (fits_in r.weights 1 (length l.mesh_weights)) fits in
      let list = listed-is q 0 r.primitives refl in
      let inside = (λ i. fits_in (list i) 1 (sym same i)) ∙ a.0 in
      let weights = floats_alike q 1 1 l.mesh_weights r.weights tt (lit< tt) refl a.1 in
      (λ i. inside i && weights.fits i, ap (λ (p : Part). leb p.count primitive_limit) list ∙ within)

  pub primitive-sound : (r : PrimitiveRow) → let f = primitive_form l.words l.floats r in
      FormIn m 4 f c → l.header.meshes.targets.count ≡ m.header.meshes.targets.count
      → primitive_fits (sizes_of l) r ≡ true → primitive_within r ≡ true
      → let q = primitive_row (row_of 4 (marks_of 4 f c)) alone 0 in
      (primitive_fits (sizes_of m) q ≡ true) × (primitive_within q ≡ true)
  unfolding word_of words_from chosen
  primitive-sound r q same fits within =
      let n = length l.floats in
      let shape = fits_in r.positions 3 n && (slot_fits r.normals 3 n && slot_fits r.tangents 4 n) in
      let skin = slot_fits r.joints 4 (length l.words) && slot_fits r.weights 4 n in
      let a = both shape (skin && fits_in r.targets 1 l.header.meshes.targets.count) fits in
      let b = both (fits_in r.positions 3 n) (slot_fits r.normals 3 n && slot_fits r.tangents 4 n) a.0 in
      let c = both (slot_fits r.normals 3 n) (slot_fits r.tangents 4 n) b.1 in
      let d = both skin (fits_in r.targets 1 l.header.meshes.targets.count) a.1 in
      let e = both (slot_fits r.joints 4 (length l.words)) (slot_fits r.weights 4 n) d.0 in
      let positions = floats_alike q 0 3 l.floats r.positions tt (lit< tt) refl b.0 in
      let normals = rows_alike q 1 3 l.floats r.normals tt (lit< tt) refl c.0 in
      let tangents = rows_alike q 2 4 l.floats r.tangents tt (lit< tt) refl c.1 in
      let joints = joints-alike q 3 4 l.words r.joints tt (lit< tt) refl e.0 in
      let weights = rows_alike q 4 4 l.floats r.weights tt (lit< tt) refl e.1 in
      let list = listed-is q 5 r.targets refl in
      let inside = (λ i. fits_in (list i) 1 (sym same i)) ∙ d.1 in
      let size = leb r.positions.count vertex_limit in
      let rows = slot_within r.normals && slot_within r.tangents in
      let bound = slot_within r.joints && slot_within r.weights in
      let f = both (size && rows) (bound && leb r.targets.count target_limit) within in
      let g = both size rows f.0 in
      let h = both (slot_within r.normals) (slot_within r.tangents) g.1 in
      let k = both bound (leb r.targets.count target_limit) f.1 in
      let o = both (slot_within r.joints) (slot_within r.weights) k.0 in
      let few = ap (λ (n : ℕ). leb n vertex_limit) positions.count ∙ g.0 in
      let listed = ap (λ (p : Part). leb p.count target_limit) list ∙ k.1 in (
        λ i.
            (positions.fits i && (normals.fits i && tangents.fits i))
            && ((joints.fits i && weights.fits i) && inside i),
        λ i.
            (few i && (normals.within h.0 i && tangents.within h.1 i))
            && ((joints.within o.0 i && weights.within o.1 i) && listed i),
      )

  pub target_sound : (r : TargetRow) → let f = target_form l.floats r in
      FormIn m 5 f c → l.header.meshes.in_betweens.count ≡ m.header.meshes.in_betweens.count
      → target_fits (sizes_of l) r ≡ true → target_within r ≡ true
      → let q = target_row (row_of 5 (marks_of 5 f c)) alone 0 in
      (target_fits (sizes_of m) q ≡ true) × (target_within q ≡ true)
  unfolding word_of words_from chosen
  target_sound r q same fits within =
      let n = length l.floats in
      let three = slot_fits r.normals 3 n && slot_fits r.tangents 3 n in
      let few = slot_within r.normals && slot_within r.tangents in
      let a = both (slot_fits r.positions 3 n && three) _ fits in
      let b = both (slot_fits r.positions 3 n) three a.0 in
      let c = both (slot_fits r.normals 3 n) (slot_fits r.tangents 3 n) b.1 in
      let f = both (slot_within r.positions && few) _ within in
      let g = both (slot_within r.positions) few f.0 in
      let h = both (slot_within r.normals) (slot_within r.tangents) g.1 in
      let positions = rows_alike q 0 3 l.floats r.positions tt (lit< tt) refl b.0 in
      let normals = rows_alike q 1 3 l.floats r.normals tt (lit< tt) refl c.0 in
      let tangents = rows_alike q 2 3 l.floats r.tangents tt (lit< tt) refl c.1 in
      let list = listed-is q 3 r.in_betweens refl in
      let inside = (λ i. fits_in (list i) 1 (sym same i)) ∙ a.1 in
      let listed = ap (λ (p : Part). leb p.count in_between_limit) list ∙ f.1 in (
        λ i. (positions.fits i && (normals.fits i && tangents.fits i)) && inside i,
        λ i.
            (positions.within g.0 i && (normals.within h.0 i && tangents.within h.1 i)) && listed i,
      )

  pub between-sound : (r : InBetweenRow) → let f = in_between_form l.floats r in
      FormIn m 6 f c → in_between_fits (sizes_of l) r ≡ true → in_between_within r ≡ true
      → let q = in_between_row (row_of 6 (marks_of 6 f c)) alone 0 in
      (in_between_fits (sizes_of m) q ≡ true) × (in_between_within q ≡ true)
  unfolding word_of words_from chosen
  between-sound r q fits within =
      let n = length l.floats in
      let a = both (fits_in (from r.weight 1) 1 n) (slot_fits r.positions 3 n && slot_fits r.normals 3 n) fits in
      let b = both (slot_fits r.positions 3 n) (slot_fits r.normals 3 n) a.1 in
      let h = both (slot_within r.positions) (slot_within r.normals) within in
      let one = part-long l.floats r.weight 1 (leb-true (r.weight + 1) n a.0) in
      let weight = exact-fits q 0 1 (bits_of (part l.floats r.weight 1)) tt refl
      (length-map (part l.floats r.weight 1) (to_bits binary32) ∙ one) in
      let positions = rows_alike q 1 3 l.floats r.positions tt (lit< tt) refl b.0 in
      let normals = rows_alike q 2 3 l.floats r.normals tt (lit< tt) refl b.1 in (
        λ i. weight i && (positions.fits i && normals.fits i),
        λ i. positions.within h.0 i && normals.within h.1 i,
      )

  pub skeleton-sound : (r : SkeletonRow) → let f = skeleton_form l.words l.floats r in
      FormIn m 8 f c → skeleton_fits (sizes_of l) r ≡ true → skeleton_within r ≡ true
      → let q = skeleton_row (row_of 8 (marks_of 8 f c)) alone 0 in
      (skeleton_fits (sizes_of m) q ≡ true) × (skeleton_within q ≡ true)
  unfolding word_of words_from chosen
  skeleton-sound r q fits within =
      let joints = fits_in r.joints 1 (length l.words) in
      let a = both joints (fits_in r.inverse_binds 16 (length l.floats)) fits in
      let ids = numbers-alike q 0 1 l.words r.joints tt (lit< tt) refl a.0 in
      let binds = floats_alike q 1 16 l.floats r.inverse_binds tt (lit< tt) refl a.1 in
      (λ i. ids.fits i && binds.fits i, ap (λ (n : ℕ). leb n joint_limit) ids.count ∙ within)

pub skin-sound : {m : Lent} {c : Counts} (r : SkinRow) → FormIn m 7 (skin_form r) c
    → skin_within (skin_row (row_of 7 (marks_of 7 (skin_form r) c)) alone 0) ≡ true
unfolding word_of words_from
skin-sound r q = mark-known q 1
