-- The weights that a bake blends with: those of the channel that stands, and that more than 64 do not matter. Assumes nothing.
use mathlib.Core.Path.{◌≡◌, refl, sym, ap, ◌∙◌, subst}
use mathlib.Core.Bool.{Bool, true, false, not, ◌&&◌, false≢true}
use mathlib.Core.List.{List, [], ◌∷◌, map}
use mathlib.Core.Option.{Option, none, some}
use Prim.Native.Nat.{ℕ, zero, suc, ◌+◌, ◌*◌, ◌≤◌, ◌<◌}
use native.Mathlib.Omega.{arith}
use borrow.Author.Tests.{lt-ltb, ltb-true, ltb-false, leb-true, eqb-true}
use lib.Dec.{ltb, leb, eqb}
use Rattle.std.proofs.Common.{Result, Ok, Err}
use lib.Ieee.{Float, is_nan}
use lib.ListN.{length, get_or, take, drop, replicate, length-take}
use lib.Seq.{take_all, take_at}
use Rattle.float.specs.F32.{zero32}
use Rattle.model.specs.Lists.{pick, tabulate, is_some, and_then}
use Rattle.model.specs.Limits.{vertex_limit, target_limit}
use Rattle.model.specs.Vector.{Vector}
use Rattle.model.specs.Matrix.{Matrix}
use Rattle.model.specs.Scene.{Property, translation, rotation, scale, morph_weights, Kind, vec3s, quats, scalars, Track, Target, Primitive, Scene, node_count, node_at}
use Rattle.model.specs.Sampling.{even, stride, row_width, in_line, locate, value_at, sample}
use Rattle.model.specs.Pose.{at_rest, given, replaced}
use Rattle.model.specs.World.{poses_of, pose_at}
use Rattle.model.specs.Skin.{blend_weights}
use Rattle.model.specs.Written.{Wrote}
use Rattle.model.specs.Morph.{with_target, with_targets}
use Rattle.model.specs.Bake.{placed_shape, baked_primitive}
use Rattle.model.specs.Refusals.{is_scalars, sample_number, some_keys_out_of_line}
use Rattle.model.specs.Calls.{Sampled, delivered, sampled_or, sampled}
use Rattle.model.proofs.ListLaws.{length-tabulate}
use Rattle.model.proofs.Tests.{both}
use Rattle.model.proofs.Located.{locate-in-range}
use Rattle.model.proofs.Numbers.{sample-accepted}
use Rattle.model.proofs.Sampled.{sample-at, value-width}
use Rattle.refusals.specs.declared.Refusal.{Refusal}
use Rattle.animation.specs.declared.SampledValue.{SampledValue}
use Rattle.animation.specs.declared.SampledValue.TheVariants as value
use Rattle.tracks.specs.declared.Track as animation
use Rattle.animation.specs.Values.{answer_of}
use Rattle.tracks.specs.Tracks.{track_in, table_number}
use Rattle.tables.specs.declared.ChannelRow.{ChannelRow}
use Rattle.tables.specs.declared.NodeRow.{NodeRow}
use Rattle.tables.specs.declared.MeshRow.{MeshRow}
use Rattle.tables.specs.declared.PrimitiveRow.{PrimitiveRow}
use Rattle.tables.specs.Records.{node_row, channel_row, mesh_row, primitive_row, target_row}
use Rattle.tables.specs.Tags.{property_for, track_for}
use Rattle.tables.specs.Decoded.{Lent, node_of, target_of, primitive_of, mesh_of, scene_of}
use Rattle.tables.proofs.Decoding.{node-count, node-at, channel-at}
use Rattle.row_checks.specs.Places.{fits_in}
use Rattle.row_checks.specs.Bounds.{slot_within, primitive_within}
use Rattle.checks.specs.declared.Table.TheVariants as table
use Rattle.checks.specs.Drawn.{tables_number}
use Rattle.checks.proofs.Clearing.{checked}
use Rattle.pose_slots.specs.Slots.{room}
use Rattle.pose_slots.specs.Channels.{channel_in}
use Rattle.pose_slots.proofs.SampledGifts.{sample-driving, unanswered}
use Rattle.pose.specs.Encoded.{gives_weights, standing_from, standing, weights_by, encoded_words}
use Rattle.pose.proofs.EncodeLaws.{stands, stand-more, read_word}
use Rattle.pose.proofs.WeightLaws.{standing-weights}
use Rattle.pose.proofs.CallLaws.{none-drawn, all-in-line}
use Rattle.skin.specs.Weights.{Effective}
use Rattle.bake_writing.specs.Weights.{Weighed, Unposed, Blending}

-- ---- a channel sampled
module _ (tr : Track) (time : Float) (g : ℕ) (lent : List Float) where
  abbrev value_of : Vector
  value_of = value_at tr time (locate tr.keys time)

  few : (m : ℕ) → sample_number g tr time (length lent) ≡ m → (sampled_or m tr time lent).weights ≤ length lent
  few zero e = go tr.kind (sample-accepted tr time (length lent) g e).4
    where
      go : (κ : Kind) → (is_scalars κ && ltb (length lent) (stride tr)) ≡ false → (delivered κ (stride tr) value_of lent).weights ≤ length lent
      go vec3s s = omega arith
      go quats s = omega arith
      go scalars s = ltb-false (length lent) (stride tr) s
  few (suc m) e = omega arith

  sampled-weights : sample_number g tr time (length lent) ≡ 0 → tr.kind ≡ scalars
      → sample tr time ≡ some (take (sampled g tr time lent).weights (sampled g tr time lent).slice)
  unfolding sampled
  sampled-weights z k =
      let even = (sample-accepted tr time (length lent) g z).2 in
      let width = value-width tr even time (locate tr.keys time) (locate-in-range tr.keys time) ∙ ap (λ (κ : Kind). row_width κ (stride tr)) k in
      let answer : sampled_or (sample_number g tr time (length lent)) tr time lent ≡ delivered scalars (stride tr) value_of lent
      = (λ j. sampled_or (z j) tr time lent) ∙ ap (λ (κ : Kind). delivered κ (stride tr) value_of lent) k in
      sample-at tr even time refl
      ∙ ap some (sym (take_at value_of (drop (stride tr) lent) (stride tr) width) ∙ sym (ap (λ (a : Sampled). take a.weights a.slice) answer))

module _ (floats : List Float) (row : ChannelRow) (time : Float) where
  slice_of : (s : Result SampledValue Refusal) (left : List Float) → (answer_of s left).slice ≡ left
  slice_of (Ok (value.Vec3 v)) left = refl
  slice_of (Ok (value.Quat q)) left = refl
  slice_of (Ok (value.Scalar n)) left = refl
  slice_of (Err r) left = refl

  pub weighed : (t : animation.Track) (lent left : List Float) (s : Result SampledValue Refusal) (n : ℕ) → t ≡ track_for row → length lent ≡ 64
      → answer_of s left ≡ sampled (table_number floats t) (track_in floats t) time lent → (answer_of s left).weights ≡ n → length left ≡ 64 → Weighed floats row time left n
  unfolding sample_number sampled
  weighed t lent left s n e size h c kept =
      let g = table_number floats (track_for row) in
      let tr = track_in floats (track_for row) in
      let a : answer_of s left ≡ sampled g tr time lent = h ∙ ap (λ (x : animation.Track). sampled (table_number floats x) (track_in floats x) time lent) e in
      let count : (sampled g tr time lent).weights ≡ n = sym (ap (λ (x : Sampled). x.weights) a) ∙ c in
      let slice : (sampled g tr time lent).slice ≡ left = sym (ap (λ (x : Sampled). x.slice) a) ∙ slice_of s left in
      record {
        size = kept;
        few = subst (λ (m : ℕ). m ≤ 64) count (subst (λ (m : ℕ). (sampled g tr time lent).weights ≤ m) size (few tr time g lent _ refl));
        weights = λ z k.
            sample-driving row.target (property_for row.property) tr time
            ∙ sampled-weights tr time g lent (ap (sample_number g tr time) size ∙ z) k
            ∙ (λ j. some (take (count j) (slice j)));
      }

-- ---- the channel that stands
module _ (time : Float) (i : ℕ) where
  standing-at : (n : ℕ) (f : ℕ → Track) (k : ℕ) → standing time i (tabulate n f) ≡ suc k → (k < n) × (stands time i (f k) ≡ true)
  unfolding standing_from tabulate
  standing-at zero f k h = absurd (omega (arith, h))
  standing-at (suc n) f k h = go (stands time i (f n)) refl (sym (stand-more time i 0 0 n f) ∙ h) (standing-at n f k)
    where
      go : (b : Bool) → stands time i (f n) ≡ b → pick b (0 + n + 1) (standing time i (tabulate n f)) ≡ suc k
          → (standing time i (tabulate n f) ≡ suc k → (k < n) × (stands time i (f k) ≡ true)) → (k < suc n) × (stands time i (f k) ≡ true)
      go true e q before = let last : n ≡ k = omega (arith, q) in (omega (arith, last), subst (λ (m : ℕ). stands time i (f m) ≡ true) last e)
      go false e q before = let r = before q in (omega (arith, r.0), r.1)

gives-weights : (q : Property) (κ : Kind) (o : Option Vector) → is_some (replaced q (and_then o (given q κ)) at_rest).weights ≡ true → (κ ≡ scalars) × (is_some o ≡ true)
unfolding given replaced
gives-weights translation κ o h = absurd (false≢true h)
gives-weights rotation κ o h = absurd (false≢true h)
gives-weights scale κ o h = absurd (false≢true h)
gives-weights morph_weights κ none h = absurd (false≢true h)
gives-weights morph_weights vec3s (some v) h = absurd (false≢true h)
gives-weights morph_weights quats (some v) h = absurd (false≢true h)
gives-weights morph_weights scalars (some v) h = (refl, refl)

-- a channel with a value, and with keys in line where it is even, is not refused
module _ (floats : List Float) (row : ChannelRow) (time : Float) where
  abbrev refusal : ℕ
  refusal = sample_number (table_number floats (track_for row)) (channel_in floats row) time 64

  not-refused : table_number floats (track_for row) ≡ 0 → is_nan time ≡ false → (even (channel_in floats row) && not (in_line (channel_in floats row).keys)) ≡ false
      → is_some (sample (channel_in floats row) time) ≡ true → refusal ≡ 0
  unfolding sample_number sampled
  not-refused z number line h = go refusal refl
    where
      go : (m : ℕ) → refusal ≡ m → m ≡ 0
      go zero e = refl
      go (suc m) e =
          let none-there : sample (track_in floats (track_for row)) time ≡ none
          = unanswered floats row time (replicate 64 zero32) m z number line refl e in
          absurd (false≢true (sym (ap is_some (sample-driving row.target (property_for row.property) (track_in floats (track_for row)) time ∙ none-there)) ∙ h))

module _ (l : Lent) (time : Float) where
  abbrev channel_at : ℕ → ChannelRow
  channel_at k = channel_row l.words l.header.channels k

  pub standing-channel : tables_number l ≡ 0 → is_nan time ≡ false → some_keys_out_of_line (scene_of l) ≡ false
      → (i : ℕ) → i < l.header.graph.nodes.count → (k : ℕ) → standing time i (scene_of l).tracks ≡ suc k
      → (k < l.header.channels.count) × ((channel_in l.floats (channel_at k)).kind ≡ scalars)
      × (sample_number (table_number l.floats (track_for (channel_at k))) (channel_in l.floats (channel_at k)) time 64 ≡ 0)
  unfolding scene_of
  standing-channel z number lines i b k h =
      let t = channel_in l.floats (channel_at k) in
      let s = standing-at time i l.header.channels.count (λ m. channel_in l.floats (channel_at m)) k h in
      let aimed = both (eqb t.target i) (gives_weights time t) s.1 in
      let w = gives-weights t.property t.kind (sample t time) aimed.1 in
      let target = eqb-true t.target i aimed.0 in
      let line : (even t && not (in_line t.keys)) ≡ false
      = sym (ap (λ (c : Bool). c && even t && not (in_line t.keys)) (lt-ltb t.target l.header.graph.nodes.count (omega (arith, target, b))))
      ∙ all-in-line l lines k s.0 in
      (s.0, w.0, not-refused l.floats (channel_at k) time (none-drawn l z k s.0) number line w.1)

-- ---- the weights that a node is blended with
copied : (results lent left : List Float) (n : ℕ) → Wrote results lent left n → length lent ≡ 64 → (n ≤ 64) × (take n left ≡ take 64 results)
copied results lent left n w size = (
  omega (arith, w.counted, size),
  ap (take n) w.slice ∙ take_at (take n results) (drop n lent) n (omega (arith, length-take n results, w.counted)) ∙ go (ltb (length results) 64) refl,
)
  where
    go : (b : Bool) → ltb (length results) 64 ≡ b → take n results ≡ take 64 results
    go true e =
        let short = ltb-true (length results) 64 e in
        take_all n results (omega (arith, w.counted, size, short)) ∙ sym (take_all 64 results (omega (arith, short)))
    go false e =
        let long = ltb-false (length results) 64 e in
        let whole : n ≡ 64 = omega (arith, w.counted, size, long) in
        ap (λ (m : ℕ). take m results) whole

pub unposed : (node_weights mesh_weights : List Float) (node : NodeRow) (mesh : MeshRow) (ws lent left : List Float) (n : ℕ)
    → Effective node_weights mesh_weights node mesh ws → Wrote ws lent left n → length lent ≡ 64 → length left ≡ 64 → Unposed node_weights mesh_weights node mesh left n
unposed node_weights mesh_weights node mesh ws lent left n e w size kept =
    let c = copied ws lent left n w size in
    record { size = kept; few = c.0; weights = λ words floats h. c.1 ∙ ap (take 64) (e.weights words floats h) }

module _ (l : Lent) (time : Float) (marks : List ℕ) (i : ℕ) (mesh : MeshRow) (left : List Float) (r : ℕ) where
  abbrev s : Scene
  s = scene_of l

  -- what the word of a slot says of the posed weights
  by_word : (w : ℕ) → get_or marks (i * 4 + 3) 0 ≡ w → i < node_count s → (lent : List ℕ) (slots : List Float) → node_count s ≤ room lent slots
      → marks ≡ encoded_words time (node_count s) s.tracks lent
      → (standing time i s.tracks ≡ w) × ((pose_at (poses_of time s) i).weights ≡ weights_by time s.tracks w)
  by_word w e b lent slots space m =
      let word : standing time i s.tracks ≡ w
      = sym (read_word time (node_count s) lent slots space s.tracks i b) ∙ sym (ap (λ (x : List ℕ). get_or x (i * 4 + 3) 0) m) ∙ e in
      (word, standing-weights time i s.tracks (node_count s) b ∙ ap (weights_by time s.tracks) word)

  abbrev own : Option (List Float)
  own = (node_at s i).weights

  pub by-channel : (k : ℕ) → get_or marks (i * 4 + 3) 0 ≡ suc k → Weighed l.floats (channel_row l.words l.header.channels k) time left r
      → Blending l time marks i mesh left r
  by-channel k e w = record {
    size = w.size;
    few = w.few;
    weights = λ z number lines b lent slots space m.
        let p = by_word (suc k) e b lent slots space m in
        let c = standing-channel l time z number lines i (omega (arith, b, node-count l)) k p.0 in
        let posed : (pose_at (poses_of time s) i).weights ≡ some (take r left)
        = p.1 ∙ ap (λ (o : Option Track). and_then o (λ t. sample t time)) (channel-at l k c.0) ∙ w.weights c.2 c.1 in
        sym (take_all 64 (take r left) (omega (arith, length-take r left, w.few)))
        ∙ sym (ap (λ (o : Option (List Float)). take 64 (blend_weights o own (mesh_of l mesh))) posed);
  }

  pub by_rows : (row : NodeRow) → get_or marks (i * 4 + 3) 0 ≡ 0 → row ≡ node_row l.words l.header.graph.nodes i
      → Unposed l.node_weights l.mesh_weights row mesh left r → Blending l time marks i mesh left r
  by_rows row e q u = record {
    size = u.size;
    few = u.few;
    weights = λ z number lines b lent slots space m.
        let p = by_word 0 e b lent slots space m in
        let node = node-at l i (omega (arith, b, node-count l)) ∙ ap (node_of l) (sym q) in
        u.weights l.words l.floats l.header
        ∙ sym (λ j. take 64 (blend_weights (p.1 j) (node j).weights (mesh_of l mesh)));
  }

-- ---- weights past the targets
pub cut : (n : ℕ) (ts : List Target) (ws : List Float) (p : Primitive) → length ts ≤ n → with_targets ts (take n ws) p ≡ with_targets ts ws p
unfolding with_targets
cut n [] ws p h = refl
cut zero (t ∷ ts) ws p h = absurd (omega (arith, h))
cut (suc n) (t ∷ ts) [] p h = refl
cut (suc n) (t ∷ ts) (w ∷ ws) p h = cut n ts ws (with_target p t w) (omega (arith, h))

map-alike : {A B : Type 0} (n : ℕ) (f : ℕ → A) (g h : A → B) → ((k : ℕ) → k < n → g (f k) ≡ h (f k)) → map g (tabulate n f) ≡ map h (tabulate n f)
unfolding tabulate
map-alike zero f g h e = refl
map-alike (suc n) f g h e = λ j. e 0 (omega arith) j ∷ map-alike n (λ i. f (suc i)) g h (λ k b. e (suc k) (omega (arith, b))) j

module _ (world : Matrix) (palette : Option (List Matrix)) (ws : List Float) where
  pub baked-cut : (p : Primitive) → length p.targets ≤ target_limit → baked_primitive world palette (take target_limit ws) p ≡ baked_primitive world palette ws p
  unfolding baked_primitive
  baked-cut p h = ap (λ (m : Primitive). placed_shape world palette m.joints m.weights m) (cut target_limit p.targets ws p h)

  -- a primitive of tables that draw nothing
  pub row_cut : (l : Lent) (r : PrimitiveRow) → primitive_within r ≡ true
      → baked_primitive world palette (take target_limit ws) (primitive_of l r) ≡ baked_primitive world palette ws (primitive_of l r)
  row_cut l r h =
      let shape = leb r.positions.count vertex_limit && (slot_within r.normals && slot_within r.tangents) in
      let skinned = slot_within r.joints && slot_within r.weights in
      let within = leb r.targets.count target_limit in
      let few = leb-true r.targets.count target_limit (both skinned within (both shape (skinned && within) h).1).1 in
      baked-cut (primitive_of l r) (omega (arith, few, length-tabulate r.targets.count (λ k. target_of l (target_row l.words l.header.meshes.targets (r.targets.at + k)))))

  -- and all primitives of a mesh of such tables
  pub mesh-cut : (l : Lent) → tables_number l ≡ 0 → (m : ℕ) → m < l.header.meshes.meshes.count
      → map (baked_primitive world palette (take target_limit ws)) (mesh_of l (mesh_row l.words l.header.meshes.meshes m)).primitives
      ≡ map (baked_primitive world palette ws) (mesh_of l (mesh_row l.words l.header.meshes.meshes m)).primitives
  mesh-cut l z m b =
      let all = (mesh_row l.words l.header.meshes.meshes m).primitives in
      let fit = both (fits_in all 1 l.header.meshes.primitives.count) (fits_in (mesh_row l.words l.header.meshes.meshes m).weights 1 (length l.mesh_weights))
      ((checked l z).records table.Meshes m b).0 in
      let inside = leb-true (all.at + all.count * 1) l.header.meshes.primitives.count fit.0 in
      map-alike all.count (λ k. primitive_of l (primitive_row l.words l.header.meshes.primitives (all.at + k))) _ _
      (λ k h. row_cut l (primitive_row l.words l.header.meshes.primitives (all.at + k)) ((checked l z).records table.Primitives (all.at + k) (omega (arith, inside, h))).1)
