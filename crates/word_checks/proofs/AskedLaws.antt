-- What is asked of a record word by word is what `checks` asks of it: the lowest number that a word draws is what the
-- record draws, and of a node the lower of that and what its child entries draw. Assumes nothing.
use mathlib.Core.Path.{◌≡◌, refl, sym, ap, ◌∙◌}
use mathlib.Core.Bool.{Bool, true, false, ◌&&◌}
use mathlib.Core.List.{List, [], ◌∷◌, ◌++◌}
use Prim.Native.Nat.{ℕ, zero, suc, ◌+◌}
use borrow.Author.Tests.{leb-true, leb-false, lt-ltb, le-ltb}
use lib.Dec.{ltb, leb}
use lib.Ieee.{Float}
use lib.ListN.{length}
use Rattle.model.specs.Lists.{pick}
use Rattle.model.specs.Limits.{key_limit, weight_limit, vertex_limit, primitive_limit, joint_limit, target_limit}
use Rattle.model.specs.Limits.{in_between_limit}
use Rattle.model.specs.Sampling.{width, factor}
use Rattle.model.specs.Refusals.{is_scalars}
use Rattle.tracks.specs.declared.Part.{Part}
use Rattle.tracks.specs.declared.Track.{Track}
use Rattle.tracks.specs.Values.{interpolation_of, kind_of}
use Rattle.tracks.specs.Tracks.{keys_fit, values_fit, table_number, even_stride}
use Rattle.tracks.proofs.Drawn.{drawn-out, drawn-keys, drawn-weights}
use Rattle.tables.specs.declared.Slot.{Slot}
use Rattle.tables.specs.declared.NodeRow.{NodeRow}
use Rattle.tables.specs.declared.ChannelRow.{ChannelRow}
use Rattle.tables.specs.declared.MeshRow.{MeshRow}
use Rattle.tables.specs.declared.PrimitiveRow.{PrimitiveRow}
use Rattle.tables.specs.declared.TargetRow.{TargetRow}
use Rattle.tables.specs.declared.InBetweenRow.{InBetweenRow}
use Rattle.tables.specs.declared.SkinRow.{SkinRow}
use Rattle.tables.specs.declared.SkeletonRow.{SkeletonRow}
use Rattle.tables.specs.Tags.{is_marked, track_for}
use Rattle.row_checks.specs.declared.Sizes.{Sizes}
use Rattle.row_checks.specs.Places.{fits_in, slot_fits, base_floats, node_fits, mesh_fits, primitive_fits, target_fits}
use Rattle.row_checks.specs.Places.{in_between_fits, skeleton_fits}
use Rattle.row_checks.specs.Bounds.{is_known, slot_within, node_within, tags_known, mesh_within, primitive_within}
use Rattle.row_checks.specs.Bounds.{target_within, in_between_within, skin_within, skeleton_within}
use Rattle.checks.specs.Drawn.{drawn, lower_of, entries_number}
use Rattle.word_checks.specs.Words.{Asked, leaves, over, asks, part_asked, slot_asked, held_asked, node_asked, frames_within}
use Rattle.word_checks.specs.Words.{channel_asked, mesh_asked, primitive_asked, target_asked, in_between_asked}
use Rattle.word_checks.specs.Words.{skin_asked, skeleton_asked, lowest_of, lowest_asked}
use Rattle.word_checks.proofs.Lower.{lower-right, lower-comm, lower-assoc, lower-left-comm, lowest-append}
use Rattle.word_checks.proofs.Lower.{drawn-split, leaves-both, over-both, drawn-both}

-- ---- parts and slots
asked-append : (xs ys : List Asked) (m n : ℕ) → lowest_asked xs ≡ m → lowest_asked ys ≡ n
    → lowest_asked (xs ++ ys) ≡ lower_of m n
asked-append xs ys m n p q = lowest-append (λ (a : Asked). a.number) xs ys ∙ (λ j. lower_of (p j) (q j))

one-asked : (w n : ℕ) → lowest_asked (asks w n ∷ []) ≡ n
unfolding lowest_of
one-asked w n = lower-right n

part-asked : (w : ℕ) (p : Part) (width len limit : ℕ)
    → lowest_asked (part_asked w p width len limit) ≡ drawn (fits_in p width len) (leb p.count limit)
unfolding lowest_of
part-asked w p width len limit =
    ap (lower_of (leaves (fits_in p width len))) (lower-right (over (leb p.count limit)))
    ∙ sym (drawn-split (fits_in p width len) (leb p.count limit))

slot-asked : (w : ℕ) (s : Slot) (width len : ℕ)
    → lowest_asked (slot_asked w s width len) ≡ drawn (slot_fits s width len) (slot_within s)
unfolding slot_asked lowest_of drawn
slot-asked w s width len = go (is_marked s.mark)
  where
    go : (b : Bool)
        → lowest_asked
        (pick b (asks w (over (is_known s.mark 1)) ∷ part_asked (w + 1) s.part width len vertex_limit) [])
        ≡ drawn (pick b (fits_in s.part width len) true)
        (pick b (is_known s.mark 1 && leb s.part.count vertex_limit) true)
    go true =
        ap (lower_of (over (is_known s.mark 1))) (part-asked (w + 1) s.part width len vertex_limit)
        ∙ sym (drawn-both true (fits_in s.part width len) (is_known s.mark 1) (leb s.part.count vertex_limit))
    go false = refl

-- ---- nodes
held-asked : (w : Slot) (len : ℕ)
    → lowest_asked (held_asked w len) ≡ lower_of (leaves (slot_fits w 1 len)) (over (is_known w.mark 1))
unfolding held_asked lowest_of drawn lower_of
held-asked w len = go w.mark
  where
    go : (m : ℕ)
        → lowest_asked
        (pick (is_marked m) (asks 8 (over (is_known m 1)) ∷ asks 9 (leaves (fits_in w.part 1 len)) ∷ []) [])
        ≡ lower_of (leaves (pick (is_marked m) (fits_in w.part 1 len) true)) (over (is_known m 1))
    go zero = refl
    go (suc m) =
        ap (lower_of (over (is_known (suc m) 1))) (lower-right (leaves (fits_in w.part 1 len)))
        ∙ lower-comm (over (is_known (suc m) 1)) (leaves (fits_in w.part 1 len))

node-order : (k0 f1 f2 e k4 k6 fw k8 : ℕ)
    → lower_of k0 (lower_of f1 (lower_of f2 (lower_of e (lower_of k4 (lower_of k6 (lower_of fw k8))))))
    ≡ lower_of (lower_of (lower_of f1 (lower_of f2 fw)) (lower_of k0 (lower_of k4 (lower_of k6 k8)))) e
node-order k0 f1 f2 e k4 k6 fw k8 = simp (lower-assoc, lower-comm, lower-left-comm)

pub node-asked : (s : Sizes) (r : NodeRow) (entries : ℕ)
    → lowest_asked (node_asked s r entries) ≡ lower_of (drawn (node_fits s r) (node_within r)) (entries_number entries)
unfolding node_asked lowest_of
node-asked s r entries =
    let f1 = fits_in (record { at = r.base; count = base_floats r.form }) 1 s.floats in
    let f2 = fits_in r.children 1 s.words in
    let fw = slot_fits r.weights 1 s.node_weights in
    let k0 = is_known r.form 1 in
    let k4 = is_known r.mesh.mark 1 in
    let k6 = is_known r.skin.mark 1 in
    let k8 = is_known r.weights.mark 1 in
    let fits = leaves-both f1 (f2 && fw) ∙ ap (lower_of (leaves f1)) (leaves-both f2 fw) in
    let within = over-both k0 (k4 && (k6 && k8))
    ∙ ap (lower_of (over k0)) (over-both k4 (k6 && k8) ∙ ap (lower_of (over k4)) (over-both k6 k8)) in
    ap (λ (n : ℕ). lower_of (over k0) (lower_of (leaves f1) (lower_of (leaves f2) (lower_of (entries_number entries)
    (lower_of (over k4) (lower_of (over k6) n))))))
    (held-asked r.weights s.node_weights)
    ∙ node-order (over k0) (leaves f1) (leaves f2) (entries_number entries) (over k4) (over k6) (leaves fw) (over k8)
    ∙ ap (λ (n : ℕ). lower_of n (entries_number entries))
    (sym (drawn-split (node_fits s r) (node_within r) ∙ (λ j. lower_of (fits j) (within j))))

-- ---- channels
weights-asked : (scalar : Bool) (n : ℕ)
    → pick (scalar && ltb weight_limit n) 2 0 ≡ over (pick scalar (leb n weight_limit) true)
unfolding drawn
weights-asked false n = refl
weights-asked true n = go (leb n weight_limit) refl
  where
    go : (b : Bool) → leb n weight_limit ≡ b → pick (ltb weight_limit n) 2 0 ≡ over (leb n weight_limit)
    go true e = (λ j. pick (le-ltb weight_limit n (leb-true n weight_limit e) j) 2 0) ∙ sym (ap over e)
    go false e = (λ j. pick (lt-ltb weight_limit n (leb-false n weight_limit e) j) 2 0) ∙ sym (ap over e)

module _ (floats : List Float) (t : Track) where
  stride : ℕ
  stride = even_stride t.keys.count t.values.count (factor (interpolation_of t.interpolation))

  -- what is asked of a track, word by word, is what the table draws of it
  track-asked : table_number floats t
      ≡ drawn (keys_fit (length floats) t && values_fit (length floats) t)
      (leb t.keys.count key_limit && frames_within t)
  unfolding drawn frames_within stride
  track-asked = go (keys_fit (length floats) t && values_fit (length floats) t) (leb t.keys.count key_limit) refl refl
    where
      go : (a b : Bool) → (keys_fit (length floats) t && values_fit (length floats) t) ≡ a
          → leb t.keys.count key_limit ≡ b
          → table_number floats t
          ≡ drawn (keys_fit (length floats) t && values_fit (length floats) t)
          (leb t.keys.count key_limit && frames_within t)
      go false b p q =
          sym (drawn-out floats t p)
          ∙ ap (λ (c : Bool). drawn c (leb t.keys.count key_limit && frames_within t)) (sym p)
      go true false p q =
          sym (drawn-keys floats t p (leb-false t.keys.count key_limit q))
          ∙ (λ j. drawn (sym p j) (sym q j && frames_within t))
      go true true p q =
          let few = leb-true t.keys.count key_limit q in
          sym (drawn-weights floats t p (is_scalars (kind_of t.kind) && ltb weight_limit stride) few refl)
          ∙ weights-asked (is_scalars (kind_of t.kind)) stride
          ∙ (λ j. drawn (sym p j) (sym q j
          && pick (sym (le-ltb key_limit t.keys.count few) j) true
          (pick (is_scalars (kind_of t.kind)) (leb stride weight_limit) true)))

channel-order : (k1 k2 k3 fk ck fv w : ℕ)
    → lower_of k1 (lower_of k2 (lower_of k3 (lower_of fk (lower_of ck (lower_of fv w)))))
    ≡ lower_of (lower_of (lower_of fk ck) (lower_of fv w)) (lower_of k1 (lower_of k2 k3))
channel-order k1 k2 k3 fk ck fv w = simp (lower-assoc, lower-comm, lower-left-comm)

pub channel-asked : (s : Sizes) (r : ChannelRow) (floats : List Float) → length floats ≡ s.floats
    → lowest_asked (channel_asked s r) ≡ lower_of (table_number floats (track_for r)) (drawn true (tags_known r))
unfolding channel_asked lowest_of
channel-asked s r floats e =
    let k1 = is_known r.property 3 in
    let k2 = is_known r.kind 2 in
    let k3 = is_known r.interpolation 2 in
    let fk = fits_in r.keys 1 s.floats in
    let fv = fits_in r.values (width (kind_of (track_for r).kind)) s.floats in
    let ck = leb r.keys.count key_limit in
    let w = frames_within (track_for r) in
    let table = track-asked floats (track_for r)
    ∙ ap (λ (n : ℕ). drawn (keys_fit n (track_for r) && values_fit n (track_for r)) (ck && w)) e
    ∙ drawn-both fk fv ck w
    ∙ (λ j. lower_of (drawn-split fk ck j) (drawn-split fv w j)) in
    let tags = over-both k1 (k2 && k3) ∙ ap (lower_of (over k1)) (over-both k2 k3) in
    ap (λ (n : ℕ). lower_of (over k1) (lower_of (over k2) (lower_of (over k3) (lower_of (leaves fk) (lower_of (over ck)
    (lower_of (leaves fv) n))))))
    (lower-right (over w))
    ∙ channel-order (over k1) (over k2) (over k3) (leaves fk) (over ck) (leaves fv) (over w)
    ∙ (λ j. lower_of (sym table j) (sym tags j))

-- ---- meshes
-- a part with its limit, and a place
part-place : (f w c : Bool) → lower_of (drawn f c) (leaves w) ≡ drawn (f && w) c
part-place f w c =
    ap (λ (n : ℕ). lower_of n (leaves w)) (drawn-split f c)
    ∙ order (leaves f) (over c) (leaves w)
    ∙ ap (λ (n : ℕ). lower_of n (over c)) (sym (leaves-both f w))
    ∙ sym (drawn-split (f && w) c)
  where
    order : (a b c : ℕ) → lower_of (lower_of a b) c ≡ lower_of (lower_of a c) b
    order a b c = simp (lower-assoc, lower-comm)

pub mesh-asked : (s : Sizes) (r : MeshRow) → lowest_asked (mesh_asked s r) ≡ drawn (mesh_fits s r) (mesh_within r)
unfolding mesh_asked
mesh-asked s r =
    asked-append (part_asked 0 r.primitives 1 s.primitives primitive_limit) _ _ _
    (part-asked 0 r.primitives 1 s.primitives primitive_limit)
    (one-asked 2 (leaves (fits_in r.weights 1 s.mesh_weights)))
    ∙ part-place _ _ _

pub skeleton-asked : (s : Sizes) (r : SkeletonRow)
    → lowest_asked (skeleton_asked s r) ≡ drawn (skeleton_fits s r) (skeleton_within r)
unfolding skeleton_asked
skeleton-asked s r =
    asked-append (part_asked 0 r.joints 1 s.words joint_limit) _ _ _
    (part-asked 0 r.joints 1 s.words joint_limit)
    (one-asked 2 (leaves (fits_in r.inverse_binds 16 s.floats)))
    ∙ part-place _ _ _

pub skin-asked : (r : SkinRow) → lowest_asked (skin_asked r) ≡ drawn true (skin_within r)
unfolding skin_asked
skin-asked r = one-asked 1 (over (skin_within r))

pub primitive-asked : (s : Sizes) (r : PrimitiveRow)
    → lowest_asked (primitive_asked s r) ≡ drawn (primitive_fits s r) (primitive_within r)
unfolding primitive_asked
primitive-asked s r =
    let weights = asked-append _ _ _ _ (slot-asked 11 r.weights 4 s.floats)
    (part-asked 14 r.targets 1 s.targets target_limit) in
    let joints = asked-append _ _ _ _ (slot-asked 8 r.joints 4 s.words) weights in
    let tangents = asked-append _ _ _ _ (slot-asked 5 r.tangents 4 s.floats) joints in
    let normals = asked-append _ _ _ _ (slot-asked 2 r.normals 3 s.floats) tangents in
    let fp = fits_in r.positions 3 s.floats in
    let fn = slot_fits r.normals 3 s.floats in
    let ft = slot_fits r.tangents 4 s.floats in
    let fj = slot_fits r.joints 4 s.words in
    let fw = slot_fits r.weights 4 s.floats in
    let fg = fits_in r.targets 1 s.targets in
    let cp = leb r.positions.count vertex_limit in
    let cn = slot_within r.normals in
    let ct = slot_within r.tangents in
    let cj = slot_within r.joints in
    let cw = slot_within r.weights in
    let cg = leb r.targets.count target_limit in
    let shape = drawn-both fp (fn && ft) cp (cn && ct) ∙ ap (lower_of (drawn fp cp)) (drawn-both fn ft cn ct) in
    let rest = drawn-both (fj && fw) fg (cj && cw) cg
    ∙ ap (λ (n : ℕ). lower_of n (drawn fg cg)) (drawn-both fj fw cj cw) in
    asked-append _ _ _ _ (part-asked 0 r.positions 3 s.floats vertex_limit) normals
    ∙ six (drawn fp cp) (drawn fn cn) (drawn ft ct) (drawn fj cj) (drawn fw cw) (drawn fg cg)
    ∙ sym (drawn-both (fp && (fn && ft)) ((fj && fw) && fg) (cp && (cn && ct)) ((cj && cw) && cg)
    ∙ (λ j. lower_of (shape j) (rest j)))
  where
    six : (p n t j w g : ℕ)
        → lower_of p (lower_of n (lower_of t (lower_of j (lower_of w g))))
        ≡ lower_of (lower_of p (lower_of n t)) (lower_of (lower_of j w) g)
    six p n t j w g = simp lower-assoc

pub target-asked : (s : Sizes) (r : TargetRow)
    → lowest_asked (target_asked s r) ≡ drawn (target_fits s r) (target_within r)
unfolding target_asked
target-asked s r =
    let fp = slot_fits r.positions 3 s.floats in
    let fn = slot_fits r.normals 3 s.floats in
    let ft = slot_fits r.tangents 3 s.floats in
    let fb = fits_in r.in_betweens 1 s.in_betweens in
    let cp = slot_within r.positions in
    let cn = slot_within r.normals in
    let ct = slot_within r.tangents in
    let cb = leb r.in_betweens.count in_between_limit in
    let tangents = asked-append _ _ _ _ (slot-asked 6 r.tangents 3 s.floats)
    (part-asked 9 r.in_betweens 1 s.in_betweens in_between_limit) in
    let normals = asked-append _ _ _ _ (slot-asked 3 r.normals 3 s.floats) tangents in
    let shape = drawn-both fp (fn && ft) cp (cn && ct) ∙ ap (lower_of (drawn fp cp)) (drawn-both fn ft cn ct) in
    asked-append _ _ _ _ (slot-asked 0 r.positions 3 s.floats) normals
    ∙ four (drawn fp cp) (drawn fn cn) (drawn ft ct) (drawn fb cb)
    ∙ sym (drawn-both (fp && (fn && ft)) fb (cp && (cn && ct)) cb ∙ ap (λ (n : ℕ). lower_of n (drawn fb cb)) shape)
  where
    four : (p n t b : ℕ) → lower_of p (lower_of n (lower_of t b)) ≡ lower_of (lower_of p (lower_of n t)) b
    four p n t b = simp lower-assoc

pub in-between-asked : (s : Sizes) (r : InBetweenRow)
    → lowest_asked (in_between_asked s r) ≡ drawn (in_between_fits s r) (in_between_within r)
unfolding in_between_asked lowest_of
in-between-asked s r =
    let f = fits_in (record { at = r.weight; count = 1 }) 1 s.floats in
    let fp = slot_fits r.positions 3 s.floats in
    let fn = slot_fits r.normals 3 s.floats in
    let cp = slot_within r.positions in
    let cn = slot_within r.normals in
    ap (lower_of (leaves f))
    (asked-append (slot_asked 1 r.positions 3 s.floats) (slot_asked 4 r.normals 3 s.floats) _ _
    (slot-asked 1 r.positions 3 s.floats) (slot-asked 4 r.normals 3 s.floats))
    ∙ ap (lower_of (leaves f)) (sym (drawn-both fp fn cp cn))
    ∙ sym (drawn-both f (fp && fn) true (cp && cn))
