-- The form of a sound record is what its kind asks for. Assumes nothing.
use mathlib.Core.Path.{◌≡◌, refl, subst}
use mathlib.Core.Bool.{Bool, true, false, ◌&&◌, not, false≢true}
use mathlib.Core.List.{List, [], ◌∷◌}
use mathlib.Core.Option.{some}
use Prim.Native.Nat.{ℕ, zero, suc, ◌+◌, ◌*◌, ◌≤◌, ◌<◌}
use native.Mathlib.Omega.{arith}
use borrow.Author.Tests.{leb-true, eqb-true}
use lib.Dec.{T, eqb}
use lib.Ieee.{Float, binary32, fits, to_bits}
use lib.Ieee.Bits.{to_bits-lt}
use lib.ListN.{length, drop}
use Rattle.model.specs.Lists.{pick, every}
use Rattle.model.specs.Sampling.{width}
use Rattle.model.proofs.Tests.{both}
use Rattle.tracks.specs.declared.Part.{Part}
use Rattle.tracks.specs.declared.Track.{Track}
use Rattle.tracks.specs.Values.{kind_of}
use Rattle.model.specs.Refusals.{track_over_limit}
use Rattle.tracks.specs.Tracks.{keys_fit, values_fit, track_in, table_number}
use Rattle.tables.specs.declared.ChannelRow.{ChannelRow}
use Rattle.tables.specs.Records.{word_of, node_row, channel_row, mesh_row, primitive_row, target_row, in_between_row, skin_row}
use Rattle.tables.specs.Records.{skeleton_row, node_words, channel_words, mesh_words, primitive_words, target_words}
use Rattle.tables.specs.Records.{skin_words}
use Rattle.tracks.specs.Codes.{kind_for}
use Rattle.tables.specs.Tags.{track_for}
use Rattle.tables.specs.Decoded.{Lent, span_in}
use Rattle.row_checks.specs.Places.{fits_in, slot_fits, base_floats}
use Rattle.row_checks.specs.Bounds.{is_known}
use Rattle.checks.specs.declared.Table.TheVariants as table
use Rattle.checks.specs.Checked.{Sound}
use Rattle.grammar.specs.Digits.{floats}
use Rattle.grammar.specs.Forms.{entries_of, Slot, Kind, Field, Form, FitsSlots}
use Rattle.grammar.specs.Shape.{is_float, field_holds, fields_hold, present_in, groups_hold, form_holds}
use Rattle.grammar.proofs.Words.{and-of}
use Rattle.scene_schema.specs.Schema.{kinds, kind_at}
use Rattle.scene_spelling.specs.Written.{bits_of, from, there, tag_field, values_field, scene_form, node_form}
use Rattle.scene_spelling.specs.Written.{channel_form, mesh_form, primitive_form, target_form, in_between_form, skin_form}
use Rattle.scene_spelling.specs.Written.{skeleton_form}
use Rattle.scene_round.proofs.Filling.{Floats32, Lent32, bits-float, Fills, there-fills, one-fills}
use Rattle.scene_round.proofs.Filling.{id-fills, listed-fills, numbers-fill, joints-fill, floats_fill}
use Rattle.scene_round.proofs.Filling.{entries-fill, slot-fills}

-- ---- a form, field by field

record FieldsFill (ts : List Slot) (f : Form) : Type 0 where
  fits : FitsSlots ts f
  hold : T (fields_hold ts f)

over : FieldsFill [] []
unfolding fields_hold
over = record { fits = tt; hold = tt }

next : {t : Slot} {ts : List Slot} {x : Field} {f : Form} → Fills t x → FieldsFill ts f → FieldsFill (t ∷ ts) (x ∷ f)
unfolding fields_hold
next {t} {ts} {x} {f} h r = record {
  fits = (h.small, r.fits);
  hold = and-of (field_holds t x) (fields_hold ts f) h.holds r.hold;
}

pub record FormFills (k : Kind) (f : Form) : Type 0 where
  pub fits : FitsSlots k.slots f
  pub shaped : T (form_holds k f)

form-fills : {k : Kind} {f : Form} → FieldsFill k.slots f → T (groups_hold k.slots f) → FormFills k f
form-fills {k} {f} h g = record {
  fits = h.fits;
  shaped = and-of (fields_hold k.slots f) (groups_hold k.slots f) h.hold g;
}

-- ---- one of a group

ten-floats : (form : ℕ) → eqb form 0 ≡ true → base_floats form ≡ 10
ten-floats zero e = refl
ten-floats (suc n) e = absurd (omega (arith, eqb-true (suc n) 0 e))

sixteen-floats : (form : ℕ) → not (eqb form 0) ≡ true → base_floats form ≡ 16
sixteen-floats zero e = absurd (false≢true e)
sixteen-floats (suc n) e = refl

base-one : (b : Bool) (xs ys zs : List ℕ) (f g h : Field)
    → T (groups_hold (kind_at 1).slots (there b xs ∷ there (not b) ys ∷ some zs ∷ f ∷ g ∷ h ∷ []))
unfolding kinds groups_hold present_in
base-one true xs ys zs f g h = tt
base-one false xs ys zs f g h = tt

four-one : (n : ℕ) → n ≤ 3 → (f : Form)
    → T (eqb (present_in 4 (tag_field n 0 ∷ tag_field n 1 ∷ tag_field n 2 ∷ tag_field n 3 ∷ f)) 1)
unfolding present_in
four-one zero h f = tt
four-one (suc zero) h f = tt
four-one (suc (suc zero)) h f = tt
four-one (suc (suc (suc zero))) h f = tt
four-one (suc (suc (suc (suc n)))) h f = absurd (omega arith)

three-one : (n : ℕ) → n ≤ 2 → (xs ys zs : List ℕ) (f : Form)
    → T (eqb (present_in 3 (there (eqb n 0) xs ∷ there (eqb n 1) ys ∷ there (eqb n 2) zs ∷ f)) 1)
unfolding present_in
three-one zero h xs ys zs f = tt
three-one (suc zero) h xs ys zs f = tt
three-one (suc (suc zero)) h xs ys zs f = tt
three-one (suc (suc (suc n))) h xs ys zs f = absurd (omega arith)

channel-one : (l : List Float) (r : ChannelRow) → r.property ≤ 3 → r.kind ≤ 2 → r.interpolation ≤ 2
    → T (groups_hold (kind_at 2).slots (channel_form l r))
unfolding kinds groups_hold present_in
channel-one l r p k i =
    let f = channel_form l r in
    and-of (eqb (present_in 4 (drop 1 f)) 1) _ (four-one r.property p (drop 5 f))
    (and-of (eqb (present_in 3 (drop 5 f)) 1) _ (three-one r.interpolation i [] [] [] (drop 8 f))
    (and-of (eqb (present_in 3 (drop 9 f)) 1) true
    (three-one r.kind k (bits_of (span_in l r.values 3)) (bits_of (span_in l r.values 4))
    (bits_of (span_in l r.values 1)) [])
    tt))

-- ---- keys and values of a channel

track-inside : (l : List Float) (t : Track) → table_number l t ≡ 0
    → (keys_fit (length l) t ≡ true) × (values_fit (length l) t ≡ true)
unfolding table_number
track-inside l t h =
    let inside = keys_fit (length l) t && values_fit (length l) t in
    both (keys_fit (length l) t) (values_fit (length l) t) (go inside (track_over_limit (track_in l t)) h)
  where
    go : (a b : Bool) → ◌≡◌ {A = ℕ} (pick a (pick b 2 0) 1) 0 → a ≡ true
    go true b h = refl
    go false b h = absurd (omega arith)

tag-fills : {t : Slot} (tag n : ℕ) → T (field_holds t (some [])) → Fills t (tag_field tag n)
tag-fills tag n h = there-fills (eqb tag n) (λ e. record { small = tt; holds = h })

-- how many floats a value of a kind has
abbrev pub wide : ℕ → ℕ
wide kind = width (kind_of (kind_for kind))

values-fill : (l : List Float) → Floats32 l → {t : Slot} (kind asked : ℕ) (p : Part) → t.sort ≡ floats
    → t.size ≡ entries_of (wide asked) → fits_in p (wide kind) (length l) ≡ true
    → Fills t (values_field l kind p asked (wide asked))
values-fill l held kind asked p s z inside =
    there-fills (eqb kind asked)
    (λ e.
    entries-fill l held p (wide asked) s z
    (subst (λ (k : ℕ). fits_in p (wide k) (length l) ≡ true) (eqb-true kind asked e) inside))

-- ---- forms

module _ (l : Lent) (has : Lent32 l) where
  word : (t : Part) (stride i k : ℕ) → word_of l.words t stride i k < 0x1_0000_0000
  unfolding word_of
  word t stride i k = has.words (t.at + i * stride + k)

  pub scene-fills : (node : ℕ) (time : Float) → node < 0x1_0000_0000 → T (fits binary32 time)
      → fits_in l.header.graph.roots 1 (length l.words) ≡ true
      → FormFills (kind_at 0) (scene_form l.words l.header.graph.roots node time)
  unfolding kinds groups_hold present_in every
  scene-fills node time h g inside =
      let b = is_float (to_bits binary32 time) in
      form-fills
      (next (one-fills h tt)
      (next (one-fills (to_bits-lt binary32 time g) (and-of (b && true) true (and-of b true (bits-float time g) tt) tt))
      (next (numbers-fill l.words has.words l.header.graph.roots 1 refl refl inside)
      over)))
      tt

  pub node-fills : (i : ℕ) → Sound l table.Nodes i
      → FormFills (kind_at 1)
      (node_form l.words l.floats l.node_weights (node_row l.words l.header.graph.nodes i))
  unfolding kinds
  node-fills i s =
      let t = l.header.graph.nodes in
      let r = node_row l.words t i in
      let base = fits_in (from r.base (base_floats r.form)) 1 (length l.floats) in
      let children = fits_in r.children 1 (length l.words) in
      let weights = slot_fits r.weights 1 (length l.node_weights) in
      let a = both base (children && weights) s.0 in
      let b = both children weights a.1 in
      let inside = leb-true (r.base + base_floats r.form * 1) (length l.floats) a.0 in
      form-fills
      (next (there-fills (eqb r.form 0)
      (λ e.
      floats_fill l.floats has.floats (from r.base 10) 1 refl tt
      (omega (arith, inside, ten-floats r.form e))))
      (next (there-fills (not (eqb r.form 0))
      (λ e.
      floats_fill l.floats has.floats (from r.base 16) 1 refl tt
      (omega (arith, inside, sixteen-floats r.form e))))
      (next (numbers-fill l.words has.words r.children 1 refl refl b.0)
      (next (id-fills r.mesh (word t node_words i 5) tt)
      (next (id-fills r.skin (word t node_words i 7) tt)
      (next (slot-fills l.node_weights has.node_weights r.weights 1 refl refl b.1)
      over))))))
      (base-one (eqb r.form 0) _ _ _ _ _ _)

  pub channel-fills : (i : ℕ) → Sound l table.Channels i
      → FormFills (kind_at 2) (channel_form l.floats (channel_row l.words l.header.channels i))
  unfolding kinds
  channel-fills i s =
      let t = l.header.channels in
      let r = channel_row l.words t i in
      let a = track-inside l.floats (track_for r) s.0 in
      let kind = is_known r.kind 2 in
      let interpolation = is_known r.interpolation 2 in
      let b = both (is_known r.property 3) (kind && interpolation) s.1 in
      let c = both kind interpolation b.1 in
      form-fills
      (next (one-fills (word t channel_words i 0) tt)
      (next (tag-fills r.property 0 tt)
      (next (tag-fills r.property 1 tt)
      (next (tag-fills r.property 2 tt)
      (next (tag-fills r.property 3 tt)
      (next (tag-fills r.interpolation 0 tt)
      (next (tag-fills r.interpolation 1 tt)
      (next (tag-fills r.interpolation 2 tt)
      (next (entries-fill l.floats has.floats r.keys 1 refl refl a.0)
      (next (values-fill l.floats has.floats r.kind 0 r.values refl refl a.1)
      (next (values-fill l.floats has.floats r.kind 1 r.values refl refl a.1)
      (next (values-fill l.floats has.floats r.kind 2 r.values refl refl a.1)
      over))))))))))))
      (channel-one l.floats r (leb-true r.property 3 b.0) (leb-true r.kind 2 c.0)
      (leb-true r.interpolation 2 c.1))

  pub mesh-fills : (i : ℕ) → Sound l table.Meshes i
      → FormFills (kind_at 3) (mesh_form l.mesh_weights (mesh_row l.words l.header.meshes.meshes i))
  unfolding kinds groups_hold present_in
  mesh-fills i s =
      let t = l.header.meshes.meshes in
      let r = mesh_row l.words t i in
      let primitives = fits_in r.primitives 1 l.header.meshes.primitives.count in
      let a = both primitives (fits_in r.weights 1 (length l.mesh_weights)) s.0 in
      form-fills
      (next (listed-fills r.primitives (word t mesh_words i 0) (word t mesh_words i 1) tt)
      (next (entries-fill l.mesh_weights has.mesh_weights r.weights 1 refl refl a.1)
      over))
      tt

  pub primitive-fills : (i : ℕ) → Sound l table.Primitives i
      → FormFills (kind_at 4)
      (primitive_form l.words l.floats (primitive_row l.words l.header.meshes.primitives i))
  unfolding kinds groups_hold present_in
  primitive-fills i s =
      let t = l.header.meshes.primitives in
      let r = primitive_row l.words t i in
      let n = length l.floats in
      let positions = fits_in r.positions 3 n in
      let normals = slot_fits r.normals 3 n in
      let tangents = slot_fits r.tangents 4 n in
      let joints = slot_fits r.joints 4 (length l.words) in
      let weights = slot_fits r.weights 4 n in
      let targets = fits_in r.targets 1 l.header.meshes.targets.count in
      let a = both (positions && (normals && tangents)) ((joints && weights) && targets) s.0 in
      let b = both positions (normals && tangents) a.0 in
      let c = both normals tangents b.1 in
      let d = both joints weights (both (joints && weights) targets a.1).0 in
      form-fills
      (next (entries-fill l.floats has.floats r.positions 3 refl refl b.0)
      (next (slot-fills l.floats has.floats r.normals 3 refl refl c.0)
      (next (slot-fills l.floats has.floats r.tangents 4 refl refl c.1)
      (next (joints-fill l.words has.words r.joints refl refl d.0)
      (next (slot-fills l.floats has.floats r.weights 4 refl refl d.1)
      (next (listed-fills r.targets (word t primitive_words i 14) (word t primitive_words i 15) tt)
      over))))))
      tt

  pub target-fills : (i : ℕ) → Sound l table.Targets i
      → FormFills (kind_at 5) (target_form l.floats (target_row l.words l.header.meshes.targets i))
  unfolding kinds groups_hold present_in
  target-fills i s =
      let t = l.header.meshes.targets in
      let r = target_row l.words t i in
      let n = length l.floats in
      let positions = slot_fits r.positions 3 n in
      let normals = slot_fits r.normals 3 n in
      let tangents = slot_fits r.tangents 3 n in
      let betweens = fits_in r.in_betweens 1 l.header.meshes.in_betweens.count in
      let a = both positions (normals && tangents) (both (positions && (normals && tangents)) betweens s.0).0 in
      let b = both normals tangents a.1 in
      form-fills
      (next (slot-fills l.floats has.floats r.positions 3 refl refl a.0)
      (next (slot-fills l.floats has.floats r.normals 3 refl refl b.0)
      (next (slot-fills l.floats has.floats r.tangents 3 refl refl b.1)
      (next (listed-fills r.in_betweens (word t target_words i 9) (word t target_words i 10) tt)
      over))))
      tt

  pub between-fills : (i : ℕ) → Sound l table.InBetweens i
      → FormFills (kind_at 6) (in_between_form l.floats (in_between_row l.words l.header.meshes.in_betweens i))
  unfolding kinds groups_hold present_in
  between-fills i s =
      let r = in_between_row l.words l.header.meshes.in_betweens i in
      let n = length l.floats in
      let weight = fits_in (from r.weight 1) 1 n in
      let positions = slot_fits r.positions 3 n in
      let normals = slot_fits r.normals 3 n in
      let a = both weight (positions && normals) s.0 in
      let b = both positions normals a.1 in
      form-fills
      (next (floats_fill l.floats has.floats (from r.weight 1) 1 refl tt (leb-true (r.weight + 1) n a.0))
      (next (slot-fills l.floats has.floats r.positions 3 refl refl b.0)
      (next (slot-fills l.floats has.floats r.normals 3 refl refl b.1)
      over)))
      tt

  pub skin-fills : (i : ℕ) → FormFills (kind_at 7) (skin_form (skin_row l.words l.header.skins.skins i))
  unfolding kinds groups_hold present_in
  skin-fills i =
      let t = l.header.skins.skins in
      form-fills
      (next (one-fills (word t skin_words i 0) tt)
      (next (id-fills (skin_row l.words t i).root (word t skin_words i 2) tt)
      over))
      tt

  pub skeleton-fills : (i : ℕ) → Sound l table.Skeletons i
      → FormFills (kind_at 8)
      (skeleton_form l.words l.floats (skeleton_row l.words l.header.skins.skeletons i))
  unfolding kinds groups_hold present_in
  skeleton-fills i s =
      let r = skeleton_row l.words l.header.skins.skeletons i in
      let joints = fits_in r.joints 1 (length l.words) in
      let a = both joints (fits_in r.inverse_binds 16 (length l.floats)) s.0 in
      form-fills
      (next (numbers-fill l.words has.words r.joints 1 refl refl a.0)
      (next (entries-fill l.floats has.floats r.inverse_binds 16 refl refl a.1)
      over))
      tt
