-- The document of a lent scene that draws neither 1 nor 2 fits the schema and is what its text says. Assumes nothing.
use mathlib.Core.Path.{◌≡◌, refl}
use mathlib.Core.Bool.{true, false, ◌&&◌, ◌||◌, not}
use mathlib.Core.List.{List, [], ◌∷◌}
use mathlib.Core.Option.{some}
use Prim.Native.Nat.{ℕ, zero, suc, ◌+◌, ◌*◌, ◌≤◌, ◌<◌}
use native.Mathlib.Omega.{arith}
use borrow.Author.Tests.{leb-true, le-ltb}
use lib.Dec.{T, eqb, ltb}
use lib.Ieee.{Float, binary32, fits}
use lib.Ieee.Bits.{of_bits-to_bits}
use lib.ListN.{length}
use Rattle.model.specs.Lists.{every, tabulate}
use Rattle.model.proofs.ListLaws.{length-tabulate}
use Rattle.model.proofs.Tests.{both}
use Rattle.tracks.specs.declared.Part.{Part}
use Rattle.tables.specs.Records.{mesh_row, primitive_row, target_row}
use Rattle.tables.specs.Decoded.{Lent}
use Rattle.row_checks.specs.Places.{fits_in, slot_fits}
use Rattle.checks.specs.declared.Table.TheVariants as table
use Rattle.checks.specs.Checked.{Sound, Checked}
use Rattle.grammar.specs.Forms.{Kind, Form, Document, FitsKind, FitsKinds, document_text}
use Rattle.grammar.specs.Shape.{form_holds, kind_holds, holds}
use Rattle.grammar.specs.Parsed.{reading_of}
use Rattle.grammar.proofs.Words.{and-of}
use Rattle.grammar.proofs.Back.{reading-found}
use Rattle.scene_schema.specs.Schema.{kinds}
use Rattle.scene_schema.proofs.Numbers.{kinds-readable}
use Rattle.scene_forms.specs.Filled.{list_slot}
use Rattle.scene_forms.specs.Laid.{item_of, reach_of}
use Rattle.scene_forms.specs.Said.{count_of, forms_of, node_of, time_of, leaves}
use Rattle.scene_spelling.specs.Written.{document_of}
use Rattle.scene_round.proofs.Filling.{Lent32}
use Rattle.scene_round.proofs.FormsFill.{FormFills, scene-fills, node-fills, channel-fills, mesh-fills}
use Rattle.scene_round.proofs.FormsFill.{primitive-fills, target-fills, between-fills, skin-fills}
use Rattle.scene_round.proofs.FormsFill.{skeleton-fills}

-- ---- a document, kind by kind

record FormsFill (k : Kind) (fs : List Form) : Type 0 where
  fits : FitsKind k fs
  hold : T (every (form_holds k) fs)

no-form : {k : Kind} → FormsFill k []
unfolding every
no-form = record { fits = tt; hold = tt }

next-form : {k : Kind} {f : Form} {fs : List Form} → FormFills k f → FormsFill k fs → FormsFill k (f ∷ fs)
unfolding every
next-form {k} {f} {fs} h r = record {
  fits = (h.fits, r.fits);
  hold = and-of (form_holds k f) (every (form_holds k) fs) h.shaped r.hold;
}

each-form : {k : Kind} (n : ℕ) (g : ℕ → Form) → ((i : ℕ) → i < n → FormFills k (g i)) → FormsFill k (tabulate n g)
unfolding tabulate
each-form zero g h = no-form
each-form (suc n) g h = next-form (h 0 (omega arith)) (each-form n (λ i. g (suc i)) (λ i l. h (suc i) (omega arith)))

record KindsFill (ks : List Kind) (d : Document) : Type 0 where
  fits : FitsKinds ks d
  hold : T (holds ks d)

over : KindsFill [] []
unfolding holds
over = record { fits = tt; hold = tt }

next : {k : Kind} {ks : List Kind} {fs : List Form} {d : Document} → FormsFill k fs
    → T (not k.single || eqb (length fs) 1) → KindsFill ks d → KindsFill (k ∷ ks) (fs ∷ d)
unfolding holds
next {k} {ks} {fs} {d} h one r = record {
  fits = (h.fits, r.fits);
  hold =
      and-of (kind_holds k fs) (holds ks d)
      (and-of (every (form_holds k) fs) (not k.single || eqb (length fs) 1) h.hold one) r.hold;
}

-- ---- lists of records

reach-within : (k n m : ℕ) (g : ℕ → Form)
    → ((i : ℕ) → i < n → item_of (g i) (list_slot k) 0 + item_of (g i) (list_slot k) 1 ≤ m) → reach_of k (tabulate n g) ≤ m
unfolding reach_of tabulate
reach-within k zero m g h = omega arith
reach-within k (suc n) m g h =
    omega (arith, h 0 (omega arith), reach-within k n m (λ i. g (suc i)) (λ i l. h (suc i) (omega arith)))

none-leaves : (k n m : ℕ) (g f : ℕ → Form)
    → ((i : ℕ) → i < n → item_of (g i) (list_slot k) 0 + item_of (g i) (list_slot k) 1 ≤ m)
    → ltb (length (tabulate m f)) (reach_of k (tabulate n g)) ≡ false
none-leaves k n m g f h =
    le-ltb (length (tabulate m f)) (reach_of k (tabulate n g))
    (omega (arith, length-tabulate m f, reach-within k n m g h))

list_inside : (p : Part) (m : ℕ) → fits_in p 1 m ≡ true → p.at + p.count ≤ m
list_inside p m h = omega (arith, leb-true (p.at + p.count * 1) m h)

module _ (l : Lent) where
  primitives-inside : (i : ℕ) → Sound l table.Meshes i
      → let p = (mesh_row l.words l.header.meshes.meshes i).primitives in
      p.at + p.count ≤ l.header.meshes.primitives.count
  primitives-inside i s =
      let r = mesh_row l.words l.header.meshes.meshes i in
      let m = l.header.meshes.primitives.count in
      list_inside r.primitives m
      (both (fits_in r.primitives 1 m) (fits_in r.weights 1 (length l.mesh_weights)) s.0).0

  targets-inside : (i : ℕ) → Sound l table.Primitives i
      → let p = (primitive_row l.words l.header.meshes.primitives i).targets in
      p.at + p.count ≤ l.header.meshes.targets.count
  targets-inside i s =
      let r = primitive_row l.words l.header.meshes.primitives i in
      let n = length l.floats in
      let m = l.header.meshes.targets.count in
      let shape = fits_in r.positions 3 n && (slot_fits r.normals 3 n && slot_fits r.tangents 4 n) in
      let skin = slot_fits r.joints 4 (length l.words) && slot_fits r.weights 4 n in
      let targets = fits_in r.targets 1 m in
      list_inside r.targets m (both skin targets (both shape (skin && targets) s.0).1).1

  betweens-inside : (i : ℕ) → Sound l table.Targets i
      → let p = (target_row l.words l.header.meshes.targets i).in_betweens in
      p.at + p.count ≤ l.header.meshes.in_betweens.count
  betweens-inside i s =
      let r = target_row l.words l.header.meshes.targets i in
      let n = length l.floats in
      let m = l.header.meshes.in_betweens.count in
      let shape = slot_fits r.positions 3 n && (slot_fits r.normals 3 n && slot_fits r.tangents 3 n) in
      list_inside r.in_betweens m (both shape (fits_in r.in_betweens 1 m) s.0).1

pub document-listed : (l : Lent) → Checked l → (node : ℕ) (time : Float) → leaves (document_of l node time) ≡ false
unfolding document_of
document-listed l checked node time =
    let d = document_of l node time in
    let h = l.header.meshes in
    let meshes : ltb (count_of d 4) (reach_of 3 (forms_of d 3)) ≡ false =
    none-leaves 3 h.meshes.count h.primitives.count _ _
    (λ i b. primitives-inside l i (checked.records table.Meshes i b)) in
    let primitives : ltb (count_of d 5) (reach_of 4 (forms_of d 4)) ≡ false =
    none-leaves 4 h.primitives.count h.targets.count _ _
    (λ i b. targets-inside l i (checked.records table.Primitives i b)) in
    let targets : ltb (count_of d 6) (reach_of 5 (forms_of d 5)) ≡ false =
    none-leaves 5 h.targets.count h.in_betweens.count _ _
    (λ i b. betweens-inside l i (checked.records table.Targets i b)) in
    λ t. meshes t || (primitives t || targets t)

-- ---- what is asked for

pub node-asked : (l : Lent) (node : ℕ) (time : Float) → node_of (document_of l node time) ≡ node
unfolding document_of
node-asked l node time = refl

pub time-asked : (l : Lent) (node : ℕ) (time : Float) → T (fits binary32 time)
    → time_of (document_of l node time) ≡ time
unfolding document_of
time-asked l node time h = of_bits-to_bits binary32 time h

-- ---- the whole

module _ (l : Lent) (checked : Checked l) (has : Lent32 l) (node : ℕ) (time : Float) (low : node < 0x1_0000_0000)
    (held : T (fits binary32 time)) where
  document-fills : KindsFill kinds (document_of l node time)
  unfolding kinds document_of
  document-fills =
      let h = l.header in
      next (next-form (scene-fills l has node time low held checked.roots) no-form) tt
      (next (each-form h.graph.nodes.count _ (λ i b. node-fills l has i (checked.records table.Nodes i b))) tt
      (next (each-form h.channels.count _ (λ i b. channel-fills l has i (checked.records table.Channels i b))) tt
      (next (each-form h.meshes.meshes.count _ (λ i b. mesh-fills l has i (checked.records table.Meshes i b))) tt
      (next
      (each-form h.meshes.primitives.count _
      (λ i b. primitive-fills l has i (checked.records table.Primitives i b))) tt
      (next
      (each-form h.meshes.targets.count _ (λ i b. target-fills l has i (checked.records table.Targets i b))) tt
      (next
      (each-form h.meshes.in_betweens.count _
      (λ i b. between-fills l has i (checked.records table.InBetweens i b))) tt
      (next (each-form h.skins.skins.count _ (λ i b. skin-fills l has i)) tt
      (next
      (each-form h.skins.skeletons.count _
      (λ i b. skeleton-fills l has i (checked.records table.Skeletons i b))) tt
      over))))))))

  pub document-fits : FitsKinds kinds (document_of l node time)
  document-fits = document-fills.fits

  pub document-holds : T (holds kinds (document_of l node time))
  document-holds = document-fills.hold

  pub document-spelled : let d = document_of l node time in reading_of kinds (document_text kinds d) ≡ some d
  document-spelled =
      let d = document_of l node time in
      reading-found kinds kinds-readable (document_text kinds d) d
      (record { fits = document-fits; shaped = document-holds; spelled = refl })
