-- A record that stands in the tables of a document says what its form says. Assumes nothing.
use mathlib.Core.Path.{◌≡◌, refl, sym, ap, subst, ◌∙◌}
use mathlib.Core.Bool.{Bool, true, false, not}
use mathlib.Core.List.{List, [], ◌∷◌, ◌++◌}
use mathlib.Core.Option.{none, some}
use Prim.Native.Nat.{ℕ, zero, suc, ◌+◌, ◌*◌, ◌≤◌, ◌<◌}
use native.Mathlib.Nat.{mul-one, add-zero, mod-eq_of_lt}
use native.Mathlib.Omega.{arith}
use borrow.Author.Tests.{le-leb, eqb-true, eq-eqb}
use lib.Dec.{eqb, eqb→eq, leb, lit<, lit≤, eqb-suc-zero, eqb-suc-suc}
use lib.Ieee.{Float, binary32, of_bits, to_bits}
use lib.Ieee.Bits.{of_bits-to_bits, of_bits-fits}
use lib.ListN.{length, get_or, take, drop, replicate, length-map, length-take, length-drop}
use lib.Seq.{take-nil, drop-nil, get_or-take, get_or-drop}
use Rattle.float.specs.F32.{zero32}
use Rattle.model.specs.Lists.{pick, tabulate, part, rows_in, is_some, map_some}
use Rattle.model.specs.Sampling.{width}
use Rattle.model.specs.Transform.{parts, matrix}
use Rattle.model.proofs.Rowwise.{tabulate-alike}
use Rattle.scene.specs.Slots.{matrix_in}
use Rattle.tracks.specs.declared.Part.{Part}
use Rattle.tracks.specs.Values.{kind_of, interpolation_of}
use Rattle.tables.specs.declared.Reference.{Reference}
use Rattle.tables.specs.declared.Slot.{Slot}
use Rattle.tables.specs.declared.NodeRow.{NodeRow}
use Rattle.tables.specs.declared.ChannelRow.{ChannelRow}
use Rattle.tables.specs.declared.MeshRow.{MeshRow}
use Rattle.tables.specs.declared.PrimitiveRow.{PrimitiveRow}
use Rattle.tables.specs.declared.TargetRow.{TargetRow}
use Rattle.tables.specs.declared.InBetweenRow.{InBetweenRow}
use Rattle.tables.specs.declared.SkinRow.{SkinRow}
use Rattle.tables.specs.declared.SkeletonRow.{SkeletonRow}
use Rattle.tables.specs.Records.{primitive_row, target_row, in_between_row}
use Rattle.tracks.specs.Codes.{kind_for, interpolation_for}
use Rattle.tables.specs.Tags.{is_marked, property_for, id_of}
use Rattle.tables.specs.Decoded.{Lent, span_in, slot_in, ten_in, parts_from, node_of, channel_of, in_between_of}
use Rattle.tables.specs.Decoded.{records_in, target_of, primitive_of, mesh_of, skin_of, skeleton_of}
use Rattle.grammar.specs.Forms.{Field, Form, Document}
use Rattle.scene_marks.specs.Marks.{chosen}
use Rattle.scene_forms.specs.declared.Counts.{Counts}
use Rattle.scene_forms.specs.Filled.{reals_of}
use Rattle.scene_forms.specs.Laid.{items_of, field_at, item_of, marks_of}
use Rattle.scene_forms.specs.Said.{forms_of, count_of}
use Rattle.scene_spelling.specs.Written.{bits_of, listed, there, tag_field, id_field, values_field}
use Rattle.scene_spelling.specs.Written.{slot_field, floats_field, node_form, channel_form, mesh_form, primitive_form}
use Rattle.scene_spelling.specs.Written.{target_form, in_between_form, skin_form, skeleton_form}
use Rattle.scene_round.specs.Meaning.{node_from, track_from, in_between_from, target_from, primitive_from, mesh_from}
use Rattle.scene_round.specs.Meaning.{skin_from, skeleton_from}
use Rattle.scene_round.proofs.Placed.{form_of}
use Rattle.scene_round.proofs.Groups.{chosen-few}
use Rattle.scene_round.proofs.Fields.{cut, FormIn, told, grouped}

-- ---- floats by their bits

-- a part of l that has the bits of that part of m is the floats of these bits
abbrev pub Shows : List Float → List Float → Type 0
Shows l m = (at n : ℕ) → bits_of (part l at n) ≡ bits_of (part m at n) → part l at n ≡ reals_of (bits_of (part l at n))

none-exact : (l : List Float) → length l ≡ 0 → l ≡ reals_of (bits_of l)
none-exact [] e = refl
none-exact (x ∷ l) e = absurd (omega arith)

-- a part of the front, as long as it is where nothing stands behind, is the floats of its bits
front-exact : (xs : List ℕ) (more : List Float) (at n : ℕ)
    → length (part (reals_of xs ++ more) at n) ≡ length (part (reals_of xs ++ []) at n)
    → part (reals_of xs ++ more) at n ≡ reals_of (bits_of (part (reals_of xs ++ more) at n))
front-exact [] more at n e =
    none-exact (part more at n) (e ∙ ap (λ (l : List Float). length (take n l)) (drop-nil at) ∙ ap length (take-nil n))
front-exact (x ∷ xs) more zero zero e = refl
front-exact (x ∷ xs) more zero (suc n) e =
    λ t.
    sym (of_bits-to_bits binary32 (of_bits binary32 x) (of_bits-fits binary32 x)) t
    ∷ front-exact xs more zero n (omega arith) t
front-exact (x ∷ xs) more (suc at) n e = front-exact xs more at n e

pub front-shows : (xs : List ℕ) (more : List Float) → Shows (reals_of xs ++ more) (reals_of xs ++ [])
front-shows xs more at n e =
    front-exact xs more at n
    (sym (length-map (part (reals_of xs ++ more) at n) (to_bits binary32))
    ∙ ap length e
    ∙ length-map (part (reals_of xs ++ []) at n) (to_bits binary32))

-- a part that has all its entries lies in the list
lies_in : (l : List Float) (at n : ℕ) → 0 < n → length (bits_of (part l at n)) ≡ n → leb (at + n) (length l) ≡ true
lies_in l at n z e =
    le-leb (at + n) (length l)
    (omega (arith, length-map (part l at n) (to_bits binary32), length-take n (drop at l), length-drop at l))

-- ---- fields

in-slot : (j : ℕ) {f g : Form} → f ≡ g → field_at f j ≡ field_at g j
in-slot j e = ap (λ (f : Form). field_at f j) e

numbers-said : {A : Type 0} (h : List ℕ → A) (b : Bool) (xs : List ℕ)
    → pick b (some (h xs)) none ≡ map_some h (there b xs)
numbers-said h true xs = refl
numbers-said h false xs = refl

id-said : (r : Reference) → id_of r ≡ map_some (λ (xs : List ℕ). get_or xs 0 0) (id_field r)
id-said r = numbers-said (λ (xs : List ℕ). get_or xs 0 0) (is_marked r.mark) (r.id ∷ [])

marked-is : (n : ℕ) → is_marked n ≡ not (eqb n 0)
marked-is zero = refl
marked-is (suc n) = ap not (sym (eqb-suc-zero n))

module _ {l m : List Float} (s : Shows l m) where
  floats-said : {A : Type 0} (h : List Float → A) (b : Bool) (at n : ℕ)
      → there b (bits_of (part l at n)) ≡ there b (bits_of (part m at n))
      → pick b (some (h (part l at n))) none
      ≡ map_some (λ (xs : List ℕ). h (reals_of xs)) (there b (bits_of (part l at n)))
  floats-said h true at n e = ap (λ (v : List Float). some (h v)) (s at n (ap items_of e))
  floats-said h false at n e = refl

  -- a base transform: ten floats, or sixteen
  base-said : (b : Bool) (base : ℕ) → let p = there b (bits_of (part l base 10)) in
      let q = there (not b) (bits_of (part l base 16)) in
      p ≡ there b (bits_of (part m base 10)) → q ≡ there (not b) (bits_of (part m base 16))
      → ((xs : List ℕ) → p ≡ some xs → length xs ≡ 10) → ((xs : List ℕ) → q ≡ some xs → length xs ≡ 16)
      → pick (not b) (matrix (matrix_in l base)) (parts (parts_from (ten_in l base)))
      ≡ pick (is_some q) (matrix (reals_of (items_of q))) (parts (parts_from (reals_of (items_of p))))
  unfolding matrix_in ten_in
  base-said true base e g ten sixteen =
      ap (λ (b : Bool). parts (parts_from (pick b (part l base 10) (replicate 10 zero32))))
      (lies_in l base 10 (lit< tt) (ten (bits_of (part l base 10)) refl))
      ∙ ap (λ (v : List Float). parts (parts_from v)) (s base 10 (ap items_of e))
  base-said false base e g ten sixteen =
      ap (λ (b : Bool). matrix (pick b (part l base 16) (replicate 16 zero32)))
      (lies_in l base 16 (lit< tt) (sixteen (bits_of (part l base 16)) refl))
      ∙ ap matrix (s base 16 (ap items_of g))

-- ---- tags

-- a choice by which of the fields of a tag is there
of_three : {A : Type 0} (g : ℕ → A) → ((n : ℕ) → g (suc (suc n)) ≡ g 2) → (n : ℕ) (x y : List ℕ)
    → g n ≡ pick (is_some (there (eqb n 0) x)) (g 0) (pick (is_some (there (eqb n 1) y)) (g 1) (g 2))
of_three g e zero x y = refl
of_three g e (suc zero) x y = refl
of_three g e (suc (suc n)) x y = simp (eqb-suc-suc (suc n) 0, eqb-suc-zero) (e n)

of_four : {A : Type 0} (g : ℕ → A) → ((n : ℕ) → g (suc (suc (suc n))) ≡ g 3) → (n : ℕ)
    → g n
    ≡ pick (is_some (tag_field n 0)) (g 0)
    (pick (is_some (tag_field n 1)) (g 1) (pick (is_some (tag_field n 2)) (g 2) (g 3)))
of_four g e zero = refl
of_four g e (suc n) =
    simp (eqb-suc-suc n 0, eqb-suc-suc n 1, eqb-suc-zero) (of_three (λ i. g (suc i)) e n [] [])

some-there : (b : Bool) (xs : List ℕ) → is_some (there b xs) ≡ b
some-there true xs = refl
some-there false xs = refl

-- ---- values

-- those of kind o, in slot 9 + o
abbrev values_of : List Float → ChannelRow → ℕ → Field
values_of floats r o = values_field floats r.kind r.values o (width (kind_of (kind_for o)))

values-at : (floats : List Float) (r : ChannelRow) (o : ℕ) → o ≤ 2
    → values_of floats r o ≡ field_at (channel_form floats r) (9 + o)
values-at floats r zero h = refl
values-at floats r (suc zero) h = refl
values-at floats r (suc (suc zero)) h = refl
values-at floats r (suc (suc (suc o))) h = absurd (omega arith)

-- one of the three is there, so the kind is one of three
known-kind : {l : Lent} {f : Form} {c : Counts} → FormIn l 2 f c → (floats : List Float) (r : ChannelRow)
    → channel_form floats r ≡ f → r.kind ≤ 2
known-kind {f = f} {c = c} q floats r e =
    let n = r.kind in
    let m = chosen (marks_of 2 f c) 9 2 in
    let few : m ≤ 2 = chosen-few (marks_of 2 f c) 9 2 in
    let near : m < 0x1_0000_0000 = omega arith in
    let items : ℕ → List ℕ = λ o. items_of (field_at f (9 + o)) in
    let here = grouped q 9 2 m (lit< tt) refl few (lit< tt) items (λ ys p. ap items_of p) in
    let same : eqb n m ≡ true =
    sym (some-there (eqb n m) _)
    ∙ ap is_some (values-at floats r m few ∙ in-slot (9 + m) e ∙ sym here)
    ∙ some-there (eqb (cut m) m) (items m)
    ∙ eq-eqb (cut m) m (mod-eq_of_lt near) in
    omega (arith, eqb-true n m same)

values-said : {l m : List Float} → Shows l m → (kind : ℕ) (p : Part) → kind ≤ 2
    → ((o : ℕ) → o ≤ 2 → let w = width (kind_of (kind_for o)) in values_field l kind p o w ≡ values_field m kind p o w)
    → let x = values_field l kind p 0 3 in
    let y = values_field l kind p 1 4 in
    let z = values_field l kind p 2 1 in
    part l p.at (p.count * width (kind_of (kind_for kind)))
    ≡ pick (is_some x) (reals_of (items_of x)) (pick (is_some y) (reals_of (items_of y)) (reals_of (items_of z)))
values-said s zero p h e = s p.at (p.count * 3) (ap items_of (e 0 (lit≤ tt)))
values-said s (suc zero) p h e = s p.at (p.count * 4) (ap items_of (e 1 (lit≤ tt)))
values-said s (suc (suc zero)) p h e = s p.at (p.count * 1) (ap items_of (e 2 (lit≤ tt)))
values-said s (suc (suc (suc n))) p h e = absurd (omega arith)

-- ---- records

-- the records that a field of two numbers names, in a table that has them
list-said : {A : Type 0} {h : ℕ → A} (g : Form → A) (fs : List Form) (p : Part) {x : Field} → listed p ≡ x
    → get_or (items_of x) 0 0 + get_or (items_of x) 1 0 ≤ length fs → ((i : ℕ) → i < length fs → h i ≡ g (get_or fs i []))
    → records_in h p ≡ tabulate p.count (λ i. g (get_or fs (p.at + i) []))
list-said g fs p e within entries =
    let inside : p.at + p.count ≤ length fs =
    subst (λ (x : Field). get_or (items_of x) 0 0 + get_or (items_of x) 1 0 ≤ length fs) (sym e) within in
    tabulate-alike p.count _ _ (λ i b. entries (p.at + i) (omega arith))

-- two lent scenes, slice by slice
pub record Shown (l m : Lent) : Type 0 where
  pub floats : Shows l.floats m.floats
  pub node_weights : Shows l.node_weights m.node_weights
  pub mesh_weights : Shows l.mesh_weights m.mesh_weights

module _ {l m : Lent} (s : Shown l m) where
  pub node-said : (r : NodeRow) {f : Form} {c : Counts} → FormIn l 1 f c
      → node_form l.words l.floats l.node_weights r ≡ f
      → node_form l.words m.floats m.node_weights r ≡ f → node_of l r ≡ node_from f
  node-said r q e g =
      let same = e ∙ sym g in
      let base = r.base in
      let sixteen = matrix (matrix_in l.floats base) in
      let ten = parts (parts_from (ten_in l.floats base)) in
      let weights = r.weights.part in
      (λ t. record {
        base = (ap (λ (b : Bool). pick b sixteen ten) (marked-is r.form)
            ∙ base-said s.floats (eqb r.form 0) base (in-slot 0 same) (in-slot 1 same)
            (λ xs p. eqb→eq (length xs) 10 (told q 0 xs (sym (in-slot 0 e) ∙ p)).sizes)
            (λ xs p. eqb→eq (length xs) 16 (told q 1 xs (sym (in-slot 1 e) ∙ p)).sizes)) t;
        children = span_in l.words r.children 1;
        mesh = id-said r.mesh t;
        skin = id-said r.skin t;
        weights = floats-said s.node_weights (λ v. v) (is_marked r.weights.mark) weights.at
            (weights.count * 1) (in-slot 5 same) t;
      })
      ∙ ap node_from e

  pub channel-said : (r : ChannelRow) {f : Form} {c : Counts} → FormIn l 2 f c → channel_form l.floats r ≡ f
      → channel_form m.floats r ≡ f → channel_of l r ≡ track_from f
  channel-said r q e g =
      let same = e ∙ sym g in
      let keys = r.keys in
      (λ t. record {
        target = r.target;
        property = of_four property_for (λ n. refl) r.property t;
        kind = of_three (λ n. kind_of (kind_for n)) (λ n. refl) r.kind (bits_of (span_in l.floats r.values 3))
            (bits_of (span_in l.floats r.values 4)) t;
        interpolation = of_three (λ n. interpolation_of (interpolation_for n)) (λ n. refl) r.interpolation [] [] t;
        keys = (ap (part l.floats keys.at) (sym (mul-one keys.count))
            ∙ s.floats keys.at (keys.count * 1) (ap items_of (in-slot 8 same))) t;
        values = values-said s.floats r.kind r.values (known-kind q l.floats r e)
            (λ o h. values-at l.floats r o h ∙ in-slot (9 + o) same ∙ sym (values-at m.floats r o h)) t;
      })
      ∙ ap track_from e

  slot-said : (p : Slot) (w : ℕ) → slot_field l.floats p w ≡ slot_field m.floats p w
      → slot_in l.floats p w ≡ map_some (λ (xs : List ℕ). rows_in w (reals_of xs)) (slot_field l.floats p w)
  slot-said p w e =
      floats-said s.floats (rows_in w) (is_marked p.mark) p.part.at (p.part.count * w) e

  rows-said : (p : Part) (w : ℕ) → floats_field l.floats p w ≡ floats_field m.floats p w
      → rows_in w (span_in l.floats p w) ≡ rows_in w (reals_of (bits_of (span_in l.floats p w)))
  rows-said p w e = ap (rows_in w) (s.floats p.at (p.count * w) (ap items_of e))

  pub between-said : (r : InBetweenRow) {f : Form} → in_between_form l.floats r ≡ f
      → in_between_form m.floats r ≡ f → in_between_of l r ≡ in_between_from f
  between-said r e g =
      let same = e ∙ sym g in
      (λ t. record {
        weight = (ap (λ (i : ℕ). get_or l.floats i zero32) (sym (add-zero r.weight))
            ∙ sym (get_or-drop r.weight l.floats 0 zero32)
            ∙ sym (get_or-take 1 (drop r.weight l.floats) 0 zero32 (lit< tt))
            ∙ ap (λ (v : List Float). get_or v 0 zero32) (s.floats r.weight 1 (ap items_of (in-slot 0 same)))) t;
        positions = slot-said r.positions 3 (in-slot 1 same) t;
        normals = slot-said r.normals 3 (in-slot 2 same) t;
      })
      ∙ ap in_between_from e

  pub skeleton-said : (r : SkeletonRow) {f : Form} → skeleton_form l.words l.floats r ≡ f
      → skeleton_form l.words m.floats r ≡ f → skeleton_of l r ≡ skeleton_from f
  skeleton-said r e g =
      (λ t. record {
        joints = span_in l.words r.joints 1;
        inverse_binds = rows-said r.inverse_binds 16 (in-slot 1 (e ∙ sym g)) t;
      })
      ∙ ap skeleton_from e

  module _ (d : Document) where
    pub target-said : (r : TargetRow) {f : Form} → target_form l.floats r ≡ f → target_form m.floats r ≡ f
        → item_of f 3 0 + item_of f 3 1 ≤ count_of d 6
        → ((i : ℕ) → i < count_of d 6 → in_between_of l (in_between_row l.words l.header.meshes.in_betweens i)
        ≡ in_between_from (form_of d 6 i))
        → target_of l r ≡ target_from d f
    target-said r e g within entries =
        let same = e ∙ sym g in
        (λ t. record {
          positions = slot-said r.positions 3 (in-slot 0 same) t;
          normals = slot-said r.normals 3 (in-slot 1 same) t;
          tangents = slot-said r.tangents 3 (in-slot 2 same) t;
          in_betweens = list-said in_between_from (forms_of d 6) r.in_betweens (in-slot 3 e) within entries t;
        })
        ∙ ap (target_from d) e

    pub primitive-said : (r : PrimitiveRow) {f : Form} → primitive_form l.words l.floats r ≡ f
        → primitive_form l.words m.floats r ≡ f → item_of f 5 0 + item_of f 5 1 ≤ count_of d 5
        → ((i : ℕ) → i < count_of d 5
        → target_of l (target_row l.words l.header.meshes.targets i) ≡ target_from d (form_of d 5 i))
        → primitive_of l r ≡ primitive_from d f
    primitive-said r e g within entries =
        let same = e ∙ sym g in
        let joints = r.joints in
        (λ t. record {
          positions = rows-said r.positions 3 (in-slot 0 same) t;
          normals = slot-said r.normals 3 (in-slot 1 same) t;
          tangents = slot-said r.tangents 4 (in-slot 2 same) t;
          joints = numbers-said (rows_in 4) (is_marked joints.mark) (span_in l.words joints.part 4) t;
          weights = slot-said r.weights 4 (in-slot 4 same) t;
          targets = list-said (target_from d) (forms_of d 5) r.targets (in-slot 5 e) within entries t;
        })
        ∙ ap (primitive_from d) e

    pub mesh-said : (r : MeshRow) {f : Form} → mesh_form l.mesh_weights r ≡ f → mesh_form m.mesh_weights r ≡ f
        → item_of f 0 0 + item_of f 0 1 ≤ count_of d 4
        → ((i : ℕ) → i < count_of d 4
        → primitive_of l (primitive_row l.words l.header.meshes.primitives i) ≡ primitive_from d (form_of d 4 i))
        → mesh_of l r ≡ mesh_from d f
    mesh-said r e g within entries =
        let weights = r.weights in
        (λ t. record {
          primitives = list-said (primitive_from d) (forms_of d 4) r.primitives (in-slot 0 e) within entries t;
          weights = s.mesh_weights weights.at (weights.count * 1) (ap items_of (in-slot 1 (e ∙ sym g))) t;
        })
        ∙ ap (mesh_from d) e

pub skin-said : (r : SkinRow) {f : Form} → skin_form r ≡ f → skin_of r ≡ skin_from f
skin-said r e = (λ t. record { skeleton = r.skeleton; root = id-said r.root t }) ∙ ap skin_from e
