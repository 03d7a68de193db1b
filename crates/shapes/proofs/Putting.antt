-- Primitives put out one after the other. Assumes nothing.
use mathlib.Core.Path.{◌≡◌, refl, sym, ap, ◌∙◌}
use mathlib.Core.Bool.{Bool, true, false}
use mathlib.Core.List.{List, [], ◌∷◌, ◌++◌, map, append-nil, append_assoc}
use mathlib.Core.Option.{Option}
use Prim.Native.Nat.{ℕ, zero, suc, ◌+◌, ◌-◌, ◌*◌, ◌/◌, ◌≤◌, ◌<◌}
use native.Mathlib.Nat.{zero-mul}
use native.Mathlib.Numerals.{add-one}
use native.Mathlib.Omega.{arith}
use borrow.Author.Tests.{leb-true}
use lib.Ieee.{Float}
use lib.ListN.{length, take, drop, length-append, length-take, length-drop, drop_of_length-le}
use lib.Seq.{paste, take_at, drop_at, drop-drop, take_all}
use Rattle.model.specs.Lists.{pick, joined, tabulate}
use Rattle.model.specs.Vector.{Vector}
use Rattle.model.specs.Matrix.{Matrix}
use Rattle.model.specs.Vertices.{Shape}
use Rattle.model.specs.Attributes.{over_rows, Reshaped}
use Rattle.model.specs.Bake.{baked_primitive, written}
use Rattle.model.proofs.RowLaws.{flat, flat-length}
use Rattle.model.proofs.Rowwise.{tabulate-more, map-tabulate}
use Rattle.tracks.specs.declared.Part.{Part}
use Rattle.tables.specs.declared.Slot.{Slot}
use Rattle.tables.specs.declared.PrimitiveRow.{PrimitiveRow}
use Rattle.tables.specs.Tags.{is_marked}
use Rattle.tables.specs.Decoded.{Lent, span_in, primitive_of}
use Rattle.row_checks.specs.Places.{fits_in, slot_fits}
use Rattle.checks.specs.Drawn.{sum_below}
use Rattle.shapes.specs.declared.Lengths.{Lengths}
use Rattle.shapes.specs.Rest.{slot_floats, Sized, slot_count, row_lengths, RowFits, PutAt}
use Rattle.shapes.proofs.Baking.{baked-rowed}

-- ---- attributes that lie in the floats
pub span-length : {A : Type 0} (l : List A) (p : Part) (w : ℕ) → fits_in p w (length l) ≡ true → length (span_in l p w) ≡ p.count * w
span-length l p w h = omega (arith, length-take (p.count * w) (drop p.at l), length-drop p.at l, leb-true (p.at + p.count * w) (length l) h)

pub slot-length : (l : List Float) (s : Slot) (w : ℕ) → slot_fits s w (length l) ≡ true → length (slot_floats l s w) ≡ slot_count s * w
slot-length l s w h = go (is_marked s.mark) h
  where
    go : (b : Bool) → pick b (fits_in s.part w (length l)) true ≡ true → length (pick b (span_in l s.part w) []) ≡ pick b s.part.count 0 * w
    go true h = span-length l s.part w h
    go false h = sym (zero-mul w)

module _ (floats : List Float) (r : PrimitiveRow) (h : RowFits floats r) where
  -- slices of as many floats
  pub sized : (p n t : List Float) → length p ≡ (row_lengths r).positions → length n ≡ (row_lengths r).normals → length t ≡ (row_lengths r).tangents → Sized floats r p n t
  sized p n t a b c = record {
    positions = a ∙ sym (span-length floats r.positions 3 h.positions);
    normals = b ∙ sym (slot-length floats r.normals 3 h.normals);
    tangents = c ∙ sym (slot-length floats r.tangents 4 h.tangents);
  }

-- ---- one primitive
all-rows3 : (rows : List Vector) (l : List Float) (n : ℕ) → length l ≡ n * 3 → over_rows 3 rows l ≡ flat rows
all-rows3 rows l n e = ap (λ (d : List Float). flat rows ++ d) (drop_of_length-le l {i = length l / 3 * 3} (omega (arith, e))) ∙ append-nil (flat rows)

all-rows4 : (rows : List Vector) (l : List Float) (n : ℕ) → length l ≡ n * 4 → over_rows 4 rows l ≡ flat rows
all-rows4 rows l n e = ap (λ (d : List Float). flat rows ++ d) (drop_of_length-le l {i = length l / 4 * 4} (omega (arith, e))) ∙ append-nil (flat rows)

-- a part of a slice, and the slice once that part is written
pub part_length : (l : List Float) (a n : ℕ) → a + n ≤ length l → length (take (a + n - a) (drop a l)) ≡ n
part_length l a n h = omega (arith, length-take (a + n - a) (drop a l), length-drop a l, h)

put : (l e x : List Float) (a n : ℕ) → e ≡ x → length x ≡ n → take a l ++ (e ++ drop (a + n - a) (drop a l)) ≡ paste l a x n
put l e x a n p q =
    let k : a + n - a ≡ n = omega arith in
    (λ j. take a l ++ ((p ∙ sym (take_all n x (omega (arith, q)))) j ++ (ap (λ (i : ℕ). drop i (drop a l)) k ∙ drop-drop n a l) j))
    ∙ sym (append_assoc (take a l) (take n x) (drop (a + n) l))

-- the floats that a baked primitive has
pub record Floats (s : Shape) (n : Lengths) : Type 0 where
  pub positions : length (flat s.positions) ≡ n.positions
  pub normals : length (flat s.normals) ≡ n.normals
  pub tangents : length (flat s.tangents) ≡ n.tangents

module _ (l : Lent) (r : PrimitiveRow) (h : RowFits l.floats r) (ws : List Float) (m : Matrix) (palette : Option (List Matrix)) where
  abbrev shape : Shape
  shape = baked_primitive m palette ws (primitive_of l r)

  pub floats-of : Floats shape (row_lengths r)
  floats-of =
      let k = baked-rowed l r ws m palette in
      let a = span-length l.floats r.positions 3 h.positions in
      let b = slot-length l.floats r.normals 3 h.normals in
      let c = slot-length l.floats r.tangents 4 h.tangents in
      record {
        positions = flat-length 3 shape.positions k.positions ∙ omega (arith, k.position-count, a);
        normals = flat-length 3 shape.normals k.normals ∙ omega (arith, k.normal-count, b);
        tangents = flat-length 4 shape.tangents k.tangents ∙ omega (arith, k.tangent-count, c);
      }

  pub put-at : (at n : Lengths) → n ≡ row_lengths r → (p o t p' o' t' : List Float)
      → Reshaped shape (span_in l.floats r.positions 3) p' (slot_floats l.floats r.normals 3) o' (slot_floats l.floats r.tangents 4) t'
      → PutAt shape at n
      p (take at.positions p ++ (p' ++ drop (at.positions + n.positions - at.positions) (drop at.positions p)))
      o (take at.normals o ++ (o' ++ drop (at.normals + n.normals - at.normals) (drop at.normals o)))
      t (take at.tangents t ++ (t' ++ drop (at.tangents + n.tangents - at.tangents) (drop at.tangents t)))
  put-at at n e p o t p' o' t' s =
      let f = floats-of in
      record {
        positions = put p p' (flat shape.positions) at.positions n.positions
            (s.positions ∙ all-rows3 shape.positions (span_in l.floats r.positions 3) r.positions.count (span-length l.floats r.positions 3 h.positions))
            (f.positions ∙ sym (ap (λ (k : Lengths). k.positions) e));
        normals = put o o' (flat shape.normals) at.normals n.normals
            (s.normals ∙ all-rows3 shape.normals (slot_floats l.floats r.normals 3) (slot_count r.normals) (slot-length l.floats r.normals 3 h.normals))
            (f.normals ∙ sym (ap (λ (k : Lengths). k.normals) e));
        tangents = put t t' (flat shape.tangents) at.tangents n.tangents
            (s.tangents ∙ all-rows4 shape.tangents (slot_floats l.floats r.tangents 4) (slot_count r.tangents) (slot-length l.floats r.tangents 4 h.tangents))
            (f.tangents ∙ sym (ap (λ (k : Lengths). k.tangents) e));
      }

-- said of the row that was read
pub put-as : (l : Lent) (ws : List Float) (m : Matrix) (palette : Option (List Matrix)) (r s : PrimitiveRow) (at n : Lengths) (p p' o o' t t' : List Float) → r ≡ s
    → PutAt (baked_primitive m palette ws (primitive_of l r)) at n p p' o o' t t' → PutAt (baked_primitive m palette ws (primitive_of l s)) at n p p' o o' t t'
put-as l ws m palette r s at n p p' o o' t t' e g = record {
  positions = g.positions ∙ ap (λ (q : PrimitiveRow). paste p at.positions (flat (baked_primitive m palette ws (primitive_of l q)).positions) n.positions) e;
  normals = g.normals ∙ ap (λ (q : PrimitiveRow). paste o at.normals (flat (baked_primitive m palette ws (primitive_of l q)).normals) n.normals) e;
  tangents = g.tangents ∙ ap (λ (q : PrimitiveRow). paste t at.tangents (flat (baked_primitive m palette ws (primitive_of l q)).tangents) n.tangents) e;
}

-- ---- one after the other
unfoldable pub joined_below : {A : Type 0} → ℕ → (ℕ → List A) → List A
joined_below zero g = []
joined_below (suc n) g = joined_below n g ++ g n

joined-append : {A B : Type 0} (g : A → List B) (a b : List A) → joined g (a ++ b) ≡ joined g a ++ joined g b
unfolding joined
joined-append g [] b = refl
joined-append g (x ∷ a) b = ap (λ (l : List _). g x ++ l) (joined-append g a b) ∙ sym (append_assoc (g x) (joined g a) (joined g b))

joined-tabulate : {A B : Type 0} (g : A → List B) (n : ℕ) (f : ℕ → A) → joined g (tabulate n f) ≡ joined_below n (λ i. g (f i))
unfolding joined tabulate joined_below
joined-tabulate g zero f = refl
joined-tabulate g (suc n) f =
    ap (joined g) (tabulate-more n f)
    ∙ joined-append g (tabulate n f) (f n ∷ [])
    ∙ (λ j. joined-tabulate g n f j ++ append-nil (g (f n)) j)

pub joined-mapped : {A B C : Type 0} (g : B → List C) (f : A → B) (n : ℕ) (h : ℕ → A) → joined g (map f (tabulate n h)) ≡ joined_below n (λ i. g (f (h i)))
joined-mapped g f n h = ap (joined g) (map-tabulate n f h) ∙ joined-tabulate g n (λ i. f (h i))

module _ (g : ℕ → List Float) (size : ℕ → ℕ) (count : ℕ) (lent : List Float) (same : (i : ℕ) → i < count → length (g i) ≡ size i) where
  pub below_length : (k : ℕ) → k ≤ count → length (joined_below k g) ≡ sum_below k size
  unfolding joined_below sum_below
  below_length zero h = refl
  below_length (suc k) h = omega (arith, length-append (joined_below k g) (g k), below_length k (omega arith), same k (omega arith))

  pub none-put : lent ≡ written (joined_below 0 g) lent
  unfolding joined_below
  none-put = refl

  pub put-length : (k : ℕ) → k ≤ count → sum_below k size ≤ length lent → length (written (joined_below k g) lent) ≡ length lent
  put-length k h b = omega (arith, length-append (joined_below k g) (drop (length (joined_below k g)) lent), length-drop (length (joined_below k g)) lent, below_length k h)

  pub put_next : (k : ℕ) → k < count → paste (written (joined_below k g) lent) (sum_below k size) (g k) (size k) ≡ written (joined_below (k + 1) g) lent
  unfolding joined_below
  put_next k h =
      let j = joined_below k g in
      let n : length j ≡ sum_below k size = below_length k (omega arith) in
      let rest : drop (sum_below k size) (written j lent) ≡ drop (length j) lent = drop_at j (drop (length j) lent) (sum_below k size) n in
      let o : length j + size k ≡ length (j ++ g k) = omega (arith, length-append j (g k), same k h) in
      (λ i. take_at j (drop (length j) lent) (sum_below k size) n i
      ++ take_all (size k) (g k) (omega (arith, same k h)) i
      ++ (sym (drop-drop (size k) (sum_below k size) (written j lent)) ∙ ap (drop (size k)) rest ∙ drop-drop (size k) (length j) lent ∙ ap (λ (m : ℕ). drop m lent) o) i)
      ∙ ap (λ (m : ℕ). written (joined_below m g) lent) (sym (add-one k))
