-- The primitives of a mesh as far as they are put out. Assumes nothing.
use mathlib.Core.Path.{◌≡◌, sym, ap, ◌∙◌, subst}
use mathlib.Core.List.{List, map}
use mathlib.Core.Option.{Option}
use Prim.Native.Nat.{ℕ, ◌+◌, ◌≤◌, ◌<◌}
use native.Mathlib.Omega.{arith}
use lib.Ieee.{Float}
use lib.ListN.{length}
use lib.Seq.{paste}
use Rattle.model.specs.Matrix.{Matrix}
use Rattle.model.specs.Scene.{Primitive}
use Rattle.model.specs.Vertices.{Shape}
use Rattle.model.specs.Bake.{baked_primitive, output_of, written}
use Rattle.model.proofs.RowLaws.{flat}
use Rattle.tracks.specs.declared.Part.{Part}
use Rattle.tables.specs.declared.PrimitiveRow.{PrimitiveRow}
use Rattle.tables.specs.Decoded.{Lent, primitive_of}
use Rattle.shapes.specs.declared.Lengths.{Lengths}
use Rattle.shapes.specs.Rest.{primitives_in, row_lengths, plus_lengths, row_at, lengths_below, AtMost, Drawable, PutAt, PutOut}
use Rattle.shapes.proofs.Sums.{sum-upto, sums-small, row-at-most, small, next-sum, no-sum}
use Rattle.shapes.proofs.Putting.{Floats, floats-of, joined_below, joined-mapped, none-put, put-length, put_next}

module _ (l : Lent) (part : Part) (ws : List Float) (m : Matrix) (palette : Option (List Matrix)) (p₀ n₀ t₀ : List Float) where
  abbrev table : Part
  table = l.header.meshes.primitives

  abbrev row_of : ℕ → PrimitiveRow
  row_of i = row_at l.words table part i

  abbrev shape_at : ℕ → Shape
  shape_at i = baked_primitive m palette ws (primitive_of l (row_of i))

  abbrev positions_at : ℕ → List Float
  positions_at i = flat (shape_at i).positions

  abbrev normals_at : ℕ → List Float
  normals_at i = flat (shape_at i).normals

  abbrev tangents_at : ℕ → List Float
  tangents_at i = flat (shape_at i).tangents

  -- the first k are put out
  pub record Going (k : ℕ) (at : Lengths) (p n t : List Float) : Type 0 where
    pub positions : p ≡ written (joined_below k positions_at) p₀
    pub normals : n ≡ written (joined_below k normals_at) n₀
    pub tangents : t ≡ written (joined_below k tangents_at) t₀
    pub placed : at ≡ lengths_below l.words table part k
    pub upto : k ≤ part.count

  pub none_yet : (at : Lengths) → at ≡ record { positions = 0; normals = 0; tangents = 0 } → Going 0 at p₀ n₀ t₀
  none_yet at e = record {
    positions = none-put positions_at (λ i. 0) 0 p₀ (λ i b. absurd (omega arith));
    normals = none-put normals_at (λ i. 0) 0 n₀ (λ i b. absurd (omega arith));
    tangents = none-put tangents_at (λ i. 0) 0 t₀ (λ i b. absurd (omega arith));
    placed = e ∙ no-sum l.words table part;
    upto = omega arith;
  }

  module _ (d : Drawable l.words l.floats table part) where
    floats_at : (i : ℕ) → i < part.count → Floats (shape_at i) (row_lengths (row_of i))
    floats_at i b = floats-of l (row_of i) (d.fits i b) ws m palette

    module _ (room : AtMost (lengths_below l.words table part part.count) (length p₀) (length n₀) (length t₀)) (k : ℕ) (at : Lengths) (p n t : List Float) (g : Going k at p n t) where
      -- the slices keep their lengths
      pub record Kept : Type 0 where
        pub positions : length p ≡ length p₀
        pub normals : length n ≡ length n₀
        pub tangents : length t ≡ length t₀

      pub kept : Kept
      kept =
          let a = sum-upto (λ i. (row_lengths (row_of i)).positions) k part.count g.upto in
          let b = sum-upto (λ i. (row_lengths (row_of i)).normals) k part.count g.upto in
          let c = sum-upto (λ i. (row_lengths (row_of i)).tangents) k part.count g.upto in
          record {
            positions = ap length g.positions ∙ put-length positions_at (λ i. (row_lengths (row_of i)).positions) part.count p₀ (λ i b. (floats_at i b).positions) k g.upto (omega (arith, a, room.position-room));
            normals = ap length g.normals ∙ put-length normals_at (λ i. (row_lengths (row_of i)).normals) part.count n₀ (λ i b. (floats_at i b).normals) k g.upto (omega (arith, b, room.normal-room));
            tangents = ap length g.tangents ∙ put-length tangents_at (λ i. (row_lengths (row_of i)).tangents) part.count t₀ (λ i b. (floats_at i b).tangents) k g.upto (omega (arith, c, room.tangent-room));
          }

      module _ (b : k < part.count) where
        -- there is room for the next
        pub next-room : (o : Lengths) → o ≡ row_lengths (row_of k) → AtMost (plus_lengths at o) (length p) (length n) (length t)
        next-room o e =
            let f : (k + 1) ≤ part.count = omega arith in
            let s = (λ j. plus_lengths (g.placed j) (e j)) ∙ next-sum l.words table part k in
            let x = sum-upto (λ i. (row_lengths (row_of i)).positions) (k + 1) part.count f in
            let y = sum-upto (λ i. (row_lengths (row_of i)).normals) (k + 1) part.count f in
            let z = sum-upto (λ i. (row_lengths (row_of i)).tangents) (k + 1) part.count f in
            let c = kept in
            record {
              position-room = omega (arith, ap (λ (q : Lengths). q.positions) s, x, c.positions, room.position-room);
              normal-room = omega (arith, ap (λ (q : Lengths). q.normals) s, y, c.normals, room.normal-room);
              tangent-room = omega (arith, ap (λ (q : Lengths). q.tangents) s, z, c.tangents, room.tangent-room);
            }

        pub small-sums : (o : Lengths) → o ≡ row_lengths (row_of k) → AtMost at 4294967296 4294967296 4294967296 × AtMost o 4294967296 4294967296 4294967296
        small-sums o e = (
          subst (λ (q : Lengths). AtMost q 4294967296 4294967296 4294967296) (sym g.placed) (sums-small l.words table part d.counted k g.upto),
          subst (λ (q : Lengths). AtMost q 4294967296 4294967296 4294967296) (sym e) (small l.words table part (row_lengths (row_of k)) (row-at-most l.words table part d.counted k b)),
        )

        pub small-sum : (o : Lengths) → o ≡ row_lengths (row_of k) → AtMost (plus_lengths at o) 8589934592 8589934592 8589934592
        small-sum o e =
            let s = small-sums o e in
            record {
              position-room = omega (arith, s.0.position-room, s.1.position-room);
              normal-room = omega (arith, s.0.normal-room, s.1.normal-room);
              tangent-room = omega (arith, s.0.tangent-room, s.1.tangent-room);
            }

        pub next : (o : Lengths) → o ≡ row_lengths (row_of k) → (at' : Lengths) → at' ≡ plus_lengths at o → (p' n' t' : List Float)
            → PutAt (shape_at k) at o p p' n n' t t' → Going (k + 1) at' p' n' t'
        next o e at' f p' n' t' s = record {
          positions = s.positions ∙ (λ j. paste (g.positions j) (g.placed j).positions (positions_at k) (e j).positions) ∙ put_next positions_at (λ i. (row_lengths (row_of i)).positions) part.count p₀ (λ i b. (floats_at i b).positions) k b;
          normals = s.normals ∙ (λ j. paste (g.normals j) (g.placed j).normals (normals_at k) (e j).normals) ∙ put_next normals_at (λ i. (row_lengths (row_of i)).normals) part.count n₀ (λ i b. (floats_at i b).normals) k b;
          tangents = s.tangents ∙ (λ j. paste (g.tangents j) (g.placed j).tangents (tangents_at k) (e j).tangents) ∙ put_next tangents_at (λ i. (row_lengths (row_of i)).tangents) part.count t₀ (λ i b. (floats_at i b).tangents) k b;
          placed = f ∙ (λ j. plus_lengths (g.placed j) (e j)) ∙ next-sum l.words table part k;
          upto = omega arith;
        }

  -- all of them
  pub all-put : (k : ℕ) (at : Lengths) (p n t : List Float) → Going k at p n t → part.count ≤ k → PutOut (output_of (map (baked_primitive m palette ws) (primitives_in l part))) p₀ p n₀ n t₀ t
  unfolding output_of
  all-put k at p n t g b =
      let e : k ≡ part.count = omega (arith, g.upto) in
      let f : ℕ → Primitive = λ i. primitive_of l (row_of i) in
      record {
        positions = g.positions ∙ ap (λ (i : ℕ). written (joined_below i positions_at) p₀) e ∙ ap (λ (o : List Float). written o p₀) (sym (joined-mapped (λ (s : Shape). flat s.positions) (baked_primitive m palette ws) part.count f));
        normals = g.normals ∙ ap (λ (i : ℕ). written (joined_below i normals_at) n₀) e ∙ ap (λ (o : List Float). written o n₀) (sym (joined-mapped (λ (s : Shape). flat s.normals) (baked_primitive m palette ws) part.count f));
        tangents = g.tangents ∙ ap (λ (i : ℕ). written (joined_below i tangents_at) t₀) e ∙ ap (λ (o : List Float). written o t₀) (sym (joined-mapped (λ (s : Shape). flat s.tangents) (baked_primitive m palette ws) part.count f));
      }
