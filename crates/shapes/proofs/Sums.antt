-- How many floats the primitives of a mesh put out: the sums of their counts. Assumes nothing.
use mathlib.Core.Path.{◌≡◌, refl, sym, ap}
use mathlib.Core.Bool.{Bool, true, false, ◌&&◌}
use mathlib.Core.List.{List}
use Prim.Native.Nat.{ℕ, zero, suc, ◌+◌, ◌-◌, ◌*◌, ◌≤◌, ◌<◌}
use native.Mathlib.Nat.{suc-mul}
use native.Mathlib.Numerals.{add-one}
use native.Mathlib.Omega.{arith}
use borrow.Author.Tests.{leb-true}
use lib.Dec.{leb}
use Rattle.model.specs.Lists.{pick}
use Rattle.model.specs.Limits.{vertex_limit}
use Rattle.model.proofs.Tests.{both}
use Rattle.tracks.specs.declared.Part.{Part}
use Rattle.tables.specs.declared.Slot.{Slot}
use Rattle.tables.specs.declared.PrimitiveRow.{PrimitiveRow}
use Rattle.tables.specs.Tags.{is_marked}
use Rattle.row_checks.specs.Bounds.{is_known, slot_within, primitive_within}
use Rattle.checks.specs.Drawn.{sum_below}
use Rattle.shapes.specs.declared.Lengths.{Lengths}
use Rattle.shapes.specs.Rest.{slot_count, row_lengths, plus_lengths, row_at, lengths_below, AtMost, Counted}

-- ---- one primitive
slot_small : (s : Slot) → slot_within s ≡ true → slot_count s ≤ 65535
slot_small s h = go (is_marked s.mark) h
  where
    go : (b : Bool) → pick b (is_known s.mark 1 && leb s.part.count vertex_limit) true ≡ true → pick b s.part.count 0 ≤ 65535
    go true h = leb-true _ 65535 (both (is_known s.mark 1) _ h).1
    go false h = omega arith

pub record RowSmall (r : PrimitiveRow) : Type 0 where
  pub positions : r.positions.count ≤ 65535
  pub normals : slot_count r.normals ≤ 65535
  pub tangents : slot_count r.tangents ≤ 65535

pub row_small : (r : PrimitiveRow) → primitive_within r ≡ true → RowSmall r
row_small r h =
    let a = (both (leb r.positions.count vertex_limit && (slot_within r.normals && slot_within r.tangents)) _ h).0 in
    let b = both (leb r.positions.count vertex_limit) _ a in
    let c = both (slot_within r.normals) _ b.1 in
    record { positions = leb-true _ 65535 b.0; normals = slot_small r.normals c.0; tangents = slot_small r.tangents c.1 }

-- ---- sums
sum-at-most : (n b : ℕ) (f : ℕ → ℕ) → ((k : ℕ) → k < n → f k ≤ b) → sum_below n f ≤ n * b
unfolding sum_below
sum-at-most zero b f h = omega arith
sum-at-most (suc n) b f h =
    let s = sum-at-most n b f (λ k l. h k (omega arith)) in
    let t = h n (omega arith) in
    omega (arith, s, t, suc-mul n b)

pub sum-grows : (f : ℕ → ℕ) (n k : ℕ) → sum_below k f ≤ sum_below (n + k) f
unfolding sum_below
sum-grows f zero k = let e : zero + k ≡ k = omega arith in omega (arith, ap (λ (m : ℕ). sum_below m f) e)
sum-grows f (suc n) k = let s = sum-grows f n k in let e : suc n + k ≡ suc (n + k) = omega arith in omega (arith, s, ap (λ (m : ℕ). sum_below m f) e)

pub sum-upto : (f : ℕ → ℕ) (k n : ℕ) → k ≤ n → sum_below k f ≤ sum_below n f
sum-upto f k n h = let e : n - k + k ≡ n = omega arith in let s = sum-grows f (n - k) k in omega (arith, s, ap (λ (m : ℕ). sum_below m f) e)

module _ (words : List ℕ) (t m : Part) where
  pub row-at-most : Counted words t m → (k : ℕ) → k < m.count → AtMost (row_lengths (row_at words t m k)) 262140 262140 262140
  row-at-most c k l =
      let s = row_small (row_at words t m k) (c.within k l) in
      let a = s.positions in
      let b = s.normals in
      let d = s.tangents in
      record { position-room = omega arith; normal-room = omega arith; tangent-room = omega arith }

  pub small : (n : Lengths) → AtMost n 262140 262140 262140 → AtMost n 4294967296 4294967296 4294967296
  small n s =
      let a = s.position-room in
      let b = s.normal-room in
      let c = s.tangent-room in
      record { position-room = omega arith; normal-room = omega arith; tangent-room = omega arith }

  pub sums-small : Counted words t m → (k : ℕ) → k ≤ m.count → AtMost (lengths_below words t m k) 4294967296 4294967296 4294967296
  sums-small c k l =
      let f : ℕ → ℕ = λ i. (row_lengths (row_at words t m i)).positions in
      let g : ℕ → ℕ = λ i. (row_lengths (row_at words t m i)).normals in
      let o : ℕ → ℕ = λ i. (row_lengths (row_at words t m i)).tangents in
      let a = sum-at-most k 262140 f (λ i b. (row-at-most c i (omega (arith, l))).position-room) in
      let b = sum-at-most k 262140 g (λ i b. (row-at-most c i (omega (arith, l))).normal-room) in
      let d = sum-at-most k 262140 o (λ i b. (row-at-most c i (omega (arith, l))).tangent-room) in
      let few = c.count in
      record { position-room = omega (arith, a, l, few); normal-room = omega (arith, b, l, few); tangent-room = omega (arith, d, l, few) }

  -- one more
  pub next-sum : (k : ℕ) → plus_lengths (lengths_below words t m k) (row_lengths (row_at words t m k)) ≡ lengths_below words t m (k + 1)
  unfolding sum_below
  next-sum k = sym (ap (lengths_below words t m) (add-one k))

  pub no-sum : record { positions = 0; normals = 0; tangents = 0 } ≡ lengths_below words t m 0
  unfolding sum_below
  no-sum = refl
