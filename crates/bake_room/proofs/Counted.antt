-- The floats of the primitives of a mesh, counted by the rows of their table. Assumes nothing.
use mathlib.Core.Path.{◌≡◌, refl}
use mathlib.Core.Bool.{Bool, true, false}
use mathlib.Core.List.{List, []}
use mathlib.Core.Option.{none, some}
use Prim.Native.Nat.{ℕ, zero, suc, ◌+◌, ◌*◌, ◌/◌, ◌<◌}
use native.Mathlib.Omega.{arith}
use lib.Ieee.{Float}
use lib.ListN.{length}
use Rattle.model.specs.Lists.{pick, tabulate, sum_of, rows_in, or_else}
use Rattle.model.specs.Scene.{Primitive}
use Rattle.model.proofs.ListLaws.{length-tabulate}
use Rattle.tracks.specs.declared.Part.{Part}
use Rattle.tables.specs.declared.Slot.{Slot}
use Rattle.tables.specs.declared.MeshRow.{MeshRow}
use Rattle.tables.specs.Tags.{is_marked}
use Rattle.tables.specs.Decoded.{Lent, span_in, slot_in, primitive_of, mesh_of}
use Rattle.row_checks.specs.Places.{fits_in, slot_fits}
use Rattle.checks.specs.Drawn.{sum_below}
use Rattle.shapes.specs.Rest.{slot_count, row_lengths, row_at, lengths_below, Drawable}
use Rattle.shapes.proofs.Putting.{span-length}
use Rattle.bake_room.specs.Needed.{position_floats, normal_floats, tangent_floats, lengths_in}

-- ---- one primitive

rows-length : (w : ℕ) (l : List Float) → length (rows_in w l) ≡ length l / w
unfolding rows_in
rows-length w l = length-tabulate _ _

span3 : (l : List Float) (p : Part) → fits_in p 3 (length l) ≡ true → length (rows_in 3 (span_in l p 3)) * 3 ≡ p.count * 3
span3 l p h = omega (arith, rows-length 3 (span_in l p 3), span-length l p 3 h)

span4 : (l : List Float) (p : Part) → fits_in p 4 (length l) ≡ true → length (rows_in 4 (span_in l p 4)) * 4 ≡ p.count * 4
span4 l p h = omega (arith, rows-length 4 (span_in l p 4), span-length l p 4 h)

slot3 : (l : List Float) (s : Slot) → slot_fits s 3 (length l) ≡ true
    → length (or_else (slot_in l s 3) []) * 3 ≡ slot_count s * 3
slot3 l s h = go (is_marked s.mark) h
  where
    go : (b : Bool) → pick b (fits_in s.part 3 (length l)) true ≡ true
        → length (or_else (pick b (some (rows_in 3 (span_in l s.part 3))) none) []) * 3 ≡ pick b s.part.count 0 * 3
    go true h = span3 l s.part h
    go false h = refl

slot4 : (l : List Float) (s : Slot) → slot_fits s 4 (length l) ≡ true
    → length (or_else (slot_in l s 4) []) * 4 ≡ slot_count s * 4
slot4 l s h = go (is_marked s.mark) h
  where
    go : (b : Bool) → pick b (fits_in s.part 4 (length l)) true ≡ true
        → length (or_else (pick b (some (rows_in 4 (span_in l s.part 4))) none) []) * 4 ≡ pick b s.part.count 0 * 4
    go true h = span4 l s.part h
    go false h = refl

-- ---- all of them

sum-front : (n : ℕ) (f : ℕ → ℕ) → sum_below (suc n) f ≡ f 0 + sum_below n (λ i. f (suc i))
unfolding sum_below
sum-front zero f = omega arith
sum-front (suc n) f = omega (arith, sum-front n f)

sum-counted : {A : Type 0} (n : ℕ) (f : ℕ → A) (g : A → ℕ) (h : ℕ → ℕ) → ((i : ℕ) → i < n → g (f i) ≡ h i)
    → sum_of g (tabulate n f) ≡ sum_below n h
unfolding sum_of tabulate sum_below
sum-counted zero f g h e = refl
sum-counted (suc n) f g h e =
    let rest = sum-counted n (λ i. f (suc i)) g (λ i. h (suc i)) (λ i b. e (suc i) (omega (arith, b))) in
    omega (arith, e 0 (omega arith), rest, sum-front n h)

pub lengths-are : (l : Lent) (m : MeshRow)
    → Drawable l.words l.floats l.header.meshes.primitives m.primitives
    → lengths_in (mesh_of l m)
    ≡ lengths_below l.words l.header.meshes.primitives m.primitives m.primitives.count
lengths-are l m d =
    let row = row_at l.words l.header.meshes.primitives m.primitives in
    let n = m.primitives.count in
    let f : ℕ → Primitive = λ k. primitive_of l (row k) in
    let positions = sum-counted n f position_floats (λ k. (row_lengths (row k)).positions)
    (λ k b. span3 l.floats (row k).positions (d.fits k b).positions) in
    let normals = sum-counted n f normal_floats (λ k. (row_lengths (row k)).normals)
    (λ k b. slot3 l.floats (row k).normals (d.fits k b).normals) in
    let tangents = sum-counted n f tangent_floats (λ k. (row_lengths (row k)).tangents)
    (λ k b. slot4 l.floats (row k).tangents (d.fits k b).tangents) in
    λ j. record { positions = positions j; normals = normals j; tangents = tangents j }
