-- There is room for every text that is read: none draws 6 or 10. Assumes nothing.
use mathlib.Core.Path.{◌≡◌, refl, sym, ap, subst, ◌∙◌}
use mathlib.Core.Bool.{Bool, true, false, not, ◌||◌}
use mathlib.Core.List.{List, [], ◌∷◌, map, append-nil}
use mathlib.Core.Option.{Option, none, some, some-injective, none-ne-some}
use Prim.Native.Nat.{ℕ, zero, suc, ◌+◌, ◌*◌, ◌/◌, ◌≤◌}
use native.Mathlib.Omega.{arith}
use borrow.Author.Tests.{le-ltb, ltb-false}
use lib.Dec.{ltb}
use lib.Ieee.{Float, binary32, of_bits}
use lib.ListN.{length, get_elem?, replicate, length-replicate, length-map}
use Rattle.float.specs.F32.{zero32}
use Rattle.model.specs.Lists.{pick, is_some, or_else, and_then, map_some, rows_in}
use Rattle.model.specs.Scene.{Scene, Mesh, node_count, node_at, mesh_at}
use Rattle.model.specs.Placing.{child_entries}
use Rattle.model.specs.Refusals.{bad_form, out_of_table, first_of, lowest, early_number as early_tests}
use Rattle.model.specs.Bake.{bake, baked_after}
use Rattle.model.proofs.ListLaws.{length-tabulate}
use Rattle.tables.specs.Decoded.{Lent, scene_of}
use Rattle.checks.specs.Drawn.{lent_as, tables_number}
use Rattle.checks.specs.Checked.{Checked}
use Rattle.checks.proofs.Clearing.{checked}
use Rattle.bake_stages.specs.Scratch.{room_of}
use Rattle.bake.specs.Baked as baked
use Rattle.bake.proofs.TablesRange.{tables-at-most-2}
use Rattle.bake_room.specs.Needed.{position_floats, normal_floats, tangent_floats, lengths_in, room_in}
use Rattle.bake_room.specs.Lengths.{EnoughOutput, number_with, NeitherShort}
use Rattle.bake_room.proofs.Needed.{mesh, is}
use Rattle.bake_room.proofs.Judging.{scratch_test, output-long}
use Rattle.bake_room.proofs.Enough.{not_short}
use Rattle.grammar.specs.Forms.{Form, Document}
use Rattle.grammar.specs.Parsed.{reading_of}
use Rattle.scene_schema.specs.Schema.{kinds}
use Rattle.scene_schema.specs.declared.Pool.TheVariants as pool
use Rattle.scene_forms.specs.Filled.{reals_of}
use Rattle.scene_forms.specs.Laid.{items_of, field_at, item_of, items_from}
use Rattle.scene_forms.specs.Read.{Slices}
use Rattle.scene_forms.specs.Said.{forms_of, tables_of, header_of, node_of, time_of, leaves}
use Rattle.scene_round.specs.Meaning.{reals_at, primitive_from, mesh_from, scene_from}
use Rattle.scene_round.proofs.Said.{scene-said}
use Rattle.scene_text.specs.Reading.{read, room_tests}
use Rattle.text_sizes.proofs.Listed.{slot_count, run-few, all-few}
use Rattle.text_baking.specs.Printed.{text_limit, float_room, lent_by, room, baked_by, early_number, text_number}
use Rattle.text_baking.specs.Printed.{Readable}
use Rattle.text_baking.proofs.Readings.{stays, reads, few}

-- ---- the floats of a primitive

rows_few : (w : ℕ) (l : List Float) → length (rows_in w l) ≡ length l / w
unfolding rows_in
rows_few w l = length-tabulate _ _

real-count : (xs : List ℕ) → length (reals_of xs) ≡ length xs
real-count xs = length-map xs (of_bits binary32)

module _ (d : Document) where
  positions-few : (f : Form) → position_floats (primitive_from d f) ≤ slot_count 0 f
  positions-few f = omega (arith, rows_few 3 (reals_at f 0), real-count (items_of (field_at f 0)))

  normals-few : (f : Form) → normal_floats (primitive_from d f) ≤ slot_count 1 f
  normals-few f = go (field_at f 1)
    where
      go : (x : Option (List ℕ))
          → length (or_else (map_some (λ (xs : List ℕ). rows_in 3 (reals_of xs)) x) []) * 3 ≤ length (items_of x)
      go none = omega arith
      go (some xs) = omega (arith, rows_few 3 (reals_of xs), real-count xs)

  tangents-few : (f : Form) → tangent_floats (primitive_from d f) ≤ slot_count 2 f
  tangents-few f = go (field_at f 2)
    where
      go : (x : Option (List ℕ))
          → length (or_else (map_some (λ (xs : List ℕ). rows_in 4 (reals_of xs)) x) []) * 4 ≤ length (items_of x)
      go none = omega arith
      go (some xs) = omega (arith, rows_few 4 (reals_of xs), real-count xs)

  -- ---- and of a mesh: no more than the text has

  abbrev float_count : ℕ
  float_count = length (items_from pool.Floats 0 d)

  record FewFloats (m : Mesh) : Type 0 where
    positions : (lengths_in m).positions ≤ float_count
    normals : (lengths_in m).normals ≤ float_count
    tangents : (lengths_in m).tangents ≤ float_count

  mesh-few : (f : Form) → FewFloats (mesh_from d f)
  mesh-few f =
      let fs = forms_of d 4 in
      let a = item_of f 0 0 in
      let n = item_of f 0 1 in
      record {
        positions =
            omega (
              arith,
              run-few (primitive_from d) position_floats (slot_count 0) refl positions-few fs a n,
              all-few pool.Floats 4 0 d refl,
            );
        normals =
            omega (
              arith,
              run-few (primitive_from d) normal_floats (slot_count 1) refl normals-few fs a n,
              all-few pool.Floats 4 1 d refl,
            );
        tangents =
            omega (
              arith,
              run-few (primitive_from d) tangent_floats (slot_count 2) refl tangents-few fs a n,
              all-few pool.Floats 4 2 d refl,
            );
      }

  listed-few : (fs : List Form) (k : ℕ) (m : Mesh) → get_elem? (map (mesh_from d) fs) k ≡ some m → FewFloats m
  listed-few [] k m e = absurd (none-ne-some m e)
  listed-few (f ∷ fs) zero m e = subst FewFloats (some-injective (mesh_from d f) m e) (mesh-few f)
  listed-few (f ∷ fs) (suc k) m e = listed-few fs k m e

  named-few : (x : Option ℕ) (m : Mesh)
      → and_then x (λ k. get_elem? (map (mesh_from d) (forms_of d 3)) k) ≡ some m → FewFloats m
  named-few none m e = absurd (none-ne-some m e)
  named-few (some k) m e = listed-few (forms_of d 3) k m e

  node-few : (i : ℕ) (m : Mesh) → mesh_at (scene_from d) i ≡ some m → FewFloats m
  unfolding scene_from
  node-few i m e = named-few (node_at (scene_from d) i).mesh m e

-- ---- a text that is baked

module _ (text : List ℕ) (h : Readable text) where
  abbrev d : Document
  d = read text

  abbrev l : Lent
  l = lent_by d

  abbrev nothing : Slices
  nothing = record { words = []; floats = []; node_weights = []; mesh_weights = [] }

  said : scene_of l ≡ scene_from d
  said =
      let f = few text h in
      ap scene_of (λ j. lent_as (sym (append-nil (tables_of d).words) j) (sym (append-nil (tables_of d).floats) j)
      (sym (append-nil (tables_of d).node_weights) j) (sym (append-nil (tables_of d).mesh_weights) j) (header_of d))
      ∙ scene-said d nothing (reads text h).fits (reads text h).shaped
      (record {
        words = omega (arith, f.words, h.short);
        floats = omega (arith, f.floats, h.short);
        node_weights = omega (arith, f.node_weights, h.short);
        mesh_weights = omega (arith, f.mesh_weights, h.short);
      })
      (stays text h)

  few-floats : float_count d ≤ float_room
  unfolding tables_of
  few-floats = omega (arith, (few text h).floats, h.short, real-count (items_from pool.Floats 0 d))

  module _ (z : tables_number l ≡ 0) where
    clear : Checked l
    clear = checked l z

    -- as many slots and entries as the limits allow
    scratch-long : scratch_test l (node_of d) (time_of d) room ≡ false
    unfolding room
    scratch-long =
        let s = scene_of l in
        let r = room_of room.scratch in
        let long : (n : ℕ) → length {A = ℕ} (replicate n 0) ≡ n = λ n. length-replicate {A = ℕ} n 0 in
        let far : (n : ℕ) → length (replicate n zero32) ≡ n = λ n. length-replicate {A = Float} n zero32 in
        let walk = le-ltb r.walk_room (length s.roots + child_entries s)
        (omega (arith, clear.few-roots, clear.few-children, long 18432)) in
        let poses = le-ltb r.pose_slots (node_count s) (omega (arith, clear.few-nodes, long 4096, far 10240)) in
        let slots = le-ltb r.world_slots (node_count s) (omega (arith, clear.few-nodes, long 1024, far 16384)) in
        (λ j. walk j || poses j || slots j)

    module _ (m : is_some (mesh_at (scene_of l) (node_of d)) ≡ true) where
      held : FewFloats d (mesh l (node_of d))
      held =
          node-few d (node_of d) (mesh l (node_of d))
          (sym (ap (λ (s : Scene). mesh_at s (node_of d)) said) ∙ (is l (node_of d) z m).at)

      outputs-long : EnoughOutput (room_in (scene_of l) (mesh l (node_of d))) room.output
      unfolding room
      outputs-long =
          let n = length-replicate {A = Float} float_room zero32 in
          record {
            positions = omega (arith, held.positions, few-floats, n);
            normals = omega (arith, held.normals, few-floats, n);
            tangents = omega (arith, held.tangents, few-floats, n);
          }

    read-enough : NeitherShort (number_with l (node_of d) (time_of d) room)
    read-enough =
        not_short l (node_of d) (time_of d) room scratch-long
        (λ m. output-long l (node_of d) (time_of d) room z m (outputs-long m))

  -- 1 or 2 of the tables comes first
  drawn-first : (g : ℕ) → tables_number l ≡ suc g → number_with l (node_of d) (time_of d) room ≡ suc g
  unfolding bake baked_after early_tests
  drawn-first g e = λ j. (bake (e j) (scene_of l) (baked.request_of (node_of d) (time_of d) room)).answer.refusal

  baked-enough : NeitherShort (number_with l (node_of d) (time_of d) room)
  baked-enough = go (tables_number l) refl
    where
      go : (n : ℕ) → tables_number l ≡ n → NeitherShort (number_with l (node_of d) (time_of d) room)
      go zero e = read-enough e
      go (suc g) e =
          let n = drawn-first g e in
          let b = tables-at-most-2 l in
          (λ x. omega (arith, x, n, e, b), λ x. omega (arith, x, n, e, b))

-- ---- every text

few-early : (text : List ℕ) → NeitherShort (early_number text)
unfolding first_of
few-early text = go (ltb text_limit (length text)) (is_some (reading_of kinds text)) (leaves (read text))
  where
    go : (a b c : Bool) → NeitherShort (pick a 2 (first_of (record { applies = not b; refusal = bad_form }
        ∷ record { applies = c; refusal = out_of_table } ∷ [])))
    go true b c = (λ h. omega (arith, h), λ h. omega (arith, h))
    go false true true = (λ h. omega (arith, h), λ h. omega (arith, h))
    go false true false = (λ h. omega (arith, h), λ h. omega (arith, h))
    go false false c = (λ h. omega (arith, h), λ h. omega (arith, h))

early-readable : (text : List ℕ) → early_number text ≡ 0 → Readable text
early-readable text = go (ltb text_limit (length text)) refl
  where
    go : (b : Bool) → ltb text_limit (length text) ≡ b → pick b 2 (first_of (room_tests text)) ≡ 0 → Readable text
    go true l z = absurd (omega (arith, z))
    go false l z = record { short = ltb-false text_limit (length text) l; reads = z }

-- no text draws 6 or 10
pub never-short : (text : List ℕ) → NeitherShort (text_number text)
unfolding text_number
never-short text = go (early_number text) refl
  where
    go : (n : ℕ) → early_number text ≡ n
        → NeitherShort (lowest n (baked_by (read text)).answer.refusal)
    go zero e = baked-enough text (early-readable text e)
    go (suc n) e = subst (λ (k : ℕ). NeitherShort k) e (few-early text)
