-- The palette of a bake: how long it is, a mesh put out with it, and read again from the slice it was written to. Assumes nothing.
use mathlib.Core.Path.{◌≡◌, refl, sym, ap, ◌∙◌, subst}
use mathlib.Core.Bool.{Bool, true, false, false≢true}
use mathlib.Core.List.{List, [], ◌∷◌, append-nil}
use mathlib.Core.Option.{Option, none, some}
use Prim.Native.Nat.{ℕ, suc, ◌*◌, ◌/◌, ◌≤◌}
use native.Mathlib.Omega.{arith}
use borrow.Author.Tests.{ltb-true, ltb-false, leb-true}
use lib.Dec.{ltb}
use lib.Ieee.{Float}
use lib.ListN.{length, get_or, get_elem?, take, drop, length-take}
use lib.Seq.{take_at}
use Rattle.model.specs.Lists.{is_some, or_else, and_then, map_some, tabulate, row, rows_in}
use Rattle.model.specs.Matrix.{Matrix, mul}
use Rattle.model.specs.Scene.{Skin, Skeleton, skeleton_of}
use Rattle.model.specs.Skin.{products, binds_of, palette_of}
use Rattle.model.specs.Bake.{Output}
use Rattle.model.proofs.RowLaws.{flat, Rows, flat-length, row-of-flat, product-length}
use Rattle.model.proofs.Rowwise.{tabulate-alike, tabulate-entries}
use Rattle.tables.specs.declared.Reference.{Reference}
use Rattle.tables.specs.Records.{skeleton_row}
use Rattle.tables.specs.Tags.{is_marked}
use Rattle.tables.specs.Decoded.{Lent, scene_of}
use Rattle.tables.proofs.Decoding.{skeleton-at, no-skeleton}
use Rattle.shapes.specs.Rest.{PutOut}
use Rattle.skin.specs.Palette.{laid_out}
use Rattle.skin.proofs.Rows.{laid}
use Rattle.bake_stages.specs.Skinned.{world_from, skin_palette_from, palette_from}
use Rattle.bake_stages.proofs.NamedPalette.{with-skin}
use Rattle.bake_writing.specs.Delivered.{SkeletonsWithin}

-- ---- a mesh put out with that palette
module _ (put : Option (List Matrix) → Output) (p₁ p₂ n₁ n₂ t₁ t₂ : List Float) where
  pub put-alike : (p q : Option (List Matrix)) → p ≡ q → PutOut (put p) p₁ p₂ n₁ n₂ t₁ t₂ → PutOut (put q) p₁ p₂ n₁ n₂ t₁ t₂
  put-alike p q e h = subst (λ (x : Option (List Matrix)). PutOut (put x) p₁ p₂ n₁ n₂ t₁ t₂) e h

  module _ (l : Lent) (r : Reference) (codes : List ℕ) (slots : List Float) (p : Option (List Matrix)) (e : palette_from l r codes slots ≡ some p) where
    pub put-with : is_marked r.mark ≡ true → ((ms : List Matrix) → skin_palette_from l r.id codes slots ≡ some ms → PutOut (put (some ms)) p₁ p₂ n₁ n₂ t₁ t₂)
        → PutOut (put p) p₁ p₂ n₁ n₂ t₁ t₂
    put-with m h = go (skin_palette_from l r.id codes slots) refl (sym (with-skin l r codes slots m) ∙ e)
      where
        go : (o : Option (List Matrix)) → skin_palette_from l r.id codes slots ≡ o → map_some some o ≡ some p → PutOut (put p) p₁ p₂ n₁ n₂ t₁ t₂
        go none q f = absurd (false≢true (ap is_some f))
        go (some ms) q f = put-alike (some ms) p (ap (λ (x : Option (Option (List Matrix))). or_else x none) f) (h ms q)

-- ---- each product has sixteen numbers, and there are no more of them than joints
module _ (world : ℕ → Option Matrix) where
  product-rows : (js : List ℕ) (bs : List Matrix) → Rows 16 (or_else (products world js bs) [])
  unfolding products
  product-rows [] bs = tt
  product-rows (j ∷ js) [] = tt
  product-rows (j ∷ js) (b ∷ bs) = go (world j) (products world js bs) (product-rows js bs)
    where
      go : (o : Option Matrix) (p : Option (List Matrix)) → Rows 16 (or_else p []) → Rows 16 (or_else (and_then o (λ w. and_then p (λ ms. some (mul w b ∷ ms)))) [])
      go none p h = tt
      go (some w) none h = tt
      go (some w) (some ms) h = (product-length w b, h)

  product-count : (js : List ℕ) (bs : List Matrix) → length (or_else (products world js bs) []) ≤ length js
  unfolding products
  product-count [] bs = omega arith
  product-count (j ∷ js) [] = omega arith
  product-count (j ∷ js) (b ∷ bs) = go (world j) (products world js bs) (product-count js bs)
    where
      go : (o : Option Matrix) (p : Option (List Matrix)) → length (or_else p []) ≤ length js → length (or_else (and_then o (λ w. and_then p (λ ms. some (mul w b ∷ ms)))) []) ≤ suc (length js)
      go none p h = omega arith
      go (some w) none h = omega arith
      go (some w) (some ms) h = omega (arith, h)

rows-of-flat : (p : List Matrix) → Rows 16 p → rows_in 16 (flat p) ≡ p
unfolding rows_in
rows-of-flat p h =
    let count : length (flat p) / 16 ≡ length p = omega (arith, flat-length 16 p h) in
    ap (λ (n : ℕ). tabulate n (row 16 (flat p))) count
    ∙ tabulate-alike (length p) _ (λ i. get_or p i []) (λ i b. ap (λ (s : List Float). row 16 s i) (sym (append-nil (flat p))) ∙ row-of-flat 16 p [] i h b)
    ∙ tabulate-entries p []

abbrev joints_of : Option Skeleton → List ℕ
joints_of none = []
joints_of (some t) = t.joints

-- ---- tables whose skeletons are within their limit
module _ (l : Lent) (k : ℕ) (codes : List ℕ) (slots : List Float) where
  abbrev palette : List Matrix
  palette = or_else (skin_palette_from l k codes slots) []

  palette-rows : Rows 16 palette
  palette-rows = go (skeleton_of (scene_of l) k)
    where
      go : (o : Option Skeleton) → Rows 16 (or_else (and_then o (λ (t : Skeleton). palette_of (world_from l codes slots) t)) [])
      go none = tt
      go (some t) = product-rows (world_from l codes slots) t.joints (binds_of (length t.joints) t.inverse_binds)

  few-joints : SkeletonsWithin l.words l.header.skins.skeletons → (b : ℕ) → length (joints_of (get_elem? (scene_of l).skeletons b)) ≤ 256
  few-joints h b = go (ltb b l.header.skins.skeletons.count) refl
    where
      go : (t : Bool) → ltb b l.header.skins.skeletons.count ≡ t → length (joints_of (get_elem? (scene_of l).skeletons b)) ≤ 256
      go true e =
          let c = ltb-true b _ e in
          let row = skeleton_row l.words l.header.skins.skeletons b in
          omega (arith, ap (λ (o : Option Skeleton). length (joints_of o)) (skeleton-at l b c), length-take (row.joints.count * 1) (drop row.joints.at l.words), leb-true row.joints.count 256 (h b c))
      go false e = omega (arith, ap (λ (o : Option Skeleton). length (joints_of o)) (no-skeleton l b (ltb-false b _ e)))

  pub few-matrices : SkeletonsWithin l.words l.header.skins.skeletons → length palette ≤ 256
  few-matrices h = go (skeleton_of (scene_of l) k) (bound (get_elem? (scene_of l).skins k))
    where
      bound : (o : Option Skin) → length (joints_of (and_then o (λ (t : Skin). get_elem? (scene_of l).skeletons t.skeleton))) ≤ 256
      bound none = omega arith
      bound (some t) = few-joints h t.skeleton

      go : (o : Option Skeleton) → length (joints_of o) ≤ 256 → length (or_else (and_then o (λ (t : Skeleton). palette_of (world_from l codes slots) t)) []) ≤ 256
      go none b = omega arith
      go (some t) b = omega (arith, b, product-count (world_from l codes slots) t.joints (binds_of (length t.joints) t.inverse_binds))

  -- the matrices read from the slice that they were written to
  pub read_again : SkeletonsWithin l.words l.header.skins.skeletons → (p : List Matrix) → skin_palette_from l k codes slots ≡ some p
      → (lent left : List Float) → length lent ≡ 4096 → left ≡ laid_out palette lent → (n : ℕ) → n ≡ length palette → rows_in 16 (take (n * 16) left) ≡ p
  read_again h p e lent left room w n m =
      let few = few-matrices h in
      let long = flat-length 16 palette palette-rows in
      (λ j. rows_in 16 (take (m j * 16) (w j)))
      ∙ ap (λ (s : List Float). rows_in 16 (take (length palette * 16) s)) (sym (laid palette lent (omega (arith, few, room))))
      ∙ ap (rows_in 16) (take_at (flat palette) (drop (length palette * 16) lent) (length palette * 16) long)
      ∙ rows-of-flat palette palette-rows
      ∙ ap (λ (o : Option (List Matrix)). or_else o []) e
