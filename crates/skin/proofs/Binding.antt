-- The skeleton that a skin is bound to, by its rows, and the palette of its joints and binds. Assumes nothing.
use mathlib.Core.Path.{◌≡◌, sym, ap, ◌∙◌}
use mathlib.Core.List.{List}
use mathlib.Core.Option.{Option, none, some}
use Prim.Native.Nat.{ℕ, ◌≤◌, ◌<◌}
use lib.Ieee.{Float}
use lib.ListN.{get_elem?}
use Rattle.model.specs.Lists.{and_then, map_some}
use Rattle.model.specs.Matrix.{Matrix}
use Rattle.model.specs.Scene as scene
use Rattle.model.specs.Skin.{palette_of}
use Rattle.model.specs.SkinCalls.{skin_palette}
use Rattle.tables.specs.declared.SkinRow.{SkinRow}
use Rattle.tables.specs.declared.SkeletonRow.{SkeletonRow}
use Rattle.tables.specs.Records.{skin_row, skeleton_row}
use Rattle.tables.specs.Decoded.{Lent, span_in, skeleton_of, scene_of}
use Rattle.tables.proofs.Decoding.{skin-at, no-skin, skeleton-at, no-skeleton}
use Rattle.std.specs.Prelude as rust
use Rattle.tables.specs.Tags.{option_of}
use Rattle.skin.specs.Palette.{skeleton_in}

module _ (l : Lent) (k : ℕ) where
  abbrev of : Option scene.Skin → Option scene.Skeleton
  of o = and_then o (λ (t : scene.Skin). get_elem? (scene_of l).skeletons t.skeleton)

  pub skin-past : l.header.skins.skins.count ≤ k → scene.skeleton_of (scene_of l) k ≡ none
  skin-past h = ap of (no-skin l k h)

  module _ (h : k < l.header.skins.skins.count) (row : SkinRow) (e : row ≡ skin_row l.words l.header.skins.skins k) (b : ℕ) (f : b ≡ row.skeleton) where
    named : scene.skeleton_of (scene_of l) k ≡ get_elem? (scene_of l).skeletons b
    named = ap of (skin-at l k h) ∙ ap (get_elem? (scene_of l).skeletons) (sym (f ∙ ap (λ (r : SkinRow). r.skeleton) e))

    pub skeleton-past : l.header.skins.skeletons.count ≤ b → scene.skeleton_of (scene_of l) k ≡ none
    skeleton-past g = named ∙ no-skeleton l b g

    pub skeleton-there : b < l.header.skins.skeletons.count → (t : SkeletonRow) → t ≡ skeleton_row l.words l.header.skins.skeletons b → scene.skeleton_of (scene_of l) k ≡ some (skeleton_of l t)
    skeleton-there g t q = named ∙ skeleton-at l b g ∙ ap (λ (r : SkeletonRow). some (skeleton_of l r)) (sym q)

-- ---- the palette
module _ (l : Lent) (k : ℕ) (world : ℕ → Option Matrix) (b : rust.Option SkeletonRow) (e : scene.skeleton_of (scene_of l) k ≡ map_some (skeleton_of l) (option_of b)) where
  abbrev palette : Option scene.Skeleton → Option (List Matrix)
  palette o = and_then o (λ (t : scene.Skeleton). palette_of world t)

  pub none-bound : b ≡ rust.None → skin_palette world (scene_of l) k ≡ none
  none-bound n = ap palette (e ∙ ap (λ (x : rust.Option SkeletonRow). map_some (skeleton_of l) (option_of x)) n)

  pub bound-to : (row : SkeletonRow) → b ≡ rust.Some row → (joints : List ℕ) → joints ≡ span_in l.words row.joints 1
      → (binds : List Float) → binds ≡ span_in l.floats row.inverse_binds 16 → skin_palette world (scene_of l) k ≡ palette_of world (skeleton_in joints binds)
  bound-to row r joints p binds q =
      ap palette (e ∙ ap (λ (x : rust.Option SkeletonRow). map_some (skeleton_of l) (option_of x)) r)
      ∙ (λ i. palette_of world (skeleton_in (sym p i) (sym q i)))
