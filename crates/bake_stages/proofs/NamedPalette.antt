-- The palette of what a node names: whether it can be made. Assumes nothing.
use mathlib.Core.Path.{◌≡◌, refl, sym, ap, ◌∙◌}
use mathlib.Core.Bool.{Bool, true, false}
use mathlib.Core.List.{List}
use mathlib.Core.Option.{Option, none, some}
use Prim.Native.Nat.{ℕ}
use lib.Ieee.{Float}
use lib.ListN.{length}
use Rattle.model.specs.Lists.{pick, is_some, and_then, map_some}
use Rattle.model.specs.Matrix.{Matrix}
use Rattle.model.specs.Scene.{Skeleton, skeleton_of}
use Rattle.model.specs.Skin.{palette_of}
use Rattle.model.specs.Bake.{palette_with}
use Rattle.tables.specs.declared.Reference.{Reference}
use Rattle.tables.specs.Tags.{is_marked}
use Rattle.tables.specs.Decoded.{Lent, scene_of}
use Rattle.bake_stages.specs.Skinned.{world_from, skin_palette_from, palette_from}

module _ (l : Lent) (r : Reference) (codes : List ℕ) (slots : List Float) where
  abbrev made : Bool → Option (Option (List Matrix))
  made b = palette_with (world_from l codes slots) b (and_then (pick b (some r.id) none) (λ k. skeleton_of (scene_of l) k))

  pub without-skin : is_marked r.mark ≡ false → palette_from l r codes slots ≡ some none
  without-skin e = ap made e

  pub with-skin : is_marked r.mark ≡ true → palette_from l r codes slots ≡ map_some some (skin_palette_from l r.id codes slots)
  with-skin e = ap made e ∙ go (skeleton_of (scene_of l) r.id)
    where
      wrapped : (p : Option (List Matrix)) → and_then p (λ ms. some (some ms)) ≡ map_some some p
      wrapped none = refl
      wrapped (some ms) = refl

      go : (k : Option Skeleton) → and_then k (λ (t : Skeleton). and_then (palette_of (world_from l codes slots) t) (λ ms. some (some ms))) ≡ map_some some (and_then k (λ (t : Skeleton). palette_of (world_from l codes slots) t))
      go none = refl
      go (some t) = wrapped (palette_of (world_from l codes slots) t)

  pub is_made : is_marked r.mark ≡ true → (o : Option ℕ) → o ≡ map_some length (skin_palette_from l r.id codes slots) → is_some o ≡ is_some (palette_from l r codes slots)
  is_made e o c = ap is_some c ∙ go (skin_palette_from l r.id codes slots) ∙ ap is_some (sym (with-skin e))
    where
      go : (p : Option (List Matrix)) → is_some (map_some length p) ≡ is_some (map_some some p)
      go none = refl
      go (some ms) = refl
