-- The nodes above a node by `parents`, and the nearest one that joints have in common, with no count that bounds a
-- line: scope, "Palette, skin root, weights" (`parents` of graph.rs, `skin_root` of skin.rs). Definitions only.
use Rattle.std.specs.Prelude.{◌≡◌, ℕ}
use mathlib.Core.List.{List, Memᴰ}
use Rattle.std.proofs.Math.Option.{some}
use Rattle.model.specs.Scene.{Scene}
use Rattle.model.specs.Parents.{parent_of}

-- a is i, or a is the parent of i or above it
pub data AboveBy (s : Scene) (a : ℕ) : ℕ → Type 0 where
  itself : AboveBy s a a
  up : {i p : ℕ} → parent_of s i ≡ some p → AboveBy s a p → AboveBy s a i

-- a is above every joint, or is that joint
abbrev pub AboveAll : Scene → ℕ → List ℕ → Type 0
AboveAll s a js = (j : ℕ) → Memᴰ j js → AboveBy s a j

-- and so is every other that is above all joints above a
pub record NearestAbove (s : Scene) (js : List ℕ) (a : ℕ) : Type 0 where
  pub above : AboveAll s a js
  pub nearest : (b : ℕ) → AboveAll s b js → AboveBy s b a
