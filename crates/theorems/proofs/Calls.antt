-- The tests of every call stand in the order of judging: each answers the applying refusal of least rank.
-- Assumes nothing.
use mathlib.Core.Path.{refl}
use mathlib.Core.Bool.{Bool}
use mathlib.Core.List.{List}
use mathlib.Core.Option.{Option}
use Prim.Native.Nat.{ℕ, ◌≤◌}
use lib.Ieee.{Float}
use Rattle.model.specs.Lists.{every}
use Rattle.model.specs.Matrix.{Matrix}
use Rattle.model.specs.Scene.{Scene, Track}
use Rattle.model.specs.Refusals.{Scratch, sample_tests, sample_number, frame_tests, frame_number, pose_tests, pose_number}
use Rattle.model.specs.Refusals.{place_tests, place_number, early_tests, early_number}
use Rattle.model.specs.SkinCalls.{palette_tests, palette_number, skin_root_tests, skin_root_number, weights_tests}
use Rattle.model.specs.SkinCalls.{weights_number}
use Rattle.theorems.specs.Judging.{before, rank, ascending, JudgesBy, after_tables}
use Rattle.theorems.proofs.Judging.{judges-after}

-- g is what the tables drew
module _ (g : ℕ) (h : g ≤ 2) where
  pub sample-judges : (t : Track) (time : Float) (room : ℕ)
      → JudgesBy (after_tables g (sample_tests t time room)) (sample_number g t time room)
  unfolding sample_number ascending every rank before
  sample-judges t time room = judges-after g h (sample_tests t time room) _ refl refl

  pub frame-judges : (t : Track) (rows : Bool) (k : ℕ)
      → JudgesBy (after_tables g (frame_tests t rows k)) (frame_number g t rows k)
  unfolding frame_number ascending every rank before
  frame-judges t rows k = judges-after g h (frame_tests t rows k) _ refl refl

  pub pose-judges : (s : Scene) (time : Float) (slots : ℕ)
      → JudgesBy (after_tables g (pose_tests s time slots)) (pose_number g s time slots)
  unfolding pose_number ascending every rank before
  pose-judges s time slots = judges-after g h (pose_tests s time slots) _ refl refl

  pub place-judges : (s : Scene) (room : Scratch) → JudgesBy (after_tables g (place_tests s room)) (place_number g s room)
  unfolding place_number ascending every rank before
  place-judges s room = judges-after g h (place_tests s room) _ refl refl

  pub early-judges : (s : Scene) (time : Float) (room : Scratch)
      → JudgesBy (after_tables g (early_tests s time room)) (early_number g s time room)
  unfolding early_number ascending every rank before
  early-judges s time room = judges-after g h (early_tests s time room) _ refl refl

  pub palette-judges : (s : Scene) (slots i : ℕ) (palette : Option (List Matrix)) (room : ℕ)
      → JudgesBy (after_tables g (palette_tests s slots i palette room)) (palette_number g s slots i palette room)
  unfolding palette_number ascending every rank before
  palette-judges s slots i palette room = judges-after g h (palette_tests s slots i palette room) _ refl refl

  pub skin-root-judges : (s : Scene) (k : ℕ) → JudgesBy (after_tables g (skin_root_tests s k)) (skin_root_number g s k)
  unfolding skin_root_number ascending every rank before
  skin-root-judges s k = judges-after g h (skin_root_tests s k) _ refl refl

  pub weights-judges : (s : Scene) (i : ℕ) → JudgesBy (after_tables g (weights_tests s i)) (weights_number g s i)
  unfolding weights_number ascending every rank before
  weights-judges s i = judges-after g h (weights_tests s i) _ refl refl
