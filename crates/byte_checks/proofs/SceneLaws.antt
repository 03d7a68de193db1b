-- What scene and time draw, test by test, and that it comes before what the room draws. Assumes nothing.
use mathlib.Core.Path.{◌≡◌, refl, sym, ◌∙◌}
use mathlib.Core.Bool.{Bool, true, false}
use Prim.Native.Nat.{ℕ, zero, suc}
use native.Mathlib.Omega.{arith}
use lib.Ieee.{Float, is_nan}
use Rattle.model.specs.Lists.{pick}
use Rattle.model.specs.Refusals.{first_of, lowest, some_keys_out_of_line, Scratch, scratch_is_short, pose_number, early_number}
use Rattle.model.specs.Scene.{node_count}
use Rattle.model.proofs.Numbers.{lowest-some}
use lib.Dec.{ltb}
use Rattle.tables.specs.Decoded.{Lent, scene_of}
use Rattle.checks.specs.Drawn.{tables_number}
use Rattle.byte_checks.specs.Scene.{scene_number}

-- the third test comes after what is drawn without it
after : (g : ℕ) (n o s : Bool)
    → lowest g (pick n 3 (pick o 5 (pick s 6 0))) ≡ lowest (lowest g (pick n 3 (pick o 5 0))) (pick s 6 0)
after zero true o s = refl
after zero false true s = refl
after zero false false s = refl
after (suc g) n o s = refl

stands : (g : ℕ) (n o s : Bool) → (lowest g (pick n 3 (pick o 5 0)) ≡ 0 → ⊥)
    → lowest g (pick n 3 (pick o 5 (pick s 6 0))) ≡ lowest g (pick n 3 (pick o 5 0))
stands g n o s d = after g n o s ∙ sym (lowest-some (lowest g (pick n 3 (pick o 5 0))) (pick s 6 0) d)

pub first-none : (g n : ℕ) → lowest g n ≡ 0 → g ≡ 0
first-none zero n h = refl
first-none (suc g) n h = absurd (omega (arith, h))

module _ (l : Lent) (time : Float) where
  pub scene-drawn : (g : ℕ) → g ≡ tables_number l → (g ≡ 0 → ⊥) → g ≡ scene_number l time
  unfolding scene_number
  scene-drawn g e d = e ∙ lowest-some (tables_number l) _ (λ z. d (e ∙ z))

  pub scene-tests : (n o : Bool) → tables_number l ≡ 0 → is_nan time ≡ n → some_keys_out_of_line (scene_of l) ≡ o
      → pick n 3 (pick o 5 0) ≡ scene_number l time
  unfolding scene_number first_of
  scene-tests n o z p q = sym (λ j. lowest (z j) (pick (p j) 3 (pick (q j) 5 0)))

  pub scene-none : scene_number l time ≡ 0 → tables_number l ≡ 0
  unfolding scene_number
  scene-none h = first-none (tables_number l) _ h

  pub room_after : (room : Scratch) → early_number (tables_number l) (scene_of l) time room
      ≡ lowest (scene_number l time) (pick (scratch_is_short (scene_of l) room) 6 0)
  unfolding scene_number early_number first_of
  room_after room =
      after (tables_number l) (is_nan time) (some_keys_out_of_line (scene_of l)) (scratch_is_short (scene_of l) room)

  module _ (refused : scene_number l time ≡ 0 → ⊥) where
    pub pose-refused : (slots : ℕ) → pose_number (tables_number l) (scene_of l) time slots ≡ scene_number l time
    unfolding scene_number pose_number first_of
    pose-refused slots =
        stands (tables_number l) (is_nan time) (some_keys_out_of_line (scene_of l)) (ltb slots (node_count (scene_of l))) refused

    pub bake-refused : (room : Scratch) → early_number (tables_number l) (scene_of l) time room ≡ scene_number l time
    unfolding scene_number early_number first_of
    bake-refused room =
        stands (tables_number l) (is_nan time) (some_keys_out_of_line (scene_of l)) (scratch_is_short (scene_of l) room) refused
