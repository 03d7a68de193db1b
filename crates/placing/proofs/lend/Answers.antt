use mathlib.Core.Path.{◌≡◌, ◌∙◌}
use mathlib.Core.List.{List}
use Prim.Native.Nat.{ℕ}
use native.Mathlib.Omega.{arith}
use Rattle.model.specs.Scene.{Scene}
use Rattle.placing.specs.Walk.{Walked}
use Rattle.placing.proofs.lend.Goals as goal

-- what the slices hold when the walk that borrows them ends
ended : (s : Scene) (w p o w₁ p₁ o₁ w' p' o' : List ℕ) (n c : ℕ)
    → Walked s (record { from = w; to = w₁ }) (record { from = p; to = p₁ }) (record { from = o; to = o₁ }) n c
    → w' ≡ w₁ → p' ≡ p₁ → o' ≡ o₁
    → Walked s (record { from = w; to = w' }) (record { from = p; to = p' }) (record { from = o; to = o' }) n c
ended s w p o w₁ p₁ o₁ w' p' o' n c h a b e =
    record { walk = a ∙ h.walk; places = b ∙ h.places; order = e ∙ h.order; counted = h.counted; entries = h.entries }

pub returns : goal.returns
returns c =
    ended _ _ _ _ _ _ _ _ _ _ _ _ c.fill.ensures.walked (grind arith) (grind arith) (grind arith)
