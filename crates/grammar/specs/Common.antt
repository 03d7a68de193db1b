-- How far two texts are the same. Definitions only.
use Rattle.std.specs.Prelude.{List, [], ◌∷◌, ℕ, suc, eqb}
use Rattle.model.specs.Lists.{pick}

-- how many bytes two texts have in common at their start
unfoldable pub common : List ℕ → List ℕ → ℕ
common [] t = 0
common (x ∷ s) [] = 0
common (x ∷ s) (y ∷ t) = pick (eqb x y) (suc (common s t)) 0
