-- Room for as many weights as a frame can have. Assumes nothing.
use mathlib.Core.Path.{◌≡◌, refl, sym}
use mathlib.Core.Bool.{Bool, true, false, true≢false, ◌&&◌, ◌||◌}
use lib.Dec.{ltb}
use lib.Ieee.{Float}
use lib.ListN.{length}
use Rattle.model.specs.Limits.{key_limit, weight_limit}
use Rattle.model.specs.Scene.{Track}
use Rattle.model.specs.Sampling.{even, stride}
use Rattle.model.specs.Refusals.{is_scalars, track_over_limit}
use Rattle.model.proofs.Numbers.{short_for}

-- it is enough for an even track that is not over size
pub roomy : (t : Track) (time : Float) → track_over_limit t ≡ false → even t ≡ true → short_for t time weight_limit ≡ false
roomy t time over e =
    go (ltb key_limit (length t.keys)) (is_scalars t.kind) (even t) (ltb weight_limit (stride t)) over e
  where
    go : (p s e l : Bool) → (p || (s && e && l)) ≡ false → e ≡ true → (s && l) ≡ false
    go true s e l h q = absurd (true≢false h)
    go false true true l h q = h
    go false true false l h q = absurd (true≢false (sym q))
    go false false e l h q = refl
