-- Arrays of which a part was lent. Assumes nothing.
use Rattle.std.proofs.Common.{◌≡◌, ℕ, ◌-◌, sym, ap, ◌∙◌, List, ◌++◌, length, take, drop, drop_at, arith}
use Rattle.std.specs.Prelude.{Float, replicate}
use lib.Seq.{length-take-le}
use Rattle.std.proofs.lemmas.List.{drop-replicate}
use Rattle.float.specs.F32.{zero32}
use Rattle.model.specs.Written.{Wrote}
use Rattle.scene_lists.specs.Bakes.{Padded}

-- behind what was copied to an array of zeros there are zeros
pub padded : (entries xs array left : List Float) (n : ℕ) → Wrote entries (replicate 96 zero32) array n → length xs ≡ n → xs ≡ left
    → Padded left (xs ++ drop n array)
padded entries xs array left n w h e =
    ap (λ (l : List Float). xs ++ l)
    (ap (drop n) w.slice
    ∙ drop_at (take n entries) (drop n (replicate 96 zero32)) n (length-take-le n entries (omega (arith, w.counted)))
    ∙ drop-replicate n 96 zero32
    ∙ ap (λ (k : ℕ). replicate (96 - k) zero32) (sym h))
    ∙ (λ j. e j ++ replicate (96 - length (e j)) zero32)
