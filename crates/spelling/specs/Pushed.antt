-- Bytes put into an output from a place on, one after the other, as far as there is room; the place goes on past the
-- end, so that one function measures and writes. Definitions only.
use Rattle.std.specs.Prelude.{◌≡◌, List, [], ◌∷◌, ℕ, suc, min, set}
use Rattle.borrowed.specs.Slices.{Words}

-- an output, and the place of its next byte
pub record Out : Type 0 where
  pub bytes : List ℕ
  pub at : ℕ

abbrev pub out_at : List ℕ → ℕ → Out
out_at bytes at = record { bytes = bytes; at = at }

-- no slice is so long; the place stands still there
abbrev pub farthest : ℕ
farthest = 0x8000_0000_0000_0000

abbrev pub push : ℕ → Out → Out
push b o = out_at (set o.bytes o.at b) (min (suc o.at) farthest)

unfoldable pub pushes : List ℕ → Out → Out
pushes [] o = o
pushes (b ∷ bs) o = pushes bs (push b o)

-- the place behind them
unfoldable pub behind : ℕ → List ℕ → ℕ
behind at [] = at
behind at (b ∷ bs) = behind (min (suc at) farthest) bs

-- what a function that puts bytes promises of the output, the place that it is given and the one that it answers
abbrev pub Puts : List ℕ → Words → ℕ → ℕ → Type 0
Puts bs out at next = out_at out.exit.now next ≡ pushes bs (out_at out.entry.now at)
