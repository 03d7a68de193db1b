use mathlib.Core.Path.{◌≡◌}
use Prim.Native.Nat.{ℕ, ◌*◌, ◌<◌}
use native.Mathlib.Nat.{mul-pos}
use native.Mathlib.Omega.{arith}
use Rattle.tracks.proofs.Layouts.{no_keys, not-even, is-even}
use Rattle.tracks.proofs.layout.even_stride.Goals as goal

-- there are rows

some : (n f : ℕ) → (n ≡ 0 → ⊥) → 0 < f → 0 < n * f
some n f h g = mul-pos (omega arith) g

pub returns-then-keys-eq0 : goal.returns-then-keys-eq0
returns-then-keys-eq0 c = no_keys _ _ _ c.if-keys-eq0.true

pub returns-then-count-rows-ne0 : goal.returns-then-count-rows-ne0
returns-then-count-rows-ne0 c = not-even _ _ _ c.if-count-rows-ne0.true

pub returns : goal.returns
returns c = let a = c.args in is-even a.keys a.count a.factor (omega (arith, c.if-keys-eq0.false)) c.if-count-rows-ne0.false
