-- The loop's invariant: v times what the steps that are left give from g on is the whole series.
use borrow.Author.Rules.{rules}
use mathlib.Core.Path.{◌≡◌, refl}
use native.Mathlib.Omega.{arith}
use Prim.Native.Nat.{ℕ, zero, suc, ◌-◌, ◌≤◌, ◌<◌}
use native.Mathlib.Nat.{lt_irrefl, not-suc-le-zero}
use native.Mathlib.Numerals.{sub-one}
use lib.Ieee.{Float, of_bits, of_int}
use Rattle.float.specs.F64.{◌⊖◌, ◌⊗◌, one64}
use Rattle.turn.specs.Weight.{step, steps, series}
use Rattle.turn.proofs.series.Goals as goal

first : (v c : Float) → v ⊗ steps 40 (v ⊗ v) (one64 ⊖ c) one64 ≡ series v c
unfolding series of_bits of_int
first v c = refl

again : (i : ℕ) (v vv d g r x : Float) → 0 < i → r ≡ step i vv d g → v ⊗ steps i vv d g ≡ x → v ⊗ steps (i - 1) vv d r ≡ x
unfolding steps
again zero v vv d g r x h e s = absurd (lt_irrefl 0 h)
again (suc k) v vv d g r x h e s = rw (sub-one, e) s

ended : (i : ℕ) (v vv d g x : Float) → i ≤ 0 → v ⊗ steps i vv d g ≡ x → v ⊗ g ≡ x
unfolding steps
ended zero v vv d g x h s = s
ended (suc k) v vv d g x h s = absurd (not-suc-le-zero h)

pub loop-i-init : goal.loop-i-init
loop-i-init c = (search rules, first c.args.v c.args.c)

pub loop-i-preserved : goal.loop-i-preserved
loop-i-preserved c = (search rules, again _ _ _ _ _ _ _ c.loop-i-test.true c.series_step-g.ensures c.loop-i.invariant.1)

pub returns : goal.returns
returns c = ended c.loop-i.i _ _ _ _ _ (omega arith) c.loop-i.invariant.1
