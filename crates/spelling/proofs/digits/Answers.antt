use mathlib.Core.Path.{refl, sym, ap, ◌∙◌}
use native.Mathlib.Nat.{mod-lt}
use native.Mathlib.Omega.{arith}
use lib.ListN.{length}
use lib.Seq.{length-sets}
use Rattle.spelling.proofs.DigitLaws.{digits_more, digits-none}
use Rattle.spelling.proofs.digits.Goals.{then-this-ne0, else-this-ne0}
use Rattle.spelling.proofs.digits.Goals as goal

pub loop-k-init : goal.loop-k-init
loop-k-init g c = refl

pub letter-requires : goal.letter-requires
letter-requires g c = omega (arith, mod-lt c.loop-k.m c.requires.3)

pub loop-k-preserved : goal.loop-k-preserved
loop-k-preserved g c =
    elim c.if-this-ne0.branch [
      | then-this-ne0 w ↦
          digits_more _ _ _ _ _ c.loop-k-test.true w.letter.ensures w.out-is ∙ c.loop-k.invariant
      | else-this-ne0 w ↦
          digits_more _ _ _ _ _ c.loop-k-test.true w.letter-else-this-ne0.ensures (w.out-is ∙ w.store_byte.ensures)
          ∙ c.loop-k.invariant
    ]

pub shape_of-out : goal.shape_of-out
shape_of-out g c = simp length-sets at (ap length c.loop-k.invariant)

pub returns : goal.returns
returns g c = sym (digits-none _ _ _ _ _ c.loop-k-test.false) ∙ c.loop-k.invariant
