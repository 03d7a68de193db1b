use native.Mathlib.Omega.{arith}
use Rattle.digits.proofs.PaddedLaws.{mirrored-packed}
use Rattle.digits.proofs.decimals.lowest_first.Goals as goal

pub returns : goal.returns
returns c =
    mirrored-packed c.args.bytes.now (λ i. omega (arith, c.type_inv.bytes i))
    c.two.ensures.0 c.two-2.ensures.0 c.two-3.ensures.0 c.two-4.ensures.0
