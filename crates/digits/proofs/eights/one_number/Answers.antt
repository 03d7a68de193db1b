use native.Mathlib.Omega.{arith}
use Rattle.digits.proofs.EightLaws.{bytes_packed}
use Rattle.digits.proofs.eights.one_number.Goals as goal

pub returns : goal.returns
returns c =
    bytes_packed c.args.bytes.now c.requires (λ i. omega (arith, c.type_inv.bytes i))
    c.two.ensures.0 c.two-2.ensures.0 c.two-3.ensures.0 c.two-4.ensures.0
