-- No reason has the number 0.
use Rattle.std.proofs.Common.{◌≡◌, arith}
use Rattle.passed_over.specs.Told.{code_of}
use Rattle.passed_over.specs.declared.Reason.{Reason}
use Rattle.passed_over.specs.declared.Reason.TheVariants.{NoNode, UnevenLayout, UnfitKind, NoLength}

pub some-code : (r : Reason) → code_of r ≡ 0 → ⊥
some-code NoNode e = omega (arith, e)
some-code UnevenLayout e = omega (arith, e)
some-code UnfitKind e = omega (arith, e)
some-code NoLength e = omega (arith, e)
