use mathlib.Core.Path.{refl}
use native.Mathlib.Omega.{arith}
use Rattle.digits.proofs.StandingLaws.{float-stands}
use Rattle.digits.proofs.items.float_at.Goals as goal

pub returns-then-text-next-lt48 : goal.returns-then-text-next-lt48
returns-then-text-next-lt48 c =
    let r = c.in_ok-value.ensures in
    record {
      stands = float-stands (omega arith) refl r.written r.value;
      small = omega arith;
      inside = omega arith;
      stops = c.if-text-next-lt48.true;
    }
