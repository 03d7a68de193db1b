use mathlib.Core.Path.{refl}
use native.Mathlib.Omega.{arith}
use Rattle.digits.proofs.StandingLaws.{first-stand}
use Rattle.digits.proofs.items.decimal_at.Goals as goal

pub returns-then-text-next-lt48 : goal.returns-then-text-next-lt48
returns-then-text-next-lt48 c =
    let r = c.in_ok-d.ensures in
    record {
      stands = first-stand c.in_ok-d.d.count (omega arith) r.few refl r.written;
      small = omega arith;
      inside = omega arith;
      stops = c.if-text-next-lt48.true;
    }
