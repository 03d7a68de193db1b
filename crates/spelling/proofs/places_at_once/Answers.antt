use native.Mathlib.Omega.{arith}
use Rattle.spelling.proofs.DigitLaws.{places-at-once}
use Rattle.spelling.proofs.places_at_once.Goals as goal

pub returns : goal.returns
returns c =
    let n = c.args.n in (
      omega (
        arith,
        places-at-once n,
        c.above.ensures.0,
        c.above-2.ensures.0,
        c.above-3.ensures.0,
        c.above-4.ensures.0,
        c.above-5.ensures.0,
        c.above-6.ensures.0,
        c.above-7.ensures.0,
        c.above-8.ensures.0,
        c.above-9.ensures.0,
      ),
      omega (
        arith,
        c.above.ensures.1,
        c.above-2.ensures.1,
        c.above-3.ensures.1,
        c.above-4.ensures.1,
        c.above-5.ensures.1,
        c.above-6.ensures.1,
        c.above-7.ensures.1,
        c.above-8.ensures.1,
        c.above-9.ensures.1,
      ),
    )
