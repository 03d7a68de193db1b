use Prim.Native.Nat.{◌+◌}
use native.Mathlib.Omega.{arith}
use Rattle.spelling.proofs.DigitLaws.{last-length}
use Rattle.spelling.proofs.Pushing.{put-sets}
use Rattle.spelling.proofs.put_digits.Goals as goal

pub returns : goal.returns
returns c =
    let a = c.args in
    let ds = last-length a.base a.count a.n in
    put-sets _ _ _ (a.count + 1) (omega arith) (omega (arith, ds)) (omega arith) c.spaced_digits.ensures
    c.advanced-next.ensures
