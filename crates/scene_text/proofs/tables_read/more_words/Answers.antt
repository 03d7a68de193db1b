use Prim.Native.Nat.{◌+◌, ◌*◌, ◌≤◌}
use native.Mathlib.Omega.{arith}
use Rattle.spelling.specs.Pushed.{farthest}
use Rattle.scene_text.proofs.WordLaws.{none_more, in_reach, out-of-reach}
use Rattle.scene_text.proofs.tables_read.more_words.Goals as goal

pub returns-then-stride-eq0 : goal.returns-then-stride-eq0
returns-then-stride-eq0 c =
    let a = c.args in
    (none_more a.sum a.count a.stride c.if-stride-eq0.true c.requires, c.requires)

few : (c : goal.Then-count-sum) → let a = c.args in a.sum + a.count * a.stride ≤ farthest
few c =
    let a = c.args in
    in_reach a.sum a.count a.stride c.requires c.if-count-sum.true

pub returns : goal.returns
returns c =
    let a = c.args in
    omega (
      arith,
      out-of-reach a.sum a.count a.stride c.if-stride-eq0.false c.requires
          c.if-count-sum.false,
    )

pub overflow_mul-result : goal.overflow_mul-result
overflow_mul-result c = omega (arith, few c)

pub overflow_add-result : goal.overflow_add-result
overflow_add-result c = omega (arith, few c)

pub returns-then-count-sum : goal.returns-then-count-sum
returns-then-count-sum c = omega (arith, few c)
