use Rattle.std.proofs.Common.{◌≡◌, length, le_trans, arith, rules, below_none, below_more}
use lib.Bits.{and_le_l, and_le_r}
use Rattle.square_root.proofs.Normals.{each-normal}
use Rattle.square_root.proofs.block.near_roots.Goals as goal

pub loop-i-init : goal.loop-i-init
loop-i-init c = (search rules, λ t. below_none _)

pub near_root-d-requires : goal.near_root-d-requires
near_root-d-requires c =
    let a = c.args.a in
    let i = c.loop-i.i in
    let n : length a ≡ 16 = search rules in
    let h = c.loop-i-test.true in
    (each-normal a c.requires.0 i (omega arith), c.requires.1 i h)

pub loop-i-preserved : goal.loop-i-preserved
loop-i-preserved c =
    let l = c.loop-i in (
      search rules,
      λ t. below_more _ l.i (l.invariant.1 (le_trans t (and_le_l l.d c.near_root-d.result))) (c.near_root-d.ensures (le_trans t (and_le_r l.d c.near_root-d.result))),
    )

pub returns : goal.returns
returns c t k h = c.loop-i.invariant.1 t k (omega (arith, c.loop-i-test.false))
