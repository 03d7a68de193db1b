use Rattle.std.proofs.Common.{◌≡◌, length, refl, arith, rules, below_none}
use Rattle.square_root.proofs.Lanes.{taken_next, taken-all}
use Rattle.square_root.proofs.Normals.{each-normal}
use Rattle.square_root.proofs.block.roots_by.Goals as goal

pub loop-i-init : goal.loop-i-init
loop-i-init c = (search rules, refl, search rules, below_none _)

pub root_by-requires : goal.root_by-requires
root_by-requires c =
    let a = c.args.a in
    let i = c.loop-i.i in
    let n : length a ≡ 16 = search rules in
    let h = c.loop-i-test.true in
    (each-normal a c.requires.0 i (omega arith), c.requires.1 i h)

pub loop-i-preserved : goal.loop-i-preserved
loop-i-preserved c = let l = c.loop-i in taken_next c.args.a l.out l.i _ c.loop-i-test.true l.invariant c.root_by.ensures

pub returns : goal.returns
returns c = let l = c.loop-i in taken-all c.args.a l.out l.i c.loop-i-test.false l.invariant
