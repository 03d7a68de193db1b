use Rattle.std.proofs.Common.{◌≡◌, ◌^◌, ◌<◌, length, refl, arith, rules, below_none}
use Rattle.square_root.proofs.Lanes.{set_next}
use Rattle.square_root.proofs.Normals.{each-normal}
use Rattle.square_root.proofs.block.guesses.Goals as goal

pub loop-i-init : goal.loop-i-init
loop-i-init c = (search rules, refl, below_none _)

pub guess-requires : goal.guess-requires
guess-requires c =
    let a = c.args.a in
    let n : length a ≡ 16 = search rules in
    each-normal a c.requires c.loop-i.i (omega (arith, c.loop-i-test.true))

pub loop-i-preserved : goal.loop-i-preserved
loop-i-preserved c = let l = c.loop-i in (search rules, search rules, set_next (λ k x. x < 2 ^ 24) l.q l.i _ 0 (omega arith) l.invariant.2 c.guess.ensures)

pub returns : goal.returns
returns c k h = c.loop-i.invariant.2 k (omega (arith, c.loop-i-test.false))
