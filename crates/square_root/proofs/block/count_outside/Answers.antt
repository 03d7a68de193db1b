use Rattle.std.proofs.Common.{◌≡◌, ℕ, ◌+◌, ◌≤◌, ◌&&◌, eqb, get_or, drop, sym, refl, subst, arith, rules}
use lib.Ieee.{nan}
use Rattle.square_root.specs.Normal.{is_normal, all_normal}
use Rattle.square_root.proofs.Lanes.{one-most, count_next, count-done}
use Rattle.square_root.proofs.block.count_outside.Goals as goal

pub loop-i-init : goal.loop-i-init
loop-i-init c = (search rules, search rules, search rules, refl)

few : (c : goal.After-outside-n) → c.outside-n.result ≤ 1
few c = subst (λ (n : ℕ). n ≤ 1) (sym c.outside-n.ensures) (one-most (is_normal (get_or c.args.a c.loop-i.i nan)))

pub overflow_add-n : goal.overflow_add-n
overflow_add-n c = omega (arith, few c)

pub loop-i-preserved : goal.loop-i-preserved
loop-i-preserved c =
    let l = c.loop-i in
    let a = c.args.a in (
      search rules,
      omega (arith, few c),
      l.invariant.2,
      subst (λ (k : ℕ). eqb (l.n + k) 0 && all_normal (drop (l.i + 1) a) ≡ all_normal a) (sym c.outside-n.ensures) (count_next a l.n l.i l.invariant.3 (omega arith)),
    )

pub returns : goal.returns
returns c = let l = c.loop-i in count-done c.args.a l.n l.i l.invariant.3 (omega arith)
