-- The first i tangents are done.
use mathlib.Core.Path.{◌≡◌, refl, sym, ap, ◌∙◌}
use Prim.Native.Nat.{◌+◌, ◌*◌}
use native.Mathlib.Omega.{arith}
use borrow.Author.Rules.{rules}
use lib.ListN.{set}
use lib.Seq.{lt-length-set}
use Rattle.deltas.proofs.AddLaws.{xyz_done, none-moved, xyz-step, xyz-rows}
use Rattle.deltas.proofs.adding.add_tangents.Goals as goal

pub loop-i-init : goal.loop-i-init
loop-i-init c = let a = c.args in (omega arith, refl, sym (none-moved a.w a.out.now a.deltas.now))

pub bounds-out-o-in-loop-i-4 : goal.bounds-out-o-in-loop-i-4
bounds-out-o-in-loop-i-4 c = let l = c.loop-i in lt-length-set l.out (l.i * 4) _ (search rules)

pub bounds-out-o-in-loop-i-5 : goal.bounds-out-o-in-loop-i-5
bounds-out-o-in-loop-i-5 c = let l = c.loop-i in lt-length-set (set l.out (l.i * 4) _) (l.i * 4 + 1) _ (lt-length-set l.out (l.i * 4) _ (search rules))

pub loop-i-preserved : goal.loop-i-preserved
loop-i-preserved c =
    let a = c.args in
    let l = c.loop-i in
    (omega arith, search rules, xyz-step a.w a.out.now a.deltas.now l.out l.i l.invariant.2 (search rules))

pub returns : goal.returns
returns c =
    let a = c.args in
    let l = c.loop-i in
    let e : l.i ≡ c.min-n.result = omega arith in
    l.invariant.2 ∙ ap (xyz_done a.w a.out.now a.deltas.now) (e ∙ c.min-n.ensures) ∙ xyz-rows a.w a.out.now a.deltas.now
