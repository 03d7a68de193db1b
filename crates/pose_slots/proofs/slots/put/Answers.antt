use mathlib.Core.Path.{◌≡◌, refl, ap, ◌∙◌}
use Prim.Native.Nat.{◌+◌, ◌<◌}
use native.Mathlib.Omega.{arith}
use borrow.Author.Rules.{rules}
use lib.ListN.{length}
use lib.Seq.{paste, paste-zero}
use Rattle.pose_slots.proofs.SlotLaws.{one_more}
use Rattle.pose_slots.proofs.slots.put.Goals as goal

pub loop-k-init : goal.loop-k-init
loop-k-init g c = (search rules, refl, paste-zero c.args.s.now c.args.at c.args.v)

pub loop-k-preserved : goal.loop-k-preserved
loop-k-preserved g c =
    let l = c.loop-k in
    let a = c.args in
    let inside : a.at + l.k < length a.s.now = omega arith in
    let more : l.k < length a.v = omega arith in
    (search rules, search rules, one_more a.s.now _ a.at a.v l.k _ l.invariant.2 inside more)

pub returns : goal.returns
returns g c =
    let l = c.loop-k in
    let a = c.args in
    let e : l.k ≡ g.row.N = omega arith in
    l.invariant.2 ∙ ap (paste a.s.now a.at a.v) e
