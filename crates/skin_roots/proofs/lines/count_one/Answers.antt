use mathlib.Core.Path.{sym, ap}
use mathlib.Core.Bool.{Bool}
use Prim.Native.Nat.{◌+◌}
use borrow.Author.Tests.{eq-eqb, ne_eqb}
use lib.ListN.{get_or, set}
use Rattle.model.specs.Lists.{pick}
use Rattle.skin_roots.specs.Lines.{count_one}
use Rattle.skin_roots.proofs.Leads.{count_past}
use Rattle.skin_roots.proofs.lines.count_one.Goals as goal

pub returns-then-counts-a : goal.returns-then-counts-a
unfolding count_one
returns-then-counts-a c =
    let a = c.args in
    ap (λ (b : Bool). pick b (set a.counts.now a.a (a.t + 1)) a.counts.now) (sym (eq-eqb (get_or a.counts.now a.a 0) a.t c.if-counts-a.true))

pub returns-else-counts-a : goal.returns-else-counts-a
unfolding count_one
returns-else-counts-a c =
    let a = c.args in
    ap (λ (b : Bool). pick b (set a.counts.now a.a (a.t + 1)) a.counts.now) (sym (ne_eqb (get_or a.counts.now a.a 0) a.t c.if-counts-a.false))

pub returns-else-a-counts : goal.returns-else-a-counts
returns-else-a-counts c = let a = c.args in count_past a.t a.counts.now a.a c.if-a-counts.false
