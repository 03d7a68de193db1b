use mathlib.Core.Path.{sym, ap, ◌∙◌}
use Prim.Native.Nat.{ℕ}
use lib.Dec.{eqb}
use lib.ListN.{get_or-eq_default}
use Rattle.skin_roots.proofs.Leads.{eqb-turned}
use Rattle.skin_roots.proofs.lines.stands_at.Goals as goal

pub returns : goal.returns
returns c =
    let a = c.args in
    eqb-turned a.m 0 ∙ ap (λ (v : ℕ). eqb v a.m) (sym (get_or-eq_default a.counts.now 0 c.if-a-counts.false))
