use mathlib.Core.Path.{sym, ap, ◌∙◌}
use mathlib.Core.Bool.{Bool, ◌&&◌}
use Prim.Native.Nat.{ℕ}
use lib.Dec.{eqb}
use Rattle.deltas.specs.Betweens.{betweens_in, sharing}
use Rattle.deltas.proofs.betweens.is_kept.Goals as goal

pub returns-then-is_valid : goal.returns-then-is_valid
returns-then-is_valid c =
    let a = c.args in
    let all = betweens_in a.lent.words.now a.lent.floats.now a.lent.header a.betweens in
    ap (λ (n : ℕ). eqb n 1) c.sharing_weight.ensures
    ∙ ap (λ (b : Bool). b && eqb (sharing all a.w) 1) (sym c.if-is_valid.true ∙ c.is_valid.ensures)

pub returns : goal.returns
returns c =
    let a = c.args in
    let all = betweens_in a.lent.words.now a.lent.floats.now a.lent.header a.betweens in
    ap (λ (b : Bool). b && eqb (sharing all a.w) 1) (sym c.if-is_valid.false ∙ c.is_valid.ensures)
