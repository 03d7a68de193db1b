use mathlib.Core.Path.{◌≡◌, sym, ◌∙◌, subst}
use lib.ListN.{take, drop}
use Prim.Native.Nat.{ℕ, ◌+◌, ◌*◌, ◌<◌}
use Rattle.tables.proofs.rows.row.Goals as goal

pub whole-own-requires : goal.whole-own-requires
whole-own-requires g c = subst (λ (n : ℕ). 0 < n) (sym c.WORDS-n.ensures) g.T.Record.laws.some

pub returns-then-own-n : goal.returns-then-own-n
returns-then-own-n g c =
    let a = c.args in
    let e = c.WORDS-n.ensures in
    c.read.ensures
    ∙ (λ j. g.T.Record.said c.whole-own.result.now (c.alone.ensures j) 0)
    ∙ g.T.Record.laws.own a.words.now a.t a.i c.whole-own.result.now
    (subst (λ (n : ℕ). c.whole-own.result.now ≡ take n (drop (a.t.at + a.i * n) a.words.now)) e (c.whole-own.ensures c.if-own-n.true))
