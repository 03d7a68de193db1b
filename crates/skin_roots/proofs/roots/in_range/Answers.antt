use mathlib.Core.Path.{sym, ap}
use mathlib.Core.Bool.{Bool}
use mathlib.Core.Option.{Option, none, some}
use Prim.Native.Nat.{ℕ}
use borrow.Author.Tests.{lt-ltb, le-ltb}
use Rattle.model.specs.Lists.{pick}
use Rattle.skin_roots.proofs.roots.in_range.Goals as goal

abbrev named : ℕ → Bool → Option ℕ
named id b = pick b (some id) none

pub returns-then-id-n : goal.returns-then-id-n
returns-then-id-n c = let a = c.args in ap (named a.id) (sym (lt-ltb a.id a.n c.if-id-n.true))

pub returns : goal.returns
returns c = let a = c.args in ap (named a.id) (sym (le-ltb a.id a.n c.if-id-n.false))
