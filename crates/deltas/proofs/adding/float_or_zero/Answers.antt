use mathlib.Core.Path.{sym, ap}
use mathlib.Core.Bool.{Bool}
use borrow.Author.Tests.{lt-ltb, le-ltb}
use lib.Ieee.{nan}
use lib.ListN.{get_or}
use Rattle.float.specs.F32.{zero32}
use Rattle.model.specs.Lists.{pick}
use Rattle.deltas.proofs.adding.float_or_zero.Goals as goal

pub returns-then-k-n : goal.returns-then-k-n
returns-then-k-n c = let a = c.args in ap (λ (b : Bool). pick b (get_or a.floats.now a.k nan) zero32) (sym (lt-ltb a.k a.n c.if-k-n.true))

pub returns : goal.returns
returns c = let a = c.args in ap (λ (b : Bool). pick b (get_or a.floats.now a.k nan) zero32) (sym (le-ltb a.k a.n c.if-k-n.false))
