use mathlib.Core.Path.{subst}
use mathlib.Core.List.{List}
use Prim.Native.Nat.{ℕ}
use Rattle.graph.specs.Stack.{Rooted}
use Rattle.graph.proofs.walk.start.Goals as goal

pub returns : goal.returns
returns c =
    let s = c.args in
    subst (λ (codes : List ℕ). Rooted s.roots.now codes c.list_roots.new.ids c.list_roots.result c.list_roots.new.marks) (c.fill.ensures.after (λ _ e. e)) c.list_roots.ensures
