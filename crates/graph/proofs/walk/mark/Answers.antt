use mathlib.Core.Path.{ap, subst}
use mathlib.Core.List.{List}
use Prim.Native.Nat.{ℕ}
use native.Mathlib.Omega.{arith}
use lib.ListN.{length}
use Rattle.graph.specs.Stack.{Marked}
use Rattle.graph.proofs.Pushing.{zeros-most}
use Rattle.graph.proofs.Taking.{roots-wait, all-taken}
use Rattle.graph.proofs.walk.mark.Goals as goal

pub start-top-requires : goal.start-top-requires
start-top-requires c =
    omega (arith, ap length c.words_in-roots.ensures, c.requires.0)

pub drain-requires : goal.drain-requires
drain-requires c =
    let top = roots-wait _ (length c.args.marks.now) _ _ _ c.start-top.ensures in (
      omega (arith, top, ap length c.words_in-roots.ensures, zeros-most c.start-top.new.marks, c.start-top.auto.ids, c.start-top.auto.marks, c.requires.0, c.requires.1),
      omega (arith, c.start-top.auto.marks, c.requires.1),
    )

pub returns : goal.returns
returns c =
    let s = c.args in
    subst (λ (roots : List ℕ). Marked s.words.now s.graph.nodes roots (length s.marks.now) c.drain.new.marks) c.words_in-roots.ensures
    (all-taken _ _ _ _ _ c.start-top.ensures s.words.now s.graph.nodes _ c.start-top.auto.marks c.drain.ensures)
