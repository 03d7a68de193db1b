use mathlib.Core.Path.{◌≡◌, refl, sym}
use mathlib.Core.Bool.{Bool, true, false}
use Prim.Native.Nat.{ℕ, ◌+◌, ◌-◌, ◌≤◌}
use native.Mathlib.Omega.{arith}
use borrow.Author.Tests.{lt-ltb, le-ltb, ltb-true, ltb-false}
use lib.Dec.{ltb}
use Rattle.worlds.proofs.numbers.walk_is_short.Goals as goal

-- what is left past the roots is below the children
left_below : (walk roots children : ℕ) → roots ≤ walk → ltb (walk - roots) children ≡ ltb walk (roots + children)
left_below walk roots children h = go (ltb (walk - roots) children) refl
  where
    go : (b : Bool) → ltb (walk - roots) children ≡ b → b ≡ ltb walk (roots + children)
    go true e = sym (lt-ltb walk (roots + children) (omega (arith, ltb-true (walk - roots) children e)))
    go false e = sym (le-ltb walk (roots + children) (omega (arith, ltb-false (walk - roots) children e)))

pub returns-then-walk-roots : goal.returns-then-walk-roots
returns-then-walk-roots c = let a = c.args in sym (lt-ltb a.walk (a.roots + a.children) (omega (arith, c.if-walk-roots.true)))

pub returns : goal.returns
returns c = let a = c.args in left_below a.walk a.roots a.children c.if-walk-roots.false
