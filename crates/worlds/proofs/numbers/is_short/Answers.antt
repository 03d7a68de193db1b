use mathlib.Core.Path.{ap, ◌∙◌}
use Prim.Native.Nat.{ℕ}
use Rattle.worlds.specs.Rooms.{short_for}
use Rattle.worlds.proofs.numbers.is_short.Goals as goal

pub returns : goal.returns
returns c =
    let a = c.args in
    c.is_short_for.ensures
    ∙ ap (λ (n : ℕ). short_for n a.graph a.space.walk a.space.poses a.space.worlds) c.child_entries.ensures
