use mathlib.Core.Path.{sym, ap, ◌∙◌}
use mathlib.Core.Bool.{Bool}
use mathlib.Core.List.{List}
use Prim.Native.Nat.{◌/◌}
use lib.Ieee.{Float}
use lib.ListN.{length}
use Rattle.model.specs.Lists.{pick}
use Rattle.deltas.specs.Deltas.{deltas_in}
use Rattle.mesh.proofs.blending.count_of.Goals as goal

pub returns-then-is_marked : goal.returns-then-is_marked
returns-then-is_marked c =
    let a = c.args in
    ap (λ (l : List Float). length l / 3) c.deltas_in.ensures
    ∙ ap (λ (m : Bool). pick m (length (deltas_in a.floats.now a.own) / 3) a.n) (sym c.if-is_marked.true ∙ c.is_marked.ensures)
