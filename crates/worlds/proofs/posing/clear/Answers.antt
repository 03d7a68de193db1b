use mathlib.Core.Path.{ap, ◌∙◌}
use mathlib.Core.List.{List, ◌++◌}
use Prim.Native.Nat.{ℕ, ◌*◌}
use lib.Ieee.{Float}
use lib.ListN.{drop, replicate}
use lib.Seq.{length-take-le}
use Rattle.float.specs.F32.{zero32}
use Rattle.worlds.proofs.posing.clear.Goals as goal

pub returns : goal.returns
returns c =
    let a = c.args in
    let m = a.graph.nodes.count * 16 in
    ap (λ (z : List Float). z ++ drop m a.worlds.now)
    (c.fill.ensures.after (λ _ e. e) ∙ ap (λ (k : ℕ). replicate k zero32) (length-take-le m a.worlds.now c.requires))
