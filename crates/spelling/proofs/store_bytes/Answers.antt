use mathlib.Core.Path.{ap, ◌∙◌}
use mathlib.Core.List.{List}
use Prim.Native.Nat.{ℕ, ◌+◌}
use native.Mathlib.Omega.{arith}
use lib.ListN.{set, get_or}
use Rattle.std.proofs.lemmas.List.Edits.{paste_more}
use Rattle.spelling.proofs.store_bytes.Goals as goal

pub loop-i-preserved : goal.loop-i-preserved
loop-i-preserved c =
    let a = c.args in
    let i = c.loop-i.i in
    ap (λ (l : List ℕ). set l (a.at + i) (get_or a.bytes.now i 0)) c.loop-i.invariant
    ∙ paste_more a.out.now a.at a.bytes.now i 0 (omega arith) (omega arith)
