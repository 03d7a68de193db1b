use mathlib.Core.List.{List}
use Prim.Native.Nat.{ℕ}
use Rattle.spelling.specs.Pushed.{out_at}
use Rattle.spelling.proofs.Pushing.{Going}
use Rattle.spelling.proofs.put_bytes.Given as goal

abbrev pub text : List ℕ → List ℕ
text l = l

abbrev pub invariant-loop-b : goal.invariant-loop-b
invariant-loop-b l = Going text l.bytes (out_at l.initial.out l.at) (out_at l.out l.k) l.b-index
