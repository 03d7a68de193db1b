use mathlib.Core.Path.{subst}
use Prim.Native.Nat.{ℕ, ◌≤◌}
use lib.ListN.{length}
use Rattle.lent_bytes.proofs.Decoding.{three-put}
use Rattle.lent_bytes.proofs.decode_floats.Goals as goal

pub returns : goal.returns
returns c =
    let a = c.args in
    three-put a.a.now a.b.now a.c.now a.room.now _ _ _
    (subst (λ (n : ℕ). n ≤ length a.room.now) c.count_of.ensures c.if-room-count_of.false)
    c.decode_at.ensures c.decode_at-2.ensures c.decode_at-3.ensures
