use Prim.Native.Nat.{ℕ}
use Rattle.lent_bytes.specs.Bytes.{slices_of, Decoding, floats_of, count_of}
use Rattle.lent_bytes.proofs.Standing.{enough, all_read, all_there}
use Rattle.lent_bytes.proofs.decode.Goals as goal

pub returns : goal.returns
returns c =
    let b = slices_of c.args.lent in
    let d : Decoding = record { words = c.args.words.now; floats = c.args.floats.now } in
    let n = enough b d c.requires in
    let w = all_read (λ (x : ℕ). x) b.words d.words _ _ n.0 c.read.ensures in
    let f = all_there (count_of b.floats b.node_weights b.mesh_weights) (floats_of b.floats b.node_weights b.mesh_weights)
    d.floats _ n.1 c.decode_floats.ensures in
    λ j. record { words = w j; floats = f j }
