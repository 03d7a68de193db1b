use mathlib.Core.Path.{◌≡◌, ap, ◌∙◌}
use mathlib.Core.List.{List}
use Prim.Native.Nat.{ℕ, ◌+◌, ◌*◌, ◌-◌, ◌≤◌}
use native.Mathlib.Omega.{arith}
use lib.Ieee.{binary32, of_bits}
use lib.ListN.{length, take, drop}
use Rattle.wire.specs.Bytes.{floats_in}
use Rattle.wire.proofs.Reading as reading
use Rattle.wire.proofs.Parts.{part-read}
use Rattle.tracks.specs.Tracks.{table_number}
use Rattle.tracks.specs.declared.Track.{Track}
use Rattle.tracks.proofs.Drawn.{clear, keys-inside}
use Rattle.byte_tracks.proofs.keys_of.Goals as goal

-- the bytes of the keys lie in the table
in_bytes : (table : List ℕ) (t : Track) → table_number (floats_in table) t ≡ 0
    → t.keys.at * 4 + t.keys.count * 4 ≤ length table
in_bytes table t none =
    let all = reading.count (of_bits binary32) table in
    omega (arith, keys-inside (floats_in table) t (clear (floats_in table) t none).inside, all)

pub overflow_mul-start : goal.overflow_mul-start
overflow_mul-start c = omega (arith, in_bytes c.args.table.now c.args.t c.requires)

pub overflow_mul-end : goal.overflow_mul-end
overflow_mul-end c = omega (arith, in_bytes c.args.table.now c.args.t c.requires)

pub overflow_add-end : goal.overflow_add-end
overflow_add-end c = omega (arith, in_bytes c.args.table.now c.args.t c.requires)

pub slice_bounds-result-end : goal.slice_bounds-result-end
slice_bounds-result-end c = omega (arith, in_bytes c.args.table.now c.args.t c.requires)

pub returns : goal.returns
returns c =
    let table = c.args.table.now in
    let keys = c.args.t.keys in
    let e : keys.at * 4 + keys.count * 4 - keys.at * 4 ≡ keys.count * 4 = omega arith in
    ap (λ (n : ℕ). floats_in (take n (drop (keys.at * 4) table))) e
    ∙ part-read (of_bits binary32) table keys.at keys.count (in_bytes table c.args.t c.requires)
