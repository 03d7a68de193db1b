use mathlib.Core.Path.{sym}
use native.Mathlib.Omega.{arith}
use borrow.Author.Rules.{rules}
use lib.Ieee.{binary32, of_bits}
use lib.Seq.{length-take-le}
use Rattle.wire.proofs.Reading.{count, read_all}
use Rattle.track_entries.proofs.Decoding.{sampled-of, all_read}
use Rattle.track_entries.proofs.bytes.sample_decoded.Goals as goal

pub slice_bounds-sample-end-2 : goal.slice_bounds-sample-end-2
slice_bounds-sample-end-2 c = sym (length-take-le _ _ (search rules))

pub returns : goal.returns
returns c =
    let a = c.args in (
      sampled-of _ _ a.t a.time a.weights.now _
          (read_all (of_bits binary32) _ _ _ _ c.read-n.ensures c.requires)
          c.sample.ensures,
      all_read _ _ _ _ c.read-n.ensures
          (omega (arith, c.requires, count (of_bits binary32) a.table.now)),
    )
