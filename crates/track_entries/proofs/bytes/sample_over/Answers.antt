use mathlib.Core.Path.{refl, ap}
use borrow.Author.Rules.{rules}
use lib.ListN.{length}
use Rattle.std.proofs.Common.{Ok, Err}
use Rattle.wire.specs.Bytes.{floats_in}
use Rattle.tracks.specs.Tracks.{track_in}
use Rattle.track_entries.specs.Bytes.{Decoded}
use Rattle.track_entries.proofs.Decoding.{within}
use Rattle.track_entries.proofs.Delivering.{enough, as-sampled, wrote_nothing}
use Rattle.track_entries.proofs.bytes.sample_over.Goals as goal

pub deliver-requires : goal.deliver-requires
deliver-requires c =
    let a = c.args in
    enough (track_in (floats_in a.table.now) a.t) a.time _
    (within a.table.now a.t a.time (length a.room.now)) a.weights.now a.out.now c.requires
    (Ok c.in-Ok.sampled) c.sample_in.new.weights
    (ap (λ (d : Decoded). d.answer) c.in-Ok.ensures) (search rules)

pub returns-in-Ok : goal.returns-in-Ok
returns-in-Ok c =
    let a = c.args in
    record {
      answer =
          as-sampled (track_in (floats_in a.table.now) a.t) a.time _
          (within a.table.now a.t a.time (length a.room.now)) a.weights.now a.out.now
          c.requires (Ok c.in-Ok.sampled) c.sample_in.new.weights
          (ap (λ (d : Decoded). d.answer) c.in-Ok.ensures) _ _ _ _ c.deliver.ensures;
      room = ap (λ (d : Decoded). d.room) c.in-Ok.ensures;
    }

pub returns-in-Err : goal.returns-in-Err
returns-in-Err c =
    let a = c.args in
    rw c.refused.ensures (record {
      answer =
          as-sampled (track_in (floats_in a.table.now) a.t) a.time _
          (within a.table.now a.t a.time (length a.room.now)) a.weights.now a.out.now
          c.requires (Err c.in-Err.r) c.sample_in.new.weights
          (ap (λ (d : Decoded). d.answer) c.in-Err.ensures) _ _ _ _
          (wrote_nothing _ _ _ _ c.in-Err.r refl);
      room = ap (λ (d : Decoded). d.room) c.in-Err.ensures;
    })
