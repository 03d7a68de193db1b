use Rattle.std.proofs.Common.{◌<◌, length, arith}
use Rattle.std.proofs.lemmas.List.{take_more_set}
use lib.ListN.{length-set}
use Rattle.lists.proofs.Inputs.{one_read, ended, full, fewer}
use Rattle.lists.proofs.Copying.{put_one}
use Rattle.lists.proofs.reading.read_fields.Goals as goal

pub loop-count-preserved : goal.loop-count-preserved
loop-count-preserved g c =
    let l = c.loop-count in
    let word = c.in-Field.word in
    let room : l.count < length l.out = omega (arith, c.loop-count-test.true, l.auto.out) in
    let bytes = g.R.Read.remaining in (
      put_one _ _ _ _ l.invariant.0 room,
      one_read (bytes c.args.input.now) (bytes l.input) (bytes c.read.new.input) _ _ _ _ _ _ _ room (length-set l.out l.count word)
          (take_more_set l.out l.count word room) c.in-Field.is l.invariant.1 c.in_ok-next.ensures,
    )

pub returns-in_default : goal.returns-in_default
returns-in_default g c =
    let l = c.loop-count in
    record {
      ok = l.invariant.0;
      err = tt;
      known = ended _ _ _ _ _ _ _ l.invariant.1 c.in_ok-next.ensures c.is_end-whole.ensures c.in_default.not-Field;
      taken = fewer _ _ _ _ _ _ _ l.invariant.1 c.in_ok-next.ensures;
    }

pub returns-clause-known : goal.returns-clause-known
returns-clause-known g c =
    let l = c.loop-count in
    full _ _ _ _ _ _ _ l.invariant.1 c.in_ok-read.ensures c.is_end-whole-2.ensures (omega (arith, c.loop-count-test.false, l.auto.count-end))
