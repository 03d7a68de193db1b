use Rattle.lent_bytes.proofs.Decoding.{put-read}
use Rattle.lent_bytes.proofs.decode_at.Goals as goal

pub returns : goal.returns
returns c =
    put-read _ _ c.args.at c.args.room.now _ _ c.requires c.read.ensures
