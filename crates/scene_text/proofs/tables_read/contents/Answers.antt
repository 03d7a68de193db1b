use Prim.Native.Nat.{◌%◌}
use Rattle.scene_text.proofs.tables_read.contents.Goals as goal

pub returns : goal.returns
returns c = λ i. record {
  header = c.header_from.ensures i;
  node = c.args.f.place.request.node % 0x1_0000_0000;
  time = c.from_bits.ensures i;
}
