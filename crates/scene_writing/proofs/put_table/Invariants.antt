use Rattle.tables.specs.Decoded.{lent_of}
use Rattle.spelling.specs.Pushed.{out_at}
use Rattle.scene_writing.proofs.TableLaws.{Putting}
use Rattle.scene_writing.proofs.put_table.Given as goal

abbrev pub invariant-loop-i : goal.invariant-loop-i
invariant-loop-i l =
    Putting (lent_of l.lent) l.t l.k (out_at l.initial.out l.at) (out_at l.out l.next) l.i
