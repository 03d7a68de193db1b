use Rattle.tables.specs.Decoded.{lent_of}
use Rattle.spelling.specs.Pushed.{out_at}
use Rattle.scene_writing.proofs.TableLaws.{Tables}
use Rattle.scene_writing.proofs.put_text.Given as goal

abbrev pub invariant-loop-k : goal.invariant-loop-k
invariant-loop-k l =
    Tables (lent_of l.lent) l.k (out_at l.initial.out l.initial.next) (out_at l.out l.next)
