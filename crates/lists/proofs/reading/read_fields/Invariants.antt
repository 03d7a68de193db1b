use Rattle.std.proofs.Common.{length, take}
use Rattle.lists.specs.Fields.{Put}
use Rattle.lists.proofs.Inputs.{Reading}
use Rattle.lists.proofs.reading.read_fields.Given as goal

abbrev pub invariant-loop-count : goal.invariant-loop-count
invariant-loop-count g l =
    Put l.initial.out l.out l.count
    × Reading (g.R.Read.remaining l.initial.input) (g.R.Read.remaining l.input) (length l.out) (take l.count l.out) l.count
