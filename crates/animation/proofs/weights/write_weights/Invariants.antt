use Rattle.model.specs.Scene.{scalars}
use Rattle.model.proofs.Filling.{Filled}
use Rattle.animation.specs.SourceRows.{from_rows}
use Rattle.animation.proofs.weights.write_weights.Given as goal

abbrev pub invariant-loop-j : goal.invariant-loop-j
invariant-loop-j l = Filled (from_rows scalars l.n l.centre l.frames l.blend) l.initial.out l.n l.out l.j
