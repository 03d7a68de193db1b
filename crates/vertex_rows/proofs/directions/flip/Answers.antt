use mathlib.Core.Path.{refl}
use Rattle.vertex_rows.specs.Rows.{flipped}
use Rattle.vertex_rows.proofs.directions.flip.Goals as goal

pub returns : goal.returns
unfolding flipped
returns c = refl
