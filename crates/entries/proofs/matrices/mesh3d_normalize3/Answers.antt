use mathlib.Core.Path.{ap}
use Rattle.scene.specs.Values.{unit_of}
use Rattle.entries.proofs.Cases.{with-some, with_none}
use Rattle.entries.proofs.matrices.mesh3d_normalize3.Goals as goal

pub returns-in-Some : goal.returns-in-Some
returns-in-Some c = with-some _ _ _ (cc (ap unit_of c.in-Some.is))

pub returns-in-None : goal.returns-in-None
returns-in-None c = with_none _ _ (cc (ap unit_of c.in-None.is))
