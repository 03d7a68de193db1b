use mathlib.Core.Path.{refl}
use Rattle.lent_bytes.proofs.standing_in.Goals as goal

pub returns : goal.returns
returns c = refl
