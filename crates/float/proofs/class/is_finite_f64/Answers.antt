use Rattle.std.proofs.Common.{◌∙◌}
use Rattle.float.proofs.Classes.{is-finite}
use Rattle.float.proofs.class.is_finite_f64.Goals as goal

pub returns : goal.returns
returns c = c.is_finite.ensures.value ∙ is-finite c.args.x
