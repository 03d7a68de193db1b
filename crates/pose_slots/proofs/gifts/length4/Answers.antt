use mathlib.Core.List.{zip_with}
use Rattle.model.specs.Lists.{foldl}
use Rattle.model.specs.Vector.{total, dot, norm}
use Rattle.pose_slots.proofs.gifts.length4.Goals as goal

pub returns : goal.returns
unfolding norm dot total foldl zip_with
returns c = c.sqrt.ensures
