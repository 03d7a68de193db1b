use Rattle.std.proofs.Common.{◌≡◌, ℕ, List, Float, Result, Ok, Err}
use Rattle.refusals.specs.declared.Refusal.{Refusal}
use Rattle.refusals.specs.Drawn.{number_drawn, count_of}
use Rattle.outputs.specs.Output.{CopiedOut}
use Rattle.outputs.proofs.Copying.{copied-as, copies-out}
use Rattle.skin.specs.declared.Answer.{Answer}
use Rattle.skin.specs.Calls.{answer_of}
use Rattle.skin_entries.proofs.mesh3d_effective_weights_floats.Goals as goal

-- what C is told of a copied result
told-as : (drawn : ℕ) (result lent left : List Float) (r : Result ℕ Refusal) (a : Answer) → a ≡ answer_of r
    → CopiedOut drawn result lent left (number_drawn r) (count_of r) → CopiedOut drawn result lent left a.number a.length
told-as drawn result lent left (Ok n) a e h = rw e h
told-as drawn result lent left (Err x) a e h = rw e h

pub returns : goal.returns
returns c =
    told-as _ _ _ _ _ _ c.from.ensures
    (copied-as _ _ _ _ _ _ _ _ c.check_weights-drawn.ensures c.effective_morph_weights-weights.ensures
    (copies-out _ _ _ _ _ c.copy_out.ensures))
