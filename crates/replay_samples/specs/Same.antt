-- Answers that are the same. Definitions only.
use Rattle.std.specs.Prelude.{Bool, ◌&&◌, eqb, Float}
use Rattle.std.specs.List.{list_all, zip}
use Rattle.comparing.specs.Near.{near_by}
use Rattle.replay_samples.specs.declared.answer.Answer.{Answer}

-- one number and one count, and each of the four numbers equal or less than `most` apart
abbrev pub same_answer : Answer → Answer → Float → Bool
same_answer x y most =
    eqb x.number y.number && eqb x.count y.count
    && list_all (λ (p : Float × Float). near_by p.0 p.1 most) (zip x.values y.values)
