use mathlib.Core.Path.{refl, ap, ◌∙◌}
use Prim.Native.Nat.{ℕ}
use borrow.Author.Rules.{rules}
use Rattle.refusals.proofs.Told.{not-none}
use Rattle.spelling.specs.Pushed.{out_at, pushes}
use Rattle.printing.specs.Lines.{number_text}
use Rattle.text_baking.proofs.Answers.{prints, refused-put, readable, baked-put}
use Rattle.text_baking.proofs.bake_text.Goals as goal

pub returns-in-Err : goal.returns-in-Err
returns-in-Err c =
    prints _ _ (search rules) (refused-put _ _ c.in-Err.ensures (not-none c.in-Err.refusal)
    (c.put_number.ensures ∙ ap (λ (n : ℕ). pushes (number_text n) (out_at c.args.out.now 0)) c.from.ensures))

pub bake_reading-requires : goal.bake_reading-requires
bake_reading-requires c = readable _ c.in-Ok.ensures refl

pub returns-in-Ok : goal.returns-in-Ok
returns-in-Ok c =
    prints _ _ (search rules) (baked-put _ _ c.in-Ok.ensures refl c.bake_reading.ensures)
