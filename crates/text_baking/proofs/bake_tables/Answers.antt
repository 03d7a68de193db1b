use mathlib.Core.Path.{refl, sym, ap, ◌∙◌}
use Prim.Native.Nat.{ℕ}
use lib.Seq.{length-take-le}
use Rattle.refusals.proofs.Told.{not-none}
use Rattle.spelling.specs.Pushed.{out_at, pushes}
use Rattle.printing.specs.Lines.{number_text}
use Rattle.text_baking.specs.Printed.{room}
use Rattle.text_baking.proofs.Outcomes.{refused-put, inside, accepted-put}
use Rattle.text_baking.proofs.bake_tables.Goals as goal

pub slice_bounds-put_vertices-end : goal.slice_bounds-put_vertices-end
unfolding room
slice_bounds-put_vertices-end c = sym (length-take-le _ _ (inside c.in-Ok.ensures.baked refl))

pub returns-in-Ok : goal.returns-in-Ok
unfolding room
returns-in-Ok c = accepted-put c.in-Ok.ensures.baked refl _ refl c.put_vertices.ensures

pub returns-in-Err : goal.returns-in-Err
unfolding room
returns-in-Err c =
    refused-put c.in-Err.ensures.baked refl _ (not-none c.in-Err.refusal)
    (c.put_number.ensures ∙ ap (λ (n : ℕ). pushes (number_text n) (out_at c.args.out.now 0)) c.from.ensures)
