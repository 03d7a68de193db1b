use mathlib.Core.Path.{refl, sym, ◌∙◌}
use Prim.Native.Nat.{ℕ}
use Rattle.refusals.specs.declared.Refusal.TheVariants.{OverLimit}
use Rattle.model.specs.Scene.{Track}
use Rattle.model.specs.Calls.{sampled}
use Rattle.track_entries.proofs.Decoding.{refused-with}
use Rattle.track_entries.proofs.Naming.{table-draws, by_name, without-name}
use Rattle.track_entries.proofs.floats.sample_row.Goals as goal

pub returns-then-is_unnamed : goal.returns-then-is_unnamed
returns-then-is_unnamed c =
    let a = c.args in
    without-name (λ (g : ℕ) (tr : Track). sampled g tr a.time a.out.now) a.floats.now
    a.row _ refl _ (table-draws _ _) (sym c.is_unnamed.ensures ∙ c.if-is_unnamed.true) _
    (λ tr. refused-with tr a.time a.out.now 2 OverLimit refl)

pub returns : goal.returns
returns c =
    let a = c.args in
    by_name (λ (g : ℕ) (tr : Track). sampled g tr a.time a.out.now) a.floats.now
    a.row _ refl _ (table-draws _ _)
    (sym c.is_unnamed.ensures ∙ c.if-is_unnamed.false) _ c.track_of.ensures _ c.sample.ensures
