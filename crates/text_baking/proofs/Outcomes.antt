-- What is printed of a bake, from the number and the positions that it left. Assumes nothing.
use mathlib.Core.Path.{◌≡◌, sym, ap, ◌∙◌}
use Prim.Native.Nat.{ℕ, ◌≤◌}
use native.Mathlib.Omega.{arith}
use borrow.Author.Tests.{eq-eqb, ne_eqb}
use lib.Ieee.{Float}
use lib.ListN.{length, take, drop, length-append}
use lib.Seq.{take-append_seam}
use Rattle.model.specs.Lists.{pick}
use Rattle.model.specs.Bake.{Outcome, written}
use Rattle.model.specs.Bake as model
use Rattle.model.proofs.Demand.{measured}
use Rattle.tables.specs.Decoded.{Lent, scene_of}
use Rattle.checks.specs.Drawn.{tables_number}
use Rattle.bake.specs.declared.Answer.{Answer}
use Rattle.bake.specs.Baked as bake
use Rattle.spelling.specs.Pushed.{Out, pushes}
use Rattle.printing.specs.Lines.{vertices_text, number_text}
use Rattle.text_baking.specs.Printed.{room, bake_text}

module _ {l : Lent} {i : ℕ} {time : Float} {c : bake.Change} {a : Answer} (b : bake.Baked l i time c a)
    (lent : c.from ≡ room) where
  abbrev made : Outcome
  made = bake.outcome l i time room

  answer : bake.answer_of a ≡ made.answer
  answer = b.answer ∙ ap (λ (r : bake.Room). (bake.outcome l i time r).answer) lent

  number_is : a.number ≡ made.answer.refusal
  number_is = ap (λ (x : model.Answer). x.refusal) answer

  pub refused-put : (out : Out) {left : Out} → (a.number ≡ 0 → ⊥) → left ≡ pushes (number_text a.number) out
      → left ≡ pushes (bake_text l i time) out
  refused-put out h p =
      let no = sym (ne_eqb made.answer.refusal 0 (λ z. h (number_is ∙ z))) in
      p ∙ (λ j. pushes (pick (no j) (vertices_text made.output.positions) (number_text (number_is j))) out)

  -- the positions stand at the start of their output
  put : c.to.output.positions ≡ written made.output.positions c.from.output.positions
  unfolding bake.room_after
  put =
      ap (λ (r : bake.Room). r.output.positions) b.room
      ∙ ap (λ (r : bake.Room). written (bake.outcome l i time r).output.positions c.from.output.positions) lent

  count : a.positions ≡ length made.output.positions
  count =
      ap (λ (x : model.Answer). x.positions) answer
      ∙ (measured (tables_number l) (scene_of l) (bake.request_of i time room)).positions

  pub inside : a.positions ≤ length c.to.output.positions
  inside =
      let o = made.output.positions in
      omega (arith, count, ap length put, length-append o (drop (length o) c.from.output.positions))

  taken : take a.positions c.to.output.positions ≡ made.output.positions
  taken =
      let o = made.output.positions in
      (λ j. take (count j) (put j)) ∙ take-append_seam o (drop (length o) c.from.output.positions)

  pub accepted-put : (out : Out) {left : Out} → a.number ≡ 0
      → left ≡ pushes (vertices_text (take a.positions c.to.output.positions)) out
      → left ≡ pushes (bake_text l i time) out
  accepted-put out z p =
      let yes = sym (eq-eqb made.answer.refusal 0 (sym number_is ∙ z)) in
      p
      ∙ (λ j. pushes (vertices_text (taken j)) out)
      ∙ (λ j. pushes (pick (yes j) (vertices_text made.output.positions) (number_text made.answer.refusal)) out)
