-- Demand 3, of this very bake: however the other nodes of a shared scene are changed, what a node's bake answers and puts out stays the same.
-- Assumes nothing.
use mathlib.Core.Path.{◌≡◌, sym, ap, ◌∙◌, subst}
use Prim.Native.Nat.{ℕ, ◌/◌, ◌≤◌, min}
use lib.Ieee.{Float}
use lib.ListN.{take}
use Rattle.model.specs.Bake as model
use Rattle.model.specs.Agree.{Agree, Past6}
use Rattle.model.proofs.Demand as proved
use Rattle.tables.specs.Decoded.{Lent, scene_of}
use Rattle.checks.specs.Drawn.{tables_number}
use Rattle.bake.specs.declared.Answer.{Answer}
use Rattle.bake.specs.Baked.{Room, Change, request_of, outcome, room_after, Baked}
use Rattle.bake.specs.Isolation.{SameLengths, NotRefusedEarly, SameShown}
use Rattle.bake.proofs.TablesRange.{tables-at-most-2}

same-request : (i : ℕ) (time : Float) (r s : Room) → SameLengths r s → request_of i time r ≡ request_of i time s
same-request i time r s e = λ j. record {
  node = i;
  time = time;
  scratch = record {
    walk_room = e.walk j / 2;
    pose_slots = min (e.marks j / 4) (e.slots j / 10);
    world_slots = min (e.places j) (e.worlds j / 16);
  };
  position_room = e.positions j;
  normal_room = e.normals j;
  tangent_room = e.tangents j;
}

-- the outputs that a call leaves
record Outputs (o : model.Outcome) (lent left : model.Output) : Type 0 where
  positions : left.positions ≡ model.written o.output.positions lent.positions
  normals : left.normals ≡ model.written o.output.normals lent.normals
  tangents : left.tangents ≡ model.written o.output.tangents lent.tangents

module _ (l : Lent) (i : ℕ) (time : Float) (c : Change) (a : Answer) (b : Baked l i time c a) where
  outputs : Outputs (outcome l i time c.from) c.from.output c.to.output
  unfolding room_after
  outputs =
      let e = b.room in
      record { positions = λ j. (e j).output.positions; normals = λ j. (e j).output.normals; tangents = λ j. (e j).output.tangents }

  past : NotRefusedEarly a → Past6 (outcome l i time c.from)
  past h = subst (λ (n : ℕ). 1 ≤ n → n ≤ 6 → ⊥) (λ j. (b.answer j).refusal) h

pub isolated : (l₁ l₂ : Lent) (i : ℕ) (time : Float) (c₁ c₂ : Change) (a₁ a₂ : Answer)
    → Baked l₁ i time c₁ a₁ → Baked l₂ i time c₂ a₂
    → SameLengths c₁.from c₂.from → Agree (scene_of l₁) (scene_of l₂) i → NotRefusedEarly a₁ → NotRefusedEarly a₂
    → SameShown a₁ a₂ c₁.to c₂.to
isolated l₁ l₂ i time c₁ c₂ a₁ a₂ b₁ b₂ e h p₁ p₂ =
    let lent₁ = c₁.from in
    let lent₂ = c₂.from in
    let q = same-request i time lent₁ lent₂ e in
    let o : outcome l₁ i time lent₁ ≡ model.bake (tables_number l₁) (scene_of l₁) (request_of i time lent₂) = ap (model.bake (tables_number l₁) (scene_of l₁)) q in
    let s = proved.demand (scene_of l₁) (scene_of l₂) (request_of i time lent₂) h (tables_number l₁) (tables_number l₂) (tables-at-most-2 l₁) (tables-at-most-2 l₂)
    (subst Past6 o (past l₁ i time c₁ a₁ b₁ p₁)) (past l₂ i time c₂ a₂ b₂ p₂) lent₁.output lent₂.output in
    let x = outputs l₁ i time c₁ a₁ b₁ in
    let y = outputs l₂ i time c₂ a₂ b₂ in
    let u = b₁.answer ∙ (λ j. (o j).answer) in
    let v = b₂.answer in
    let w = u ∙ s.answer ∙ sym v in
    record {
      number = λ j. (w j).refusal;
      position-length = λ j. (w j).positions;
      normal-length = λ j. (w j).normals;
      tangent-length = λ j. (w j).tangents;
      entries = λ j. (w j).taken;
      positions = (λ j. take (u j).positions ((x.positions ∙ (λ k. model.written (o k).output.positions lent₁.output.positions)) j)) ∙ s.positions ∙ sym (λ j. take (v j).positions (y.positions j));
      normals = (λ j. take (u j).normals ((x.normals ∙ (λ k. model.written (o k).output.normals lent₁.output.normals)) j)) ∙ s.normals ∙ sym (λ j. take (v j).normals (y.normals j));
      tangents = (λ j. take (u j).tangents ((x.tangents ∙ (λ k. model.written (o k).output.tangents lent₁.output.tangents)) j)) ∙ s.tangents ∙ sym (λ j. take (v j).tangents (y.tangents j));
    }
