-- Demand 3, of the bake on bytes: however the other nodes of a shared scene are changed, what a node's bake answers and
-- puts out stays the same, byte for byte. Assumes nothing.
use mathlib.Core.Path.{◌≡◌, refl, sym, ap, ◌∙◌, subst}
use mathlib.Core.Bool.{Bool, true, false, ◌||◌}
use mathlib.Core.List.{List}
use Prim.Native.Nat.{ℕ, zero, suc, ◌*◌, ◌/◌, ◌≤◌, min}
use native.Mathlib.Omega.{arith}
use lib.Dec.{ltb}
use lib.Ieee.{Float, binary32, to_bits}
use lib.ListN.{length, take, drop}
use lib.Seq.{take_at}
use Rattle.borrowed.specs.Slices.{Change}
use Rattle.model.specs.Lists.{pick}
use Rattle.model.specs.Scene.{Scene}
use Rattle.model.specs.Refusals.{lowest, early_number}
use Rattle.model.specs.Bake as model
use Rattle.model.specs.Agree.{Agree, Past6}
use Rattle.model.proofs.Numbers.{early-le}
use Rattle.model.proofs.Isolation.{isolation}
use Rattle.model.proofs.Demand.{measured}
use Rattle.wire.specs.Bytes.{bytes_of}
use Rattle.wire.proofs.Writing.{bytes-length}
use Rattle.tables.specs.declared.Header.{Header}
use Rattle.tables.specs.Decoded.{scene_of}
use Rattle.checks.specs.Drawn.{tables_number}
use Rattle.bake_stages.specs.Scratch.{room_of}
use Rattle.bake.specs.declared.Answer.{Answer}
use Rattle.bake.specs.Baked.{Room, answer_of}
use Rattle.bake.specs.Isolation.{NotRefusedEarly}
use Rattle.bake.proofs.TablesRange.{tables-at-most-2}
use Rattle.lent_bytes.specs.Bytes.{SceneBytes, Decoding, count_of, lent_by, drawn_by}
use Rattle.byte_baking.specs.Output.{ByteOutput, with_floats}
use Rattle.byte_baking.specs.Baked.{request_in, outcome_in}
use Rattle.byte_bake.specs.Baked.{BakedBytes}
use Rattle.byte_bake.specs.Isolation.{SameLengths, SameShown}

-- ---- the outcome of one run

drawn-low : (p q : Bool) → pick (p || q) 6 0 ≤ 6
drawn-low true q = omega arith
drawn-low false true = omega arith
drawn-low false false = omega arith

after-number : (n : ℕ) (s : Scene) (r : model.Request) → n ≤ 6 → Past6 (model.baked_after n s r) → n ≡ 0
unfolding model.baked_after
after-number zero s r h p = refl
after-number (suc n) s r h p = absurd (p (omega arith) h)

lowest-low : (e g : ℕ) → e ≤ 6 → g ≤ 6 → lowest e g ≤ 6
lowest-low zero g h k = k
lowest-low (suc e) g h k = h

both-none : (e g : ℕ) → lowest e g ≡ 0 → lowest e g ≡ e
both-none zero g z = z
both-none (suc e) g z = refl

module _ (b : SceneBytes) (h : Header) (i : ℕ) (time : Float) (d : Decoding) (r : Room) (o : ByteOutput) where
  abbrev outcome : model.Outcome
  outcome = outcome_in (drawn_by b d) (lent_by b h) i time r o

  -- past 6 it is the bake of the model
  bake-itself : Past6 outcome → outcome ≡ model.bake (tables_number (lent_by b h)) (scene_of (lent_by b h)) (request_in i time r o)
  unfolding model.bake
  bake-itself p =
      let l = lent_by b h in
      let e = early_number (tables_number l) (scene_of l) time (room_of r.scratch) in
      let low = lowest-low e (drawn_by b d) (early-le (tables_number l) (scene_of l) time (room_of r.scratch) (tables-at-most-2 l)) (drawn-low (ltb (length d.words) (length b.words / 4)) (ltb (length d.floats) (count_of b.floats b.node_weights b.mesh_weights))) in
      let z = after-number (lowest e (drawn_by b d)) (scene_of l) (request_in i time r o) low p in
      λ j. model.baked_after (both-none e (drawn_by b d) z j) (scene_of l) (request_in i time r o)

same-request : (i : ℕ) (time : Float) (r s : Room) (o p : ByteOutput) → SameLengths r s o p → request_in i time r o ≡ request_in i time s p
same-request i time r s o p e = λ j. record {
  node = i;
  time = time;
  scratch = record {
    walk_room = e.room.walk j / 2;
    pose_slots = min (e.room.marks j / 4) (e.room.slots j / 10);
    world_slots = min (e.room.places j) (e.room.worlds j / 16);
  };
  position_room = min (e.room.positions j) (e.positions j / 4);
  normal_room = min (e.room.normals j) (e.normals j / 4);
  tangent_room = min (e.room.tangents j) (e.tangents j / 4);
}

-- ---- what one output shows

shown : (n : ℕ) (result : List Float) (lent left : List ℕ) → n ≡ length result → left ≡ with_floats result lent → take (4 * n) left ≡ bytes_of result
shown n result lent left e w =
    let m = bytes-length (to_bits binary32) result in
    ap (take (4 * n)) w ∙ take_at (bytes_of result) (drop (length (bytes_of result)) lent) (4 * n) (omega (arith, m, e))

as-answer : (a b : Answer) → answer_of a ≡ answer_of b → a ≡ b
as-answer a b e = λ j. record { number = (e j).refusal; positions = (e j).positions; normals = (e j).normals; tangents = (e j).tangents; taken = (e j).taken }

pub isolated-bytes : (b₁ b₂ : SceneBytes) (h₁ h₂ : Header) (i : ℕ) (time : Float) (d₁ d₂ : Change Decoding) (c₁ c₂ : Change Room) (o₁ o₂ : Change ByteOutput) (a₁ a₂ : Answer)
    → BakedBytes b₁ h₁ i time d₁ c₁ o₁ a₁ → BakedBytes b₂ h₂ i time d₂ c₂ o₂ a₂
    → SameLengths c₁.from c₂.from o₁.from o₂.from → Agree (scene_of (lent_by b₁ h₁)) (scene_of (lent_by b₂ h₂)) i
    → NotRefusedEarly a₁ → NotRefusedEarly a₂ → SameShown a₁ a₂ o₁.to o₂.to
isolated-bytes b₁ b₂ h₁ h₂ i time d₁ d₂ c₁ c₂ o₁ o₂ a₁ a₂ k₁ k₂ e agree p₁ p₂ =
    let l₁ = lent_by b₁ h₁ in
    let l₂ = lent_by b₂ h₂ in
    let x₁ = outcome_in (drawn_by b₁ d₁.from) l₁ i time c₁.from o₁.from in
    let x₂ = outcome_in (drawn_by b₂ d₂.from) l₂ i time c₂.from o₂.from in
    let r₁ = request_in i time c₁.from o₁.from in
    let r₂ = request_in i time c₂.from o₂.from in
    let past₁ : Past6 x₁ = subst (λ (n : ℕ). 1 ≤ n → n ≤ 6 → ⊥) (λ j. (k₁.baked.answer j).refusal) p₁ in
    let past₂ : Past6 x₂ = subst (λ (n : ℕ). 1 ≤ n → n ≤ 6 → ⊥) (λ j. (k₂.baked.answer j).refusal) p₂ in
    let y₁ : x₁ ≡ model.bake (tables_number l₁) (scene_of l₁) r₂
    = bake-itself b₁ h₁ i time d₁.from c₁.from o₁.from past₁ ∙ ap (model.bake (tables_number l₁) (scene_of l₁)) (same-request i time c₁.from c₂.from o₁.from o₂.from e) in
    let y₂ = bake-itself b₂ h₂ i time d₂.from c₂.from o₂.from past₂ in
    let same : x₁ ≡ x₂
    = y₁
    ∙ isolation (scene_of l₁) (scene_of l₂) r₂ agree (tables_number l₁) (tables_number l₂) (tables-at-most-2 l₁) (tables-at-most-2 l₂) (subst Past6 y₁ past₁) (subst Past6 y₂ past₂)
    ∙ sym y₂ in
    let m₁ = measured (tables_number l₁) (scene_of l₁) r₂ in
    let m₂ = measured (tables_number l₂) (scene_of l₂) r₂ in
    record {
      answer = as-answer a₁ a₂ (k₁.baked.answer ∙ (λ j. (same j).answer) ∙ sym k₂.baked.answer);
      positions =
          shown a₁.positions x₁.output.positions o₁.from.positions o₁.to.positions
          ((λ j. ((k₁.baked.answer ∙ (λ n. (y₁ n).answer)) j).positions) ∙ m₁.positions ∙ (λ j. length (sym y₁ j).output.positions)) (λ j. (k₁.baked.bytes j).positions)
          ∙ (λ j. bytes_of (same j).output.positions)
          ∙ sym (shown a₂.positions x₂.output.positions o₂.from.positions o₂.to.positions
          ((λ j. ((k₂.baked.answer ∙ (λ n. (y₂ n).answer)) j).positions) ∙ m₂.positions ∙ (λ j. length (sym y₂ j).output.positions)) (λ j. (k₂.baked.bytes j).positions));
      normals =
          shown a₁.normals x₁.output.normals o₁.from.normals o₁.to.normals
          ((λ j. ((k₁.baked.answer ∙ (λ n. (y₁ n).answer)) j).normals) ∙ m₁.normals ∙ (λ j. length (sym y₁ j).output.normals)) (λ j. (k₁.baked.bytes j).normals)
          ∙ (λ j. bytes_of (same j).output.normals)
          ∙ sym (shown a₂.normals x₂.output.normals o₂.from.normals o₂.to.normals
          ((λ j. ((k₂.baked.answer ∙ (λ n. (y₂ n).answer)) j).normals) ∙ m₂.normals ∙ (λ j. length (sym y₂ j).output.normals)) (λ j. (k₂.baked.bytes j).normals));
      tangents =
          shown a₁.tangents x₁.output.tangents o₁.from.tangents o₁.to.tangents
          ((λ j. ((k₁.baked.answer ∙ (λ n. (y₁ n).answer)) j).tangents) ∙ m₁.tangents ∙ (λ j. length (sym y₁ j).output.tangents)) (λ j. (k₁.baked.bytes j).tangents)
          ∙ (λ j. bytes_of (same j).output.tangents)
          ∙ sym (shown a₂.tangents x₂.output.tangents o₂.from.tangents o₂.to.tangents
          ((λ j. ((k₂.baked.answer ∙ (λ n. (y₂ n).answer)) j).tangents) ∙ m₂.tangents ∙ (λ j. length (sym y₂ j).output.tangents)) (λ j. (k₂.baked.bytes j).tangents));
    }
