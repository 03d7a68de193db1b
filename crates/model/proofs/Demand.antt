-- Demand 3 in its own words: the answers are equal, and each output is up to the length that the answer gives for it, whatever the outputs held
-- on entry. Assumes nothing.
use mathlib.Core.Path.{◌≡◌, refl, sym, ap, ◌∙◌}
use mathlib.Core.Bool.{Bool, true, false}
use mathlib.Core.List.{List, map}
use mathlib.Core.Option.{Option, none, some}
use Prim.Native.Nat.{ℕ, zero, suc, ◌≤◌}
use lib.Ieee.{Float}
use lib.ListN.{length, take, drop}
use lib.Seq.{take-append_seam}
use Rattle.model.specs.Lists.{pick}
use Rattle.model.specs.Matrix.{Matrix}
use Rattle.model.specs.Scene.{Scene, Mesh}
use Rattle.model.specs.Skin.{blend_weights}
use Rattle.model.specs.Refusals.{early_number}
use Rattle.model.specs.Bake.{Request, Outcome, Output, written, refused, fits, output_of, baked_primitive, delivered, judged, baked_from, baked_after, bake}
use Rattle.model.specs.Agree.{Agree, Past6, SameBake}
use Rattle.model.proofs.Isolation.{isolation}

-- the answer gives the lengths of the results
pub record Measured (o : Outcome) : Type 0 where
  pub positions : o.answer.positions ≡ length o.output.positions
  pub normals : o.answer.normals ≡ length o.output.normals
  pub tangents : o.answer.tangents ≡ length o.output.tangents

measured-refused : (k : ℕ) → Measured (refused k)
measured-refused k = record { positions = refl; normals = refl; tangents = refl }

measured-delivered : (r : Request) (n : ℕ) (s : Output) → Measured (delivered r n s)
unfolding delivered
measured-delivered r n s = go (fits r s)
  where
    go : (b : Bool) → Measured (pick b (record { answer = record { refusal = 0; positions = length s.positions; normals = length s.normals; tangents = length s.tangents; taken = n }; output = s }) (refused 10))
    go true = record { positions = refl; normals = refl; tangents = refl }
    go false = measured-refused 10

measured-judged : (r : Request) (n : ℕ) (posed own : Option (List Float)) (m : Option Mesh) (w : Option Matrix) (p : Option (Option (List Matrix)))
    → Measured (judged r n posed own m w p)
unfolding judged
measured-judged r n posed own none w p = measured-refused 7
measured-judged r n posed own (some m) none p = measured-refused 8
measured-judged r n posed own (some m) (some w) none = measured-refused 9
measured-judged r n posed own (some m) (some w) (some p) = measured-delivered r n (output_of (map (baked_primitive w p (blend_weights posed own m)) m.primitives))

measured-after : (g : ℕ) (s : Scene) (r : Request) → Measured (baked_after g s r)
unfolding baked_after baked_from
measured-after zero s r = measured-judged r _ _ _ _ _ _
measured-after (suc g) s r = measured-refused (suc g)

pub measured : (g : ℕ) (s : Scene) (r : Request) → Measured (bake g s r)
unfolding bake
measured g s r = measured-after (early_number g s r.time r.scratch) s r

seen : (n : ℕ) (l lent : List Float) → n ≡ length l → take n (written l lent) ≡ l
seen n l lent e = ap (λ (k : ℕ). take k (written l lent)) e ∙ take-append_seam l (drop (length l) lent)

pub demand : (s₁ s₂ : Scene) (r : Request) → Agree s₁ s₂ r.node
    → (g₁ g₂ : ℕ) → g₁ ≤ 2 → g₂ ≤ 2 → Past6 (bake g₁ s₁ r) → Past6 (bake g₂ s₂ r)
    → (lent₁ lent₂ : Output) → SameBake (bake g₁ s₁ r) (bake g₂ s₂ r) lent₁ lent₂
demand s₁ s₂ r h g₁ g₂ b₁ b₂ p₁ p₂ lent₁ lent₂ =
    let e : bake g₁ s₁ r ≡ bake g₂ s₂ r = isolation s₁ s₂ r h g₁ g₂ b₁ b₂ p₁ p₂ in
    let m₁ = measured g₁ s₁ r in
    let m₂ = measured g₂ s₂ r in
    record {
      answer = λ j. (e j).answer;
      positions = seen _ _ lent₁.positions m₁.positions ∙ (λ j. (e j).output.positions) ∙ sym (seen _ _ lent₂.positions m₂.positions);
      normals = seen _ _ lent₁.normals m₁.normals ∙ (λ j. (e j).output.normals) ∙ sym (seen _ _ lent₂.normals m₂.normals);
      tangents = seen _ _ lent₁.tangents m₁.tangents ∙ (λ j. (e j).output.tangents) ∙ sym (seen _ _ lent₂.tangents m₂.tangents);
    }
