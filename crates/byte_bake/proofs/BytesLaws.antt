-- A bake on bytes that is refused as far as 7, and one that gets past it. Assumes nothing.
use mathlib.Core.Path.{◌≡◌, refl, sym, ◌∙◌, subst}
use mathlib.Core.Bool.{false}
use mathlib.Core.Logic.{◌⊎◌, inl, inr}
use mathlib.Core.List.{List}
use mathlib.Core.Option.{Option, none, some}
use Prim.Native.Nat.{ℕ, zero, suc}
use borrow.Author.Tests.{eq-eqb, ne_eqb}
use lib.Ieee.{Float}
use Rattle.borrowed.specs.Slices.{Change}
use Rattle.model.specs.Lists.{pick, is_some}
use Rattle.model.specs.Scene.{Scene, Mesh, mesh_at}
use Rattle.model.specs.Matrix.{Matrix}
use Rattle.model.specs.Refusals.{lowest, early_number}
use Rattle.model.specs.Bake as model
use Rattle.model.proofs.Numbers.{neither-drawn}
use Rattle.wire.specs.Bytes.{written_as}
use Rattle.tables.specs.declared.Header.{Header}
use Rattle.tables.specs.Decoded.{Lent, scene_of}
use Rattle.checks.specs.Drawn.{tables_number}
use Rattle.bake_stages.specs.Scratch.{room_of, scratch_left}
use Rattle.bake.specs.declared.Answer.{Answer}
use Rattle.bake.specs.Baked.{Room}
use Rattle.lent_bytes.specs.Bytes.{SceneBytes, Decoding, lent_by, drawn_by, decoded_to}
use Rattle.byte_checks.specs.Numbers.{early_in, first_in}
use Rattle.byte_baking.specs.Output.{ByteOutput, with_output}
use Rattle.byte_baking.specs.Baked.{request_in, outcome_in, is_reached, room_in, BakedIn}
use Rattle.byte_bake.specs.Baked.{BakedBytes}

-- ---- refused

after-number : (n : ℕ) (s : Scene) (r : model.Request) → (n ≡ 0 → ⊥) → model.baked_after n s r ≡ model.refused n
unfolding model.baked_after
after-number zero s r d = absurd (d refl)
after-number (suc n) s r d = refl

judged-without : (r : model.Request) (n : ℕ) (posed own : Option (List Float)) (m : Option Mesh) (w : Option Matrix) (p : Option (Option (List Matrix))) → m ≡ none
    → model.judged r n posed own m w p ≡ model.refused 7
unfolding model.judged
judged-without r n posed own m w p q = λ j. model.judged r n posed own (q j) w p

without-mesh : (s : Scene) (r : model.Request) → mesh_at s r.node ≡ none → model.baked_after 0 s r ≡ model.refused 7
unfolding model.baked_after model.baked_from
without-mesh s r q = judged-without r _ _ _ (mesh_at s r.node) _ _ q

-- a number as far as 7 that is not 0 is one as far as 6, or 7 without a mesh
first-is : (e : ℕ) (m : Option Mesh) (n : ℕ) → n ≡ lowest e (pick (is_some m) 0 7) → (n ≡ 0 → ⊥) → (e ≡ n) ⊎ ((e ≡ 0) × (m ≡ none) × (n ≡ 7))
first-is zero none n p d = inr (refl, refl, p)
first-is zero (some m) n p d = absurd (d p)
first-is (suc e) m n p d = inl (sym p)

module _ (b : SceneBytes) (h : Header) (i : ℕ) (time : Float) (d : Decoding) (r : Room) (o : ByteOutput) (n : ℕ) (p : n ≡ first_in (drawn_by b d) (lent_by b h) i time (room_of r.scratch)) where
  abbrev l : Lent
  l = lent_by b h

  abbrev early : ℕ
  early = early_in (drawn_by b d) l time (room_of r.scratch)

  module _ (Some-number : n ≡ 0 → ⊥) where
    outcome-refused : outcome_in (drawn_by b d) l i time r o ≡ model.refused n
    outcome-refused = go (first-is early (mesh_at (scene_of l) i) n p Some-number)
      where
        go : (early ≡ n) ⊎ ((early ≡ 0) × (mesh_at (scene_of l) i ≡ none) × (n ≡ 7)) → outcome_in (drawn_by b d) l i time r o ≡ model.refused n
        go (inl e) = (λ j. model.baked_after (e j) (scene_of l) (request_in i time r o)) ∙ after-number n (scene_of l) (request_in i time r o) Some-number
        go (inr e) =
            (λ j. model.baked_after (e.0 j) (scene_of l) (request_in i time r o)) ∙ without-mesh (scene_of l) (request_in i time r o) e.1
            ∙ (λ j. model.refused (sym e.2 j))

    not-reached : is_reached (drawn_by b d) l i time r ≡ false
    not-reached = ne_eqb (first_in (drawn_by b d) l i time (room_of r.scratch)) 0 (λ e. Some-number (p ∙ e))

    pub refused-bytes : BakedBytes b h i time (record { from = d; to = d }) (record { from = r; to = r }) (record { from = o; to = o }) (record { number = n; positions = 0; normals = 0; tangents = 0; taken = 0 })
    unfolding room_in written_as
    refused-bytes = record {
      baked = record {
        answer = λ j. (sym outcome-refused j).answer;
        room = sym (λ j. record {
          scratch = pick (not-reached j) (scratch_left l time r.scratch) r.scratch;
          output = record {
            positions = model.written (outcome-refused j).output.positions r.output.positions;
            normals = model.written (outcome-refused j).output.normals r.output.normals;
            tangents = model.written (outcome-refused j).output.tangents r.output.tangents;
          };
        });
        bytes = sym (λ j. with_output (outcome-refused j).output o);
      };
      decoded = sym (λ j. pick (not-reached j) (decoded_to b d) d);
    }

-- ---- past 7

module _ (b : SceneBytes) (h : Header) (i : ℕ) (time : Float) (d : Decoding) (c : Change Room) (o : Change ByteOutput) (n : ℕ) (p : n ≡ first_in (drawn_by b d) (lent_by b h) i time (room_of c.from.scratch)) (None-number : n ≡ 0) where
  -- the room is long enough
  pub long-enough : drawn_by b d ≡ 0
  long-enough =
      let e = early_number (tables_number (lent_by b h)) (scene_of (lent_by b h)) time (room_of c.from.scratch) in
      (neither-drawn e (drawn_by b d) (neither-drawn (lowest e (drawn_by b d)) _ (sym p ∙ None-number)).0).1

  pub baked-bytes : (left : Decoding) (a : Answer) → left ≡ decoded_to b d → BakedIn 0 (lent_by b h) i time c o a
      → BakedBytes b h i time (record { from = d; to = left }) c o a
  baked-bytes left a e k = record {
    baked = subst (λ (g : ℕ). BakedIn g (lent_by b h) i time c o a) (sym long-enough) k;
    decoded = e ∙ sym (λ j. pick (eq-eqb (first_in (drawn_by b d) (lent_by b h) i time (room_of c.from.scratch)) 0 (sym p ∙ None-number) j) (decoded_to b d) d);
  }

-- ---- of an equal scene, or time

pub same-lent : {l m : Lent} {i : ℕ} {time : Float} {c : Change Room} {o : Change ByteOutput} {a : Answer} → l ≡ m → BakedIn 0 l i time c o a → BakedIn 0 m i time c o a
same-lent {i = i} {time = time} {c = c} {o = o} {a = a} e k = subst (λ (x : Lent). BakedIn 0 x i time c o a) e k

pub same-time : {l : Lent} {i : ℕ} {t u : Float} {c : Change Room} {o : Change ByteOutput} {a : Answer} → t ≡ u → BakedIn 0 l i t c o a → BakedIn 0 l i u c o a
same-time {l = l} {i = i} {c = c} {o = o} {a = a} e k = subst (λ (x : Float). BakedIn 0 l i x c o a) e k
