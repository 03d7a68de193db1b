-- The numbers of a bake, test by test, and what tables, time and room are ready for once none of 1 to 6 is drawn. Assumes nothing.
use mathlib.Core.Path.{◌≡◌, refl, sym, ap, ◌∙◌, subst}
use mathlib.Core.Bool.{Bool, true, false}
use Prim.Native.Nat.{ℕ, zero, suc, ◌≤◌}
use native.Mathlib.Omega.{arith}
use lib.Ieee.{Float, is_nan}
use Rattle.model.specs.Lists.{pick}
use Rattle.model.specs.Refusals.{first_of, lowest, some_keys_out_of_line, Scratch, scratch_is_short, early_number}
use Rattle.model.proofs.Numbers.{lowest-some}
use Rattle.tables.specs.Decoded.{Lent, scene_of}
use Rattle.tables.proofs.Decoding.{node-count}
use Rattle.checks.specs.Drawn.{tables_number}
use Rattle.checks.proofs.Clearing.{checked}
use Rattle.placing.proofs.Linked.{room-linked}
use Rattle.pose.proofs.CallLaws.{none-drawn, few-channels, all-in-line}
use Rattle.worlds.specs.Rooms.{short_in}
use Rattle.worlds.proofs.Answering.{short-is}
use Rattle.worlds.proofs.Delivering.{enough}
use Rattle.bake_stages.specs.Scratch.{Slices, room_of, Ready}

-- ---- 1 to 6
module _ (l : Lent) (time : Float) (room : Scratch) where
  pub drawn-first : (g : ℕ) → g ≡ tables_number l → (g ≡ 0 → ⊥) → g ≡ early_number (tables_number l) (scene_of l) time room
  unfolding early_number
  drawn-first g e d = lowest-some g _ d ∙ ap (λ (k : ℕ). early_number k (scene_of l) time room) e

  pub early-tests : (n k b : Bool) → tables_number l ≡ 0 → is_nan time ≡ n → some_keys_out_of_line (scene_of l) ≡ k → scratch_is_short (scene_of l) room ≡ b
      → pick n 3 (pick k 5 (pick b 6 0)) ≡ early_number (tables_number l) (scene_of l) time room
  unfolding early_number first_of
  early-tests n k b z p q r = sym (λ j. lowest (z j) (pick (p j) 3 (pick (q j) 5 (pick (r j) 6 0))))

  pub early-short : (n k b : Bool) → tables_number l ≡ 0 → is_nan time ≡ n → some_keys_out_of_line (scene_of l) ≡ k
      → short_in l.words l.header.graph room.walk_room room.pose_slots room.world_slots ≡ b
      → pick n 3 (pick k 5 (pick b 6 0)) ≡ early_number (tables_number l) (scene_of l) time room
  early-short n k b z p q r = early-tests n k b z p q (sym (short-is l room z) ∙ r)

  pub early-accepted : early_number (tables_number l) (scene_of l) time room ≡ 0 → (tables_number l ≡ 0) × (is_nan time ≡ false) × (some_keys_out_of_line (scene_of l) ≡ false) × (scratch_is_short (scene_of l) room ≡ false)
  unfolding early_number first_of
  early-accepted h = go (tables_number l) (is_nan time) (some_keys_out_of_line (scene_of l)) (scratch_is_short (scene_of l) room) h
    where
      go : (g : ℕ) (n k b : Bool) → lowest g (pick n 3 (pick k 5 (pick b 6 0))) ≡ 0 → (g ≡ 0) × (n ≡ false) × (k ≡ false) × (b ≡ false)
      go zero false false false h = (refl, refl, refl, refl)
      go zero false false true h = absurd (omega (arith, h))
      go zero false true b h = absurd (omega (arith, h))
      go zero true k b h = absurd (omega (arith, h))
      go (suc g) n k b h = absurd (omega (arith, h))

pub ready : (l : Lent) (time : Float) (r : Slices) → early_number (tables_number l) (scene_of l) time (room_of r) ≡ 0 → Ready l.words l.floats l.header time r
ready l time r h =
    let a = early-accepted l time (room_of r) h in
    let e = enough (scene_of l) (room_of r) a.3 in
    let c = checked l a.0 in
    let n = node-count l in
    record {
      drawn = none-drawn l a.0;
      timed = a.1;
      lines = all-in-line l a.2;
      poses = subst (λ (m : ℕ). m ≤ (room_of r).pose_slots) n e.1;
      channels = few-channels l a.0;
      nodes = omega (arith, n, c.few-nodes);
      codes = omega (arith, n, e.2);
      walk = omega (arith, room-linked l, e.0);
      worlds = omega (arith, n, e.2);
    }
