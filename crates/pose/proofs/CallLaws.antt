-- The number of a call for a pose, test by test, what an accepted call tells, and what it leaves. Assumes nothing.
use mathlib.Core.Path.{◌≡◌, refl, sym, ap, ◌∙◌, subst}
use mathlib.Core.Bool.{Bool, true, false, ◌||◌, true≢false}
use mathlib.Core.List.{List}
use Prim.Native.Nat.{ℕ, zero, suc, ◌≤◌, ◌<◌}
use native.Mathlib.Omega.{arith}
use borrow.Author.Tests.{ltb-false}
use lib.Dec.{ltb}
use lib.Ieee.{Float, is_nan}
use Rattle.model.specs.Lists.{pick, any_of, tabulate}
use Rattle.model.specs.Scene.{Scene, node_count}
use Rattle.model.specs.Refusals.{first_of, lowest, some_keys_out_of_line, pose_number}
use Rattle.tables.specs.Records.{channel_row}
use Rattle.tables.specs.Decoded.{Lent, scene_of}
use Rattle.tables.proofs.Decoding.{node-count, channel-count}
use Rattle.checks.specs.declared.Table.TheVariants as table
use Rattle.checks.specs.Drawn.{tables_number}
use Rattle.checks.proofs.Clearing.{checked}
use Rattle.pose_slots.specs.Slots.{room}
use Rattle.pose_slots.specs.Channels.{channel_in}
use Rattle.pose.specs.Lines.{out_of_line, NoneDrawn, AllInLine}
use Rattle.pose.specs.Encoded.{encoded_words, encoded_floats, when_accepted, Posed}
use Rattle.pose.proofs.LineLaws.{in-counts}

-- ---- the number
module _ (s : Scene) (time : Float) (slots : ℕ) where
  pub pose-drawn : (g : ℕ) → 0 < g → g ≡ pose_number g s time slots
  unfolding pose_number
  pose-drawn zero h = absurd (omega arith)
  pose-drawn (suc g) h = refl

  pub pose-tests : (g : ℕ) (n l b : Bool) → g ≡ 0 → is_nan time ≡ n → some_keys_out_of_line s ≡ l → ltb slots (node_count s) ≡ b
      → pose_number g s time slots ≡ pick n 3 (pick l 5 (pick b 6 0))
  unfolding pose_number first_of
  pose-tests g n l b z p q r = λ j. lowest (z j) (pick (p j) 3 (pick (q j) 5 (pick (r j) 6 0)))

  pub pose-accepted : (g : ℕ) → pose_number g s time slots ≡ 0 → (g ≡ 0) × (is_nan time ≡ false) × (some_keys_out_of_line s ≡ false) × (node_count s ≤ slots)
  pose-accepted zero h = let r = go (is_nan time) (some_keys_out_of_line s) (ltb slots (node_count s)) refl refl refl in (refl, r.0, r.1, ltb-false slots (node_count s) r.2)
    where
      no : (n : ℕ) → suc n ≡ 0 → ⊥
      no n e = omega arith

      go : (n l b : Bool) → is_nan time ≡ n → some_keys_out_of_line s ≡ l → ltb slots (node_count s) ≡ b
          → (is_nan time ≡ false) × (some_keys_out_of_line s ≡ false) × (ltb slots (node_count s) ≡ false)
      go false false false p q r = (p, q, r)
      go false false true p q r = absurd (no 5 (sym (pose-tests 0 false false true refl p q r) ∙ h))
      go false true b p q r = absurd (no 4 (sym (pose-tests 0 false true b refl p q r) ∙ h))
      go true l b p q r = absurd (no 2 (sym (pose-tests 0 true l b refl p q r) ∙ h))
  pose-accepted (suc g) h = let e = pose-drawn (suc g) (omega arith) in absurd (omega (arith, e, h))

-- ---- what it tells of the channels
none_of : {A : Type 0} (n : ℕ) (f : ℕ → A) (p : A → Bool) → any_of p (tabulate n f) ≡ false → (k : ℕ) → k < n → p (f k) ≡ false
unfolding any_of tabulate
none_of zero f p h k l = absurd (omega arith)
none_of (suc n) f p h zero l = first (p (f 0)) _ h
  where
    first : (a b : Bool) → (a || b) ≡ false → a ≡ false
    first false b h = refl
    first true b h = absurd (true≢false h)
none_of (suc n) f p h (suc k) l = none_of n (λ i. f (suc i)) p (second (p (f 0)) _ h) k (omega arith)
  where
    second : (a b : Bool) → (a || b) ≡ false → b ≡ false
    second false b h = h
    second true b h = absurd (true≢false h)

module _ (l : Lent) where
  pub none-drawn : tables_number l ≡ 0 → NoneDrawn l.words l.floats l.header.channels
  none-drawn z k h = ((checked l z).records table.Channels k h).0

  pub few-channels : tables_number l ≡ 0 → l.header.channels.count ≤ 1024
  few-channels z = subst (λ (n : ℕ). n ≤ 1024) (channel-count l) (checked l z).few-channels

  pub all-in-line : some_keys_out_of_line (scene_of l) ≡ false → AllInLine l.words l.floats l.header.channels l.header.graph.nodes.count
  all-in-line h = none_of _ _ (out_of_line l.header.graph.nodes.count) (sym (in-counts l) ∙ h)

  -- ---- what it leaves
  module _ (time : Float) (marks : List ℕ) (slots : List Float) (number : ℕ) (e : number ≡ pose_number (tables_number l) (scene_of l) time (room marks slots)) where
    pub refused : (number ≡ 0 → ⊥)
        → Posed l time (record { from = marks; to = marks }) (record { from = slots; to = slots }) number
    refused h = record { told = e; words = as_lent number h _ marks; floats = as_lent number h _ slots }
      where
        as_lent : {A : Type 0} (n : ℕ) → (n ≡ 0 → ⊥) → (new lent : A) → lent ≡ when_accepted n new lent
        as_lent zero h new lent = absurd (h refl)
        as_lent (suc n) h new lent = refl

    module _ (ok : number ≡ 0) where
      pub accepted : (tables_number l ≡ 0) × (is_nan time ≡ false) × (some_keys_out_of_line (scene_of l) ≡ false) × (l.header.graph.nodes.count ≤ room marks slots)
      accepted =
          let r = pose-accepted (scene_of l) time (room marks slots) (tables_number l) (sym e ∙ ok) in
          (r.0, r.1, r.2, subst (λ (n : ℕ). n ≤ room marks slots) (node-count l) r.3)

      pub posed : (m : List ℕ) (s : List Float)
          → m ≡ encoded_words time l.header.graph.nodes.count (tabulate l.header.channels.count (λ k. channel_in l.floats (channel_row l.words l.header.channels k))) marks
          → s ≡ encoded_floats time l.header.graph.nodes.count (tabulate l.header.channels.count (λ k. channel_in l.floats (channel_row l.words l.header.channels k))) slots
          → Posed l time (record { from = marks; to = m }) (record { from = slots; to = s }) 0
      unfolding scene_of
      posed m s p q = record {
        told = sym ok ∙ e;
        words = p ∙ ap (λ (n : ℕ). encoded_words time n (scene_of l).tracks marks) (sym (node-count l));
        floats = q ∙ ap (λ (n : ℕ). encoded_floats time n (scene_of l).tracks slots) (sym (node-count l));
      }
