-- Keys that are out of line: of one channel, and of any. Assumes nothing.
use mathlib.Core.Path.{◌≡◌, refl, sym, ap, ◌∙◌}
use mathlib.Core.Bool.{Bool, true, false, not, ◌&&◌, ◌||◌}
use mathlib.Core.List.{List}
use Prim.Native.Nat.{ℕ, zero, suc, ◌≤◌, ◌<◌}
use native.Mathlib.Omega.{arith}
use borrow.Author.Tests.{lt-ltb, le-ltb}
use lib.Dec.{eqb}
use lib.Ieee.{Float, is_nan, of_bits}
use Rattle.float.specs.F32.{zero32}
use Rattle.model.specs.Lists.{pick, any_of, tabulate}
use Rattle.model.specs.Scene as scene
use Rattle.model.specs.Sampling.{even, in_line}
use Rattle.model.specs.Refusals.{sample_number, some_keys_out_of_line}
use Rattle.model.proofs.Numbers.{short_for, sample-tests}
use Rattle.tracks.specs.declared.Track.{Track}
use Rattle.tracks.specs.Tracks.{track_in, table_number}
use Rattle.tables.specs.declared.ChannelRow.{ChannelRow}
use Rattle.tables.specs.Records.{channel_row}
use Rattle.tables.specs.Tags.{track_for}
use Rattle.tables.specs.Decoded.{Lent, scene_of}
use Rattle.tables.proofs.Decoding.{node-count}
use Rattle.pose_slots.specs.Channels.{channel_in}
use Rattle.pose.specs.Lines.{out_of_line}

-- ---- one channel
five : (e l s : Bool) → eqb (pick (not e) 4 (pick (not l) 5 (pick s 10 0))) 5 ≡ (e && not l)
five true true true = refl
five true true false = refl
five true false s = refl
five false l s = refl

pub zero-is-number : is_nan zero32 ≡ false
unfolding is_nan of_bits
zero-is-number = refl

-- the number of a sample is 5 where the track is even and its keys are out of line
pub told-by-number : (tr : scene.Track) (time : Float) (space g m : ℕ) → g ≡ 0 → is_nan time ≡ false → m ≡ sample_number g tr time space
    → eqb m 5 ≡ (even tr && not (in_line tr.keys))
told-by-number tr time space g m z v e =
    ap (λ (n : ℕ). eqb n 5) (e ∙ sample-tests tr time space g false (even tr) (in_line tr.keys) (short_for tr time space) z v refl refl refl)
    ∙ five (even tr) (in_line tr.keys) (short_for tr time space)

module _ (floats : List Float) (row : ChannelRow) (n : ℕ) where
  pub aimed : (t : Track) (time : Float) (space m : ℕ) → t ≡ track_for row → table_number floats (track_for row) ≡ 0 → is_nan time ≡ false
      → m ≡ sample_number (table_number floats t) (track_in floats t) time space → row.target < n → eqb m 5 ≡ out_of_line n (channel_in floats row)
  aimed t time space m e z v q h =
      let tr = track_in floats (track_for row) in
      told-by-number tr time space _ m z v (q ∙ ap (λ (x : Track). sample_number (table_number floats x) (track_in floats x) time space) e)
      ∙ sym (ap (λ (b : Bool). b && even tr && not (in_line tr.keys)) (lt-ltb row.target n h))

  pub not-aimed : n ≤ row.target → false ≡ out_of_line n (channel_in floats row)
  not-aimed h =
      let tr = track_in floats (track_for row) in
      sym (ap (λ (b : Bool). b && even tr && not (in_line tr.keys)) (le-ltb row.target n h))

-- ---- any channel
pub any-there : {A : Type 0} (n : ℕ) (f : ℕ → A) (p : A → Bool) (k : ℕ) → k < n → p (f k) ≡ true → any_of p (tabulate n f) ≡ true
unfolding any_of tabulate
any-there zero f p k h e = absurd (omega arith)
any-there (suc n) f p zero h e = ap (λ (b : Bool). b || any_of p (tabulate n (λ i. f (suc i)))) e
any-there (suc n) f p (suc k) h e = ap (λ (b : Bool). p (f 0) || b) (any-there n (λ i. f (suc i)) p k (omega arith) e) ∙ go (p (f 0))
  where
    go : (b : Bool) → (b || true) ≡ true
    go true = refl
    go false = refl

pub none-there : {A : Type 0} (n : ℕ) (f : ℕ → A) (p : A → Bool) → ((k : ℕ) → k < n → p (f k) ≡ false) → any_of p (tabulate n f) ≡ false
unfolding any_of tabulate
none-there zero f p h = refl
none-there (suc n) f p h = λ j. h 0 (omega arith) j || none-there n (λ i. f (suc i)) p (λ k l. h (suc k) (omega arith)) j

-- in the counts of the header
pub in-counts : (l : Lent) → some_keys_out_of_line (scene_of l) ≡ any_of (out_of_line l.header.graph.nodes.count) (tabulate l.header.channels.count (λ k. channel_in l.floats (channel_row l.words l.header.channels k)))
unfolding scene_of
in-counts l = ap (λ (n : ℕ). any_of (out_of_line n) (scene_of l).tracks) (node-count l)
