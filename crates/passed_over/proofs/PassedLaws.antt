-- What the call tells: the number of the pose; the first channel with a reason, and that there is none before it; that
-- there is none where none is told; and that the pose is the same without the channel. Assumes nothing.
use mathlib.Core.Path.{◌≡◌, refl, sym, ap, ◌∙◌, subst}
use mathlib.Core.Bool.{Bool, true, false, true≢false}
use mathlib.Core.List.{List, [], ◌∷◌, ◌++◌}
use mathlib.Core.Option.{Option, none, some}
use Prim.Native.Nat.{ℕ, zero, suc, ◌+◌, ◌-◌, ◌≤◌, ◌<◌}
use native.Mathlib.Omega.{arith}
use borrow.Author.Tests.{eqb-true, eqb-false}
use lib.Dec.{eqb}
use lib.Ieee.{Float}
use lib.ListN.{length, get_or, get_elem?, take, drop, replicate, length-set, length-replicate}
use Rattle.model.specs.Lists.{foldl, is_some, or_else}
use Rattle.model.specs.Scene.{Track, node_count}
use Rattle.model.specs.Pose.{Pose, at_rest, drive, drive_at, poses}
use Rattle.tables.specs.Decoded.{Lent, scene_of}
use Rattle.pose.specs.Encoded.{pose_number_for, when_accepted}
use Rattle.passed_over.specs.declared.PassedOver.{PassedOver}
use Rattle.passed_over.specs.Reasons.{reason_for}
use Rattle.passed_over.specs.Passed.{no_channel, channel_told, first_with, passed_over_from}
use Rattle.passed_over.proofs.ReasonLaws.{passed_over}
use Rattle.passed_over.proofs.FirstLaws.{step}

-- ---- entries
none-is-some : {A : Type 0} (a : A) → none ≡ some a → ⊥
none-is-some a e = true≢false (sym (ap is_some e))

one_entry : {A : Type 0} (a b : A) → some a ≡ some b → a ≡ b
one_entry a b e = ap (λ (o : Option _). or_else o a) e

entry-after : {A : Type 0} (m : ℕ) (l : List A) (i : ℕ) → get_elem? (drop m l) i ≡ get_elem? l (m + i)
entry-after zero l i = ap (get_elem? l) (omega arith)
entry-after (suc m) [] i = refl
entry-after (suc m) (x ∷ l) i =
    let e : suc (m + i) ≡ suc m + i = omega arith in entry-after m l i ∙ ap (get_elem? (x ∷ l)) e

module _ (reason : Track → ℕ) where
  -- ---- in a list whose channels are counted from k
  record Found (k : ℕ) (ts : List Track) (r : PassedOver) : Type 0 where
    pub at : ℕ
    pub channel : r.channel ≡ k + at
    pub track : Track
    pub there : get_elem? ts at ≡ some track
    pub told : reason track ≡ r.reason
    pub none_before : (i : ℕ) (t : Track) → i < at → get_elem? ts i ≡ some t → reason t ≡ 0

  found_first : (k : ℕ) (ts : List Track) → ((first_with reason k ts).reason ≡ 0 → ⊥)
      → Found k ts (first_with reason k ts)
  unfolding first_with
  found_first k [] h = absurd (h refl)
  found_first k (t ∷ ts) h = go (eqb (reason t) 0) refl (λ z. found_first (suc k) ts z)
    where
      later : reason t ≡ 0 → Found (suc k) ts (first_with reason (suc k) ts)
          → Found k (t ∷ ts) (first_with reason (suc k) ts)
      later z f = record {
        at = suc f.at;
        channel = omega (arith, f.channel);
        track = f.track;
        there = f.there;
        told = f.told;
        none_before = before;
      }
        where
          before : (i : ℕ) (u : Track) → i < suc f.at → get_elem? (t ∷ ts) i ≡ some u → reason u ≡ 0
          before zero u l e = ap reason (sym (one_entry t u e)) ∙ z
          before (suc i) u l e = f.none_before i u (omega arith) e

      here : Found k (t ∷ ts) (channel_told (reason t) k)
      here = record {
        at = 0;
        channel = omega arith;
        track = t;
        there = refl;
        told = refl;
        none_before = λ i u l e. absurd (omega arith);
      }

      go : (b : Bool) → eqb (reason t) 0 ≡ b
          → (((first_with reason (suc k) ts).reason ≡ 0 → ⊥) → Found (suc k) ts (first_with reason (suc k) ts))
          → Found k (t ∷ ts) (first_with reason k (t ∷ ts))
      go true e inner =
          let s = step reason k t ts true e in
          subst (Found k (t ∷ ts)) (sym s)
          (later (eqb-true (reason t) 0 e) (inner (λ z. h (ap (λ (r : PassedOver). r.reason) s ∙ z))))
      go false e inner = subst (Found k (t ∷ ts)) (sym (step reason k t ts false e)) here

  none_found : (k : ℕ) (ts : List Track) → (first_with reason k ts).reason ≡ 0 → (i : ℕ) (t : Track)
      → get_elem? ts i ≡ some t → reason t ≡ 0
  none_found k [] h i t e = absurd (none-is-some t e)
  none_found k (u ∷ ts) h i t e = go (eqb (reason u) 0) refl (λ z j. none_found (suc k) ts z j t) i e
    where
      go : (b : Bool) → eqb (reason u) 0 ≡ b
          → ((first_with reason (suc k) ts).reason ≡ 0 → (j : ℕ) → get_elem? ts j ≡ some t → reason t ≡ 0)
          → (i : ℕ) → get_elem? (u ∷ ts) i ≡ some t → reason t ≡ 0
      go true q inner zero e = ap reason (sym (one_entry u t e)) ∙ eqb-true (reason u) 0 q
      go true q inner (suc i) e =
          inner (sym (ap (λ (r : PassedOver). r.reason) (step reason k u ts true q)) ∙ h) i e
      go false q inner i e =
          absurd (eqb-false (reason u) 0 q (sym (ap (λ (r : PassedOver). r.reason) (step reason k u ts false q)) ∙ h))

  number-none : (k : ℕ) (ts : List Track) → (first_with reason k ts).number ≡ 0
  unfolding first_with
  number-none k [] = refl
  number-none k (t ∷ ts) = go (eqb (reason t) 0) refl (number-none (suc k) ts)
    where
      go : (b : Bool) → eqb (reason t) 0 ≡ b → (first_with reason (suc k) ts).number ≡ 0
          → (first_with reason k (t ∷ ts)).number ≡ 0
      go true e inner = ap (λ (r : PassedOver). r.number) (step reason k t ts true e) ∙ inner
      go false e inner = ap (λ (r : PassedOver). r.number) (step reason k t ts false e)

  -- ---- among all channels, from the channel `from` on
  pub record First (from : ℕ) (ts : List Track) (r : PassedOver) : Type 0 where
    pub inside : from ≤ r.channel
    pub track : Track
    pub there : get_elem? ts r.channel ≡ some track
    pub told : reason track ≡ r.reason
    pub none_before : (i : ℕ) (t : Track) → from ≤ i → i < r.channel → get_elem? ts i ≡ some t → reason t ≡ 0

  at-index : (from : ℕ) (ts : List Track) (i : ℕ) (o : Option Track) → from ≤ i → get_elem? ts i ≡ o
      → get_elem? (drop from ts) (i - from) ≡ o
  at-index from ts i o h e =
      let q : from + (i - from) ≡ i = omega arith in entry-after from ts (i - from) ∙ ap (get_elem? ts) q ∙ e

  first_of : (from : ℕ) (ts : List Track) (r : PassedOver) → Found from (drop from ts) r → First from ts r
  first_of from ts r f = record {
    inside = omega (arith, f.channel);
    track = f.track;
    there = ap (get_elem? ts) f.channel ∙ sym (entry-after from ts f.at) ∙ f.there;
    told = f.told;
    none_before =
        λ i t a b e. f.none_before (i - from) t (omega (arith, f.channel)) (at-index from ts i (some t) a e);
  }

-- ---- the poses without a channel that changes none
split-entry : {A : Type 0} (l : List A) (k : ℕ) (a : A) → get_elem? l k ≡ some a
    → l ≡ take k l ++ a ∷ drop (suc k) l
split-entry [] k a e = absurd (none-is-some a e)
split-entry (x ∷ l) zero a e = ap (λ (y : _). y ∷ l) (one_entry x a e)
split-entry (x ∷ l) (suc k) a e = ap (λ (r : List _). x ∷ r) (split-entry l k a e)

module _ (time : Float) (n : ℕ) (t : Track) (h : (ps : List Pose) → n ≡ length ps → drive_at time ps t ≡ ps) where
  without : (before after : List Track) (ps : List Pose) → n ≡ length ps
      → foldl (drive_at time) ps (before ++ t ∷ after) ≡ foldl (drive_at time) ps (before ++ after)
  unfolding foldl
  without [] after ps e = ap (λ (qs : List Pose). foldl (drive_at time) qs after) (h ps e)
  without (u ∷ us) after ps e =
      without us after (drive_at time ps u)
      (e ∙ sym (length-set ps u.target (drive time (get_or ps u.target at_rest) u)))

-- ---- the call
module _ (l : Lent) (time : Float) (from : ℕ) where
  abbrev n : ℕ
  n = node_count (scene_of l)

  abbrev ts : List Track
  ts = (scene_of l).tracks

  abbrev told : PassedOver
  told = passed_over_from l time from

  answer : (m : ℕ) → pose_number_for l time n ≡ m
      → told ≡ when_accepted m (first_with (reason_for time n) from (drop from ts)) (no_channel m)
  unfolding passed_over_from
  answer m e = ap (λ (k : ℕ). when_accepted k (first_with (reason_for time n) from (drop from ts)) (no_channel k)) e

  -- the number is that of the pose
  pub numbered : told.number ≡ pose_number_for l time n
  numbered = go (pose_number_for l time n) refl
    where
      go : (m : ℕ) → pose_number_for l time n ≡ m → told.number ≡ pose_number_for l time n
      go zero e =
          ap (λ (r : PassedOver). r.number) (answer zero e)
          ∙ number-none (reason_for time n) from (drop from ts)
          ∙ sym e
      go (suc m) e = ap (λ (r : PassedOver). r.number) (answer (suc m) e) ∙ sym e

  -- the channel that is told is the first one with a reason, and that is its reason
  pub first : (told.reason ≡ 0 → ⊥) → First (reason_for time n) from ts told
  first h = go (pose_number_for l time n) refl
    where
      go : (m : ℕ) → pose_number_for l time n ≡ m → First (reason_for time n) from ts told
      go zero e =
          let a = answer zero e in
          subst (First (reason_for time n) from ts) (sym a)
          (first_of (reason_for time n) from ts _
          (found_first (reason_for time n) from (drop from ts) (λ z. h (ap (λ (r : PassedOver). r.reason) a ∙ z))))
      go (suc m) e = absurd (h (ap (λ (r : PassedOver). r.reason) (answer (suc m) e)))

  -- where the pose is not refused and no channel is told, none from `from` on has a reason
  pub none_told : told.number ≡ 0 → told.reason ≡ 0 → (i : ℕ) (t : Track) → from ≤ i → get_elem? ts i ≡ some t
      → reason_for time n t ≡ 0
  none_told z h i t a e =
      none_found (reason_for time n) from (drop from ts)
      (sym (ap (λ (r : PassedOver). r.reason) (answer 0 (sym numbered ∙ z))) ∙ h)
      (i - from) t (at-index (reason_for time n) from ts i (some t) a e)

  -- the pose of every node is the same without the channel that is told
  pub does-nothing : (told.reason ≡ 0 → ⊥)
      → poses time n (take told.channel ts ++ drop (suc told.channel) ts) ≡ poses time n ts
  unfolding poses
  does-nothing h =
      let f = first h in
      let t = f.track in
      let k = told.channel in
      let idle : (ps : List Pose) → n ≡ length ps → drive_at time ps t ≡ ps
      = λ ps e. passed_over time ps t n e (λ z. h (sym f.told ∙ z)) in
      sym (ap (foldl (drive_at time) (replicate n at_rest)) (split-entry ts k t f.there)
      ∙ without time n t idle (take k ts) (drop (suc k) ts) (replicate n at_rest) (sym (length-replicate n at_rest)))
