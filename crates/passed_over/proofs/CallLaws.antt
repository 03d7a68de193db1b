-- The call: refused with the number of the pose, or searched. Assumes nothing.
use mathlib.Core.Path.{◌≡◌, refl, sym, ap, ◌∙◌}
use mathlib.Core.List.{List}
use Prim.Native.Nat.{ℕ, zero, suc}
use lib.Ieee.{Float}
use lib.ListN.{drop}
use Rattle.model.specs.Scene.{Track}
use Rattle.tables.specs.Decoded.{Lent, scene_of}
use Rattle.tables.proofs.Decoding.{node-count}
use Rattle.checks.specs.Drawn.{tables_number}
use Rattle.pose_slots.specs.Channels.{channels_in}
use Rattle.pose.specs.Encoded.{pose_number_for, when_accepted}
use Rattle.pose.proofs.CallLaws.{pose-accepted, none-drawn, all-in-line}
use Rattle.passed_over.specs.declared.PassedOver.{PassedOver}
use Rattle.passed_over.specs.Reasons.{reason_for}
use Rattle.passed_over.specs.Passed.{no_channel, first_with, passed_over_from, Searchable}

-- the nodes, as the header counts them
abbrev nodes : Lent → ℕ
nodes l = l.header.graph.nodes.count

module _ (l : Lent) (time : Float) (number : ℕ) (e : number ≡ pose_number_for l time (nodes l)) where
  -- a pose that is not refused
  pub searchable : number ≡ 0 → Searchable l.words l.floats l.header.channels (nodes l) time
  searchable ok =
      let r = pose-accepted (scene_of l) time (nodes l) (tables_number l) (sym e ∙ ok) in
      (none-drawn l r.0, r.1, all-in-line l r.2)

  module _ (from : ℕ) where
    abbrev search_in : ℕ → List Track → PassedOver
    search_in n ts = first_with (reason_for time n) from (drop from ts)

    abbrev channels : List Track
    channels = channels_in l.words l.floats l.header.channels

    by_number : (m : ℕ) → number ≡ m
        → when_accepted m (search_in (nodes l) channels) (no_channel m) ≡ passed_over_from l time from
    unfolding passed_over_from scene_of
    by_number m p =
        let told : ℕ → ℕ → PassedOver = λ k n. when_accepted k (search_in n (scene_of l).tracks) (no_channel k) in
        ap (λ (k : ℕ). told k (nodes l)) (sym p ∙ e)
        ∙ ap (λ (n : ℕ). told (pose_number_for l time n) n) (sym (node-count l))

    pub refused : (number ≡ 0 → ⊥) → no_channel number ≡ passed_over_from l time from
    refused h = go number refl
      where
        go : (m : ℕ) → number ≡ m → no_channel number ≡ passed_over_from l time from
        go zero p = absurd (h p)
        go (suc m) p = ap no_channel p ∙ by_number (suc m) p

    pub searched : number ≡ 0 → (r : PassedOver) → r ≡ search_in (nodes l) channels → r ≡ passed_over_from l time from
    searched ok r h = h ∙ by_number 0 ok
