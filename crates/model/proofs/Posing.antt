-- The pose of a node comes from the channels aimed at it alone.
-- Assumes nothing.
use mathlib.Core.Path.{◌≡◌, refl, sym, ap, ◌∙◌}
use mathlib.Core.Bool.{Bool, true, false}
use mathlib.Core.List.{List, [], ◌∷◌}
use Prim.Native.Nat.{ℕ, zero, suc, ◌≤◌, ◌<◌}
use native.Mathlib.Omega.{arith}
use lib.ListN.{length, get_or, set, replicate, length-set, length-replicate, get_or-replicate}
use lib.Seq.{get_or-set_same, get_or-set_other}
use lib.Ieee.{Float}
use lib.Dec.{eqb}
use borrow.Author.Tests.{eqb-true, eqb-false}
use Rattle.model.specs.Lists.{foldl, keep, pick}
use Rattle.model.specs.Scene.{Scene, Track, node_count}
use Rattle.model.specs.Pose.{Pose, at_rest, drive, drive_at, poses, tracks_of}

module _ (time : Float) where
  -- the fold over all channels, read at one piece, is the fold over those aimed at it
  pose-own : (ts : List Track) (ps : List Pose) (i : ℕ) → i < length ps
      → get_or (foldl (drive_at time) ps ts) i at_rest ≡ foldl (drive time) (get_or ps i at_rest) (tracks_of i ts)
  unfolding foldl keep
  pose-own [] ps i b = refl
  pose-own (t ∷ ts) ps i b =
      pose-own ts (drive_at time ps t) i (omega (arith, length-set ps t.target (drive time (get_or ps t.target at_rest) t)))
      ∙ go (eqb t.target i) refl
    where
      v : Pose
      v = drive time (get_or ps t.target at_rest) t

      go : (c : Bool) → eqb t.target i ≡ c
          → foldl (drive time) (get_or (set ps t.target v) i at_rest) (tracks_of i ts) ≡ foldl (drive time) (get_or ps i at_rest) (pick c (t ∷ tracks_of i ts) (tracks_of i ts))
      go true e =
          let q : t.target ≡ i = eqb-true t.target i e in
          let r : get_or (set ps t.target v) i at_rest ≡ drive time (get_or ps i at_rest) t
          = (λ j. get_or (set ps (q j) (drive time (get_or ps (q j) at_rest) t)) i at_rest) ∙ get_or-set_same ps i (drive time (get_or ps i at_rest) t) at_rest b in
          ap (λ (p : Pose). foldl (drive time) p (tracks_of i ts)) r
      go false e =
          ap (λ (p : Pose). foldl (drive time) p (tracks_of i ts)) (get_or-set_other ps t.target i v at_rest (λ q. eqb-false t.target i e (sym q)))

  pub pose-of : (n : ℕ) (ts : List Track) (i : ℕ) → i < n → get_or (poses time n ts) i at_rest ≡ foldl (drive time) at_rest (tracks_of i ts)
  unfolding poses
  pose-of n ts i b =
      pose-own ts (replicate n at_rest) i (omega (arith, length-replicate n at_rest))
      ∙ ap (λ (p : Pose). foldl (drive time) p (tracks_of i ts)) (get_or-replicate n i at_rest at_rest b)

  length-driven : (ts : List Track) (ps : List Pose) → length (foldl (drive_at time) ps ts) ≡ length ps
  unfolding foldl
  length-driven [] ps = refl
  length-driven (t ∷ ts) ps = length-driven ts (drive_at time ps t) ∙ length-set ps t.target (drive time (get_or ps t.target at_rest) t)

  pub length-poses : (n : ℕ) (ts : List Track) → length (poses time n ts) ≡ n
  unfolding poses
  length-poses n ts = length-driven ts (replicate n at_rest) ∙ length-replicate n at_rest
