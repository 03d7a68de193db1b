-- The posed weights of a node are the sampled value of the channel that stands. Assumes nothing.
use mathlib.Core.Path.{◌≡◌, refl, sym, ap, ◌∙◌}
use mathlib.Core.Bool.{Bool, true, false, ◌&&◌}
use mathlib.Core.List.{List, [], ◌∷◌}
use mathlib.Core.Option.{Option, none, some}
use Prim.Native.Nat.{ℕ, suc, ◌+◌, ◌<◌}
use native.Mathlib.Omega.{arith}
use lib.Dec.{eqb}
use lib.Ieee.{Float}
use lib.ListN.{get_or, get_elem?}
use Rattle.model.specs.Lists.{pick, foldl, keep, is_some, and_then}
use Rattle.model.specs.Vector.{Vector}
use Rattle.model.specs.Scene.{Property, translation, rotation, scale, morph_weights, Kind, vec3s, quats, scalars, Track}
use Rattle.model.specs.Sampling.{sample}
use Rattle.model.specs.Pose.{Pose, at_rest, given, replaced, drive, poses, tracks_of}
use Rattle.model.proofs.Posing.{pose-of}
use Rattle.pose.specs.Encoded.{gives_weights, standing_from, standing, weights_by}

-- one channel: its value where it gives weights, else those that were there
by_value : (q : Property) (k : Kind) (o : Option Vector) (p : Pose)
    → (replaced q (and_then o (given q k)) p).weights ≡ pick (is_some (replaced q (and_then o (given q k)) at_rest).weights) o p.weights
unfolding given replaced
by_value translation k o p = refl
by_value rotation k o p = refl
by_value scale k o p = refl
by_value morph_weights k none p = refl
by_value morph_weights vec3s (some v) p = refl
by_value morph_weights quats (some v) p = refl
by_value morph_weights scalars (some v) p = refl

module _ (time : Float) (i : ℕ) (all : List Track) where
  abbrev by_word : ℕ → Option Vector
  by_word w = weights_by time all w

  one_word : (k w : ℕ) (t : Track) (p : Pose) → get_elem? all k ≡ some t → p.weights ≡ by_word w
      → (drive time p t).weights ≡ by_word (pick (gives_weights time t) (suc k) w)
  one_word k w t p e h = by_value t.property t.kind (sample t time) p ∙ go (gives_weights time t)
    where
      go : (b : Bool) → pick b (sample t time) p.weights ≡ by_word (pick b (suc k) w)
      go true = ap (λ (x : Option Track). and_then x (λ u. sample u time)) (sym e)
      go false = h

  -- from channel k on
  walk : (ts : List Track) (k w : ℕ) (p : Pose) → ((m : ℕ) → get_elem? all (k + m) ≡ get_elem? ts m) → p.weights ≡ by_word w
      → (foldl (drive time) p (tracks_of i ts)).weights ≡ by_word (standing_from time i k w ts)
  unfolding foldl keep standing_from
  walk [] k w p e h = h
  walk (t ∷ ts) k w p e h =
      let z : k ≡ k + 0 = omega arith in
      go (eqb t.target i) (λ w' p' h'. walk ts (suc k) w' p' (λ m. let q : suc k + m ≡ k + suc m = omega arith in ap (get_elem? all) q ∙ e (suc m)) h')
      (one_word k w t p (ap (get_elem? all) z ∙ e 0) h)
    where
      go : (b : Bool) → ((w' : ℕ) (p' : Pose) → p'.weights ≡ by_word w' → (foldl (drive time) p' (tracks_of i ts)).weights ≡ by_word (standing_from time i (suc k) w' ts))
          → (drive time p t).weights ≡ by_word (pick (gives_weights time t) (suc k) w)
          → (foldl (drive time) p (pick b (t ∷ tracks_of i ts) (tracks_of i ts))).weights ≡ by_word (standing_from time i (suc k) (pick (b && gives_weights time t) (suc k) w) ts)
      go true rest one = rest (pick (gives_weights time t) (suc k) w) (drive time p t) one
      go false rest one = rest w p h

  pub standing-weights : (n : ℕ) → i < n → (get_or (poses time n all) i at_rest).weights ≡ weights_by time all (standing time i all)
  standing-weights n l =
      ap (λ (p : Pose). p.weights) (pose-of time n all i l)
      ∙ walk all 0 0 at_rest (λ m. let q : 0 + m ≡ m = omega arith in ap (get_elem? all) q) refl
