-- The values of a pose have three and four numbers. Assumes nothing.
use mathlib.Core.Path.{◌≡◌, refl, ◌∙◌}
use mathlib.Core.Bool.{Bool, true, false, ◌&&◌}
use mathlib.Core.List.{List, [], ◌∷◌}
use mathlib.Core.Option.{Option, none, some}
use Prim.Native.Nat.{ℕ, zero, suc}
use lib.Ieee.{Float, lt}
use lib.Ieee.Scale.{finite}
use lib.ListN.{length, get_or, set, replicate, length-map}
use Rattle.float.specs.F32.{◌⊘◌, zero32}
use Rattle.model.specs.Lists.{pick, foldl, or_else, later, and_then}
use Rattle.model.specs.Vector.{Vector, over, norm, normalized}
use Rattle.model.specs.Scene.{Property, translation, rotation, scale, morph_weights, Kind, vec3s, quats, scalars, Track}
use Rattle.model.specs.Sampling.{stride, row_width, sample}
use Rattle.model.specs.Pose.{Pose, at_rest, given, replaced, drive, drive_at, poses}
use Rattle.model.proofs.Sampled.{sample-width}

abbrev pub Sized : Pose → Type 0
Sized p =
    (length (or_else p.translation (replicate 3 zero32)) ≡ 3) × (length (or_else p.rotation (replicate 4 zero32)) ≡ 4)
    × (length (or_else p.scale (replicate 3 zero32)) ≡ 3)

-- ---- one channel
normal-width : (v : Vector) (old : Option Vector) → length v ≡ 4 → length (or_else old (replicate 4 zero32)) ≡ 4 → length (or_else (later (normalized v) old) (replicate 4 zero32)) ≡ 4
unfolding normalized
normal-width v old h k = go (finite (norm v) && lt zero32 (norm v))
  where
    go : (b : Bool) → length (or_else (later (pick b (some (over v (norm v))) none) old) (replicate 4 zero32)) ≡ 4
    go true = length-map v (λ x. x ⊘ norm v) ∙ h
    go false = k

by_value : (p : Pose) (n : ℕ) (q : Property) (k : Kind) (o : Option Vector) → ((v : Vector) → o ≡ some v → length v ≡ row_width k n) → Sized p → Sized (replaced q (and_then o (given q k)) p)
unfolding given replaced
by_value p n translation k none w h = h
by_value p n rotation k none w h = h
by_value p n scale k none w h = h
by_value p n morph_weights k none w h = h
by_value p n translation vec3s (some v) w h = (w v refl, h.1, h.2)
by_value p n translation quats (some v) w h = h
by_value p n translation scalars (some v) w h = h
by_value p n rotation vec3s (some v) w h = h
by_value p n rotation quats (some v) w h = (h.0, normal-width v p.rotation (w v refl) h.1, h.2)
by_value p n rotation scalars (some v) w h = h
by_value p n scale vec3s (some v) w h = (h.0, h.1, w v refl)
by_value p n scale quats (some v) w h = h
by_value p n scale scalars (some v) w h = h
by_value p n morph_weights vec3s (some v) w h = h
by_value p n morph_weights quats (some v) w h = h
by_value p n morph_weights scalars (some v) w h = h

module _ (time : Float) where
  drive-sized : (t : Track) (p : Pose) → Sized p → Sized (drive time p t)
  drive-sized t p h = by_value p (stride t) t.property t.kind (sample t time) (λ v e. sample-width t time v e) h

  -- ---- all channels
  set-sized : (ps : List Pose) (k : ℕ) (v : Pose) → Sized v → ((i : ℕ) → Sized (get_or ps i at_rest)) → (i : ℕ) → Sized (get_or (set ps k v) i at_rest)
  set-sized [] k v s h i = h i
  set-sized (p ∷ ps) zero v s h zero = s
  set-sized (p ∷ ps) zero v s h (suc i) = h (suc i)
  set-sized (p ∷ ps) (suc k) v s h zero = h 0
  set-sized (p ∷ ps) (suc k) v s h (suc i) = set-sized ps k v s (λ j. h (suc j)) i

  rest-sized : (n i : ℕ) → Sized (get_or (replicate n at_rest) i at_rest)
  rest-sized zero i = (refl, refl, refl)
  rest-sized (suc n) zero = (refl, refl, refl)
  rest-sized (suc n) (suc i) = rest-sized n i

  fold-sized : (ts : List Track) (ps : List Pose) → ((i : ℕ) → Sized (get_or ps i at_rest)) → (i : ℕ) → Sized (get_or (foldl (drive_at time) ps ts) i at_rest)
  unfolding foldl
  fold-sized [] ps h i = h i
  fold-sized (t ∷ ts) ps h i =
      fold-sized ts (drive_at time ps t) (set-sized ps t.target (drive time (get_or ps t.target at_rest) t) (drive-sized t (get_or ps t.target at_rest) (h t.target)) h) i

  pub poses-sized : (n : ℕ) (ts : List Track) (i : ℕ) → Sized (get_or (poses time n ts) i at_rest)
  unfolding poses
  poses-sized n ts i = fold-sized ts (replicate n at_rest) (rest-sized n) i
