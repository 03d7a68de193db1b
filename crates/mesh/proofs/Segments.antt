-- The segment of a weight among stations, found without sorting: a station that is inserted moves at most one end. Assumes nothing.
use mathlib.Core.Path.{◌≡◌, refl, sym, ◌∙◌}
use mathlib.Core.Bool.{Bool, true, false, not, ◌&&◌, true≢false}
use mathlib.Core.List.{List, [], ◌∷◌}
use mathlib.Core.Option.{Option, none}
use lib.Ieee.{Float, lt, le, eq, is_nan, of_bits, of_fields}
use lib.Ieee.Scale.{finite}
use Rattle.float.specs.F32.{zero32, one32}
use Rattle.model.specs.Lists.{pick, foldl}
use Rattle.model.specs.Vector.{Vector}
use Rattle.model.specs.Scene.{InBetween}
use Rattle.model.specs.Agree.{Each}
use Rattle.model.specs.Morph.{Station, Segment, valid, inserted, segment_from}
use Rattle.model.proofs.Tests.{both}
use Rattle.deltas.specs.Betweens.{kept_in}
use Rattle.mesh.specs.Stations.{segment_of}
use Rattle.mesh.proofs.Rising.{Below, finite_number, below-of-lt, below-of-not-lt}

-- the two ends, once the station s is inserted
unfoldable pub narrowed_to : Float → Segment → Station → Segment
narrowed_to w g s =
    pick (lt s.weight g.low.weight)
    (pick (le w g.low.weight) (record { low = s; high = g.low }) g)
    (pick (lt s.weight g.high.weight)
    (pick (le w s.weight) (record { low = g.low; high = s }) (record { low = s; high = g.high }))
    (pick (le w g.high.weight) g (record { low = g.high; high = s })))

-- in-betweens inserted one after the other
abbrev pub inserted_all : List Station → List InBetween → List Station
inserted_all l bs = foldl (λ (l : List Station) (b : InBetween). inserted (record { weight = b.weight; positions = b.positions; normals = b.normals }) l) l bs

-- ---- rising lists
abbrev RisingFrom : Float → List Station → Type 0
RisingFrom x [] = Unit {0}
RisingFrom x (s ∷ l) = Below x s.weight × RisingFrom s.weight l

abbrev pub Number : Station → Type 0
Number s = is_nan s.weight ≡ false

-- two stations or more in rising order
abbrev pub Sorted : List Station → Type 0
Sorted [] = ⊥
Sorted (a ∷ []) = ⊥
Sorted (a ∷ b ∷ rest) = RisingFrom a.weight (b ∷ rest) × Each Number (a ∷ b ∷ rest)

-- 0 and 1
pub first-sorted : (positions normals : Option (List Vector)) → Sorted (record { weight = zero32; positions = none; normals = none } ∷ record { weight = one32; positions = positions; normals = normals } ∷ [])
unfolding lt is_nan of_bits of_fields
first-sorted positions normals = ((below-of-lt zero32 one32 refl, tt), (refl, (refl, tt)))

-- an in-between that is a station is no NaN
pub kept-number : (all : List InBetween) (x : Float) → kept_in all x ≡ true → is_nan x ≡ false
kept-number all x h =
    let v = (both (valid x) _ h).0 in
    let f = (both (finite x && not (eq x zero32)) _ v).0 in
    finite_number x (both (finite x) _ f).0

-- ---- an inserted station
module _ (s : Station) (number : Number s) where
  inserted_rising : (x : Float) (l : List Station) → RisingFrom x l → Each Number l → Below x s.weight → RisingFrom x (inserted s l)
  unfolding inserted
  inserted_rising x [] r n b = (b, tt)
  inserted_rising x (t ∷ l) (xt, r) (m, n) b =
      go (lt s.weight t.weight) refl (λ e. inserted_rising t.weight l r n (below-of-not-lt s.weight t.weight number m e))
    where
      go : (p : Bool) → lt s.weight t.weight ≡ p → (lt s.weight t.weight ≡ false → RisingFrom t.weight (inserted s l)) → RisingFrom x (pick p (s ∷ t ∷ l) (t ∷ inserted s l))
      go true e f = (b, (below-of-lt s.weight t.weight e, r))
      go false e f = (xt, f e)

  inserted-numbers : (l : List Station) → Each Number l → Each Number (inserted s l)
  unfolding inserted
  inserted-numbers [] n = (number, tt)
  inserted-numbers (t ∷ l) (m, n) = go (lt s.weight t.weight) (inserted-numbers l n)
    where
      go : (p : Bool) → Each Number (inserted s l) → Each Number (pick p (s ∷ t ∷ l) (t ∷ inserted s l))
      go true f = (number, (m, n))
      go false f = (m, f)

  pub inserted-sorted : (l : List Station) → Sorted l → Sorted (inserted s l)
  unfolding inserted
  inserted-sorted [] h = h
  inserted-sorted (a ∷ []) h = absurd h
  inserted-sorted (a ∷ b ∷ rest) (r, (m, n)) =
      first (lt s.weight a.weight) refl (λ e. inserted_rising a.weight (b ∷ rest) r n (below-of-not-lt s.weight a.weight number m e)) (inserted-numbers (b ∷ rest) n)
    where
      second : (q : Bool) → RisingFrom a.weight (pick q (s ∷ b ∷ rest) (b ∷ inserted s rest)) → Each Number (pick q (s ∷ b ∷ rest) (b ∷ inserted s rest)) → Sorted (a ∷ pick q (s ∷ b ∷ rest) (b ∷ inserted s rest))
      second true f k = (f, (m, k))
      second false f k = (f, (m, k))

      first : (p : Bool) → lt s.weight a.weight ≡ p → (lt s.weight a.weight ≡ false → RisingFrom a.weight (inserted s (b ∷ rest))) → Each Number (inserted s (b ∷ rest)) → Sorted (pick p (s ∷ a ∷ b ∷ rest) (a ∷ inserted s (b ∷ rest)))
      first true e f k = ((below-of-lt s.weight a.weight e, r), (number, (m, n)))
      first false e f k = second (lt s.weight b.weight) (f e) k

-- ---- where w lies above the first station, with the weight x, the low end of its segment is below w, and what is below x is below that end
abbrev LowEnd : Float → Float → Float → Type 0
LowEnd w x low = (le w low ≡ false) × ((y : Float) → lt y x ≡ true → lt y low ≡ true)

low-kept : (w : Float) (a b : Station) (rest : List Station) → le w a.weight ≡ false → RisingFrom a.weight (b ∷ rest) → LowEnd w a.weight (segment_from w a b rest).low.weight
unfolding segment_from
low-kept w a b [] h r = (h, λ x k. k)
low-kept w a b (c ∷ rest) h (ab, r) = go (le w b.weight) refl (λ e. low-kept w b c rest e r)
  where
    go : (p : Bool) → le w b.weight ≡ p → (le w b.weight ≡ false → LowEnd w b.weight (segment_from w b c rest).low.weight) → LowEnd w a.weight (pick p (record { low = a; high = b }) (segment_from w b c rest)).low.weight
    go true e f = (h, λ x k. k)
    go false e f = ((f e).0, λ x k. (f e).1 x (ab.lts x k))

-- what is below the low end of a segment that w lies in leaves it alone
left_alone : (w : Float) (g : Segment) (s : Station) → le w g.low.weight ≡ false → lt s.weight g.low.weight ≡ true → narrowed_to w g s ≡ g
unfolding narrowed_to
left_alone w g s h k = simp (k, h)

not-le : (w x y : Float) → Below x y → le w y ≡ false → le w x ≡ false
not-le w x y b h = go (le w x) refl
  where
    go : (p : Bool) → le w x ≡ p → le w x ≡ false
    go true e = absurd (true≢false (sym (b.les w e) ∙ h))
    go false e = e

module _ (w : Float) (s : Station) where
  -- w lies in the first segment
  in-first : (a b c : Station) (rest : List Station) → le w b.weight ≡ true → segment_of w (inserted s (a ∷ b ∷ c ∷ rest)) ≡ narrowed_to w (segment_from w a b (c ∷ rest)) s
  unfolding inserted segment_from narrowed_to
  in-first a b c rest h = first (lt s.weight a.weight) refl
    where
      third : (u : Bool) → segment_from w a b (pick u (s ∷ c ∷ rest) (c ∷ inserted s rest)) ≡ record { low = a; high = b }
      third true = simp h
      third false = simp h

      second : (q : Bool) → lt s.weight a.weight ≡ false → lt s.weight b.weight ≡ q → segment_of w (inserted s (a ∷ b ∷ c ∷ rest)) ≡ narrowed_to w (segment_from w a b (c ∷ rest)) s
      second true p e = simp (h, p, e)
      second false p e = simp (h, p, e) (third (lt s.weight c.weight))

      first : (p : Bool) → lt s.weight a.weight ≡ p → segment_of w (inserted s (a ∷ b ∷ c ∷ rest)) ≡ narrowed_to w (segment_from w a b (c ∷ rest)) s
      first true e = simp (h, e)
      first false e = second (lt s.weight b.weight) e refl

  -- w lies above the first segment; the station is put before its upper end, or past it
  past_first : (a b c : Station) (rest : List Station) → Below a.weight b.weight → RisingFrom b.weight (c ∷ rest) → le w b.weight ≡ false
      → segment_of w (inserted s (b ∷ c ∷ rest)) ≡ narrowed_to w (segment_from w b c rest) s
      → segment_of w (inserted s (a ∷ b ∷ c ∷ rest)) ≡ narrowed_to w (segment_from w a b (c ∷ rest)) s
  unfolding inserted segment_from
  past_first a b c rest ab r h further = first (lt s.weight a.weight) refl
    where
      alone : lt s.weight b.weight ≡ true → segment_from w b c rest ≡ narrowed_to w (segment_from w b c rest) s
      alone k = let low = low-kept w b c rest h r in sym (left_alone w (segment_from w b c rest) s low.0 (low.1 s.weight k))

      onward : (u : Bool) → segment_of w (b ∷ pick u (s ∷ c ∷ rest) (c ∷ inserted s rest)) ≡ narrowed_to w (segment_from w b c rest) s → segment_from w a b (pick u (s ∷ c ∷ rest) (c ∷ inserted s rest)) ≡ narrowed_to w (segment_from w b c rest) s
      onward true f = simp h f
      onward false f = simp h f

      second : (q : Bool) → lt s.weight a.weight ≡ false → lt s.weight b.weight ≡ q → segment_of w (inserted s (a ∷ b ∷ c ∷ rest)) ≡ narrowed_to w (segment_from w a b (c ∷ rest)) s
      second true p e = simp (p, e, h, not-le w s.weight b.weight (below-of-lt s.weight b.weight e) h) (alone e)
      second false p e = simp (p, e, h) (onward (lt s.weight c.weight) (simp e at further))

      first : (p : Bool) → lt s.weight a.weight ≡ p → segment_of w (inserted s (a ∷ b ∷ c ∷ rest)) ≡ narrowed_to w (segment_from w a b (c ∷ rest)) s
      first true e = simp (e, h, not-le w a.weight b.weight ab h) (alone (ab.lts s.weight e))
      first false e = second (lt s.weight b.weight) e refl

  of_two : (a b : Station) → segment_of w (inserted s (a ∷ b ∷ [])) ≡ narrowed_to w (record { low = a; high = b }) s
  unfolding inserted segment_from narrowed_to
  of_two a b = first (lt s.weight a.weight) refl
    where
      second : (q : Bool) → lt s.weight a.weight ≡ false → lt s.weight b.weight ≡ q → segment_of w (inserted s (a ∷ b ∷ [])) ≡ narrowed_to w (record { low = a; high = b }) s
      second true p e = simp (p, e)
      second false p e = simp (p, e)

      first : (p : Bool) → lt s.weight a.weight ≡ p → segment_of w (inserted s (a ∷ b ∷ [])) ≡ narrowed_to w (record { low = a; high = b }) s
      first true e = simp e
      first false e = second (lt s.weight b.weight) e refl

  of-more : (a b : Station) (rest : List Station) → RisingFrom a.weight (b ∷ rest) → segment_of w (inserted s (a ∷ b ∷ rest)) ≡ narrowed_to w (segment_from w a b rest) s
  unfolding segment_from
  of-more a b [] r = of_two a b
  of-more a b (c ∷ rest) (ab, r) = go (le w b.weight) refl (of-more b c rest r)
    where
      go : (p : Bool) → le w b.weight ≡ p → segment_of w (inserted s (b ∷ c ∷ rest)) ≡ narrowed_to w (segment_from w b c rest) s → segment_of w (inserted s (a ∷ b ∷ c ∷ rest)) ≡ narrowed_to w (segment_from w a b (c ∷ rest)) s
      go true e f = in-first a b c rest e
      go false e f = past_first a b c rest ab r e f

  pub segment-inserted : (l : List Station) → Sorted l → segment_of w (inserted s l) ≡ narrowed_to w (segment_of w l) s
  segment-inserted [] h = absurd h
  segment-inserted (a ∷ []) h = absurd h
  segment-inserted (a ∷ b ∷ rest) (r, n) = of-more a b rest r
