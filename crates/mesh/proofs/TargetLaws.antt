-- A target added to vertices that lie in flat slices. Assumes nothing.
use mathlib.Core.Path.{◌≡◌, refl, sym, ◌∙◌, subst}
use mathlib.Core.Bool.{Bool, true, false}
use mathlib.Core.List.{List, [], ◌∷◌, ◌++◌}
use mathlib.Core.Option.{Option, none, some}
use lib.Ieee.{Float, eq}
use lib.ListN.{take, drop}
use Rattle.float.specs.F32.{zero32}
use Rattle.model.specs.Lists.{pick, foldl, keep, any_of, rows_in, or_else}
use Rattle.model.specs.Vector.{Vector, ◌⊙◌, ◌⊞◌}
use Rattle.model.specs.Scene.{InBetween, Target, Primitive}
use Rattle.model.specs.Morph.{Station, with_deltas, valid, stations, segment_from, between, plain_target, station_target, with_target}
use Rattle.model.specs.Attributes.{attributes_in, shape_of, over_rows, Reshaped}
use Rattle.deltas.specs.Betweens.{kept_in}
use Rattle.deltas.proofs.DeltaLaws.{no-deltas, over-own}
use Rattle.mesh.specs.Added.{Added, station_deltas}
use Rattle.mesh.proofs.Segments.{inserted_all, Sorted, first-sorted, kept-number, inserted-sorted}

-- as `Morph` has it
abbrev pub on_slot : (Vector → Vector → Vector) → List Vector → Option (List Vector) → List Vector
on_slot f vs none = vs
on_slot f vs (some ds) = with_deltas f vs ds

on-slot : (f : Vector → Vector → Vector) (vs : List Vector) (o : Option (List Vector)) → on_slot f vs o ≡ with_deltas f vs (or_else o [])
on-slot f vs none = sym (no-deltas f vs)
on-slot f vs (some ds) = refl

-- w times x, y and z of a tangent's delta
abbrev pub plus_xyz : Float → Vector → Vector → Vector
plus_xyz w v d = (take 3 v ⊞ w ⊙ d) ++ drop 3 v

-- vertices with all three attributes
abbrev pub vertices : List Vector → List Vector → List Vector → Primitive
vertices ps ns ts = record { positions = ps; normals = some ns; tangents = some ts; joints = none; weights = none; targets = [] }

-- ---- the stations of any target
sorted_all : (all bs : List InBetween) (l : List Station) → Sorted l → Sorted (inserted_all l (keep (λ (b : InBetween). kept_in all b.weight) bs))
unfolding foldl keep
sorted_all all [] l h = h
sorted_all all (x ∷ bs) l h = go (kept_in all x.weight) refl (λ m k. sorted_all all bs m k)
  where
    go : (p : Bool) → kept_in all x.weight ≡ p
        → ((m : List Station) → Sorted m → Sorted (inserted_all m (keep (λ (b : InBetween). kept_in all b.weight) bs)))
        → Sorted (inserted_all l (pick p (x ∷ keep (λ (b : InBetween). kept_in all b.weight) bs) (keep (λ (b : InBetween). kept_in all b.weight) bs)))
    go true e f = f _ (inserted-sorted (record { weight = x.weight; positions = x.positions; normals = x.normals }) (kept-number all x.weight e) l h)
    go false e f = f l h

pub stations-sorted : (t : Target) → Sorted (stations t)
unfolding stations
stations-sorted t = sorted_all t.in_betweens t.in_betweens _ (first-sorted t.positions t.normals)

-- ---- what a target makes of vertices
module _ (w : Float) (t : Target) (ps ns ts : List Vector) where
  pub plain-is : plain_target w t (vertices ps ns ts) ≡ vertices (with_deltas (λ v d. v ⊞ w ⊙ d) ps (or_else t.positions [])) (with_deltas (λ v d. v ⊞ w ⊙ d) ns (or_else t.normals [])) (with_deltas (plus_xyz w) ts (or_else t.tangents []))
  unfolding plain_target
  plain-is = λ j. vertices (on-slot (λ v d. v ⊞ w ⊙ d) ps t.positions j) (on-slot (λ v d. v ⊞ w ⊙ d) ns t.normals j) (on-slot (plus_xyz w) ts t.tangents j)

  abbrev pub stationed : Primitive
  stationed = vertices (with_deltas ◌⊞◌ ps (station_deltas (λ (s : Station). s.positions) t.positions t w)) (with_deltas ◌⊞◌ ns (station_deltas (λ (s : Station). s.normals) t.normals t w)) (with_deltas (plus_xyz w) ts (or_else t.tangents []))

  pub station-is : station_target w t (vertices ps ns ts) ≡ stationed
  unfolding station_target station_deltas
  station-is = go (stations t) refl (stations-sorted t)
    where
      go : (l : List Station) → stations t ≡ l → Sorted l → station_target w t (vertices ps ns ts) ≡ stationed
      go [] e h = absurd h
      go (a ∷ []) e h = absurd h
      go (a ∷ b ∷ rest) e h = rw e (λ j. vertices (on-slot ◌⊞◌ ps (between (λ (s : Station). s.positions) t.positions (a ∷ b ∷ rest) w (segment_from w a b rest)) j) (on-slot ◌⊞◌ ns (between (λ (s : Station). s.normals) t.normals (a ∷ b ∷ rest) w (segment_from w a b rest)) j) (on-slot (plus_xyz w) ts t.tangents j))

-- ---- the slices once a target is added
module _ (w : Float) (t : Target) (lent_p left_p lent_n left_n lent_t left_t : List Float) where
  abbrev has_valid : Bool
  has_valid = any_of (λ (b : InBetween). valid b.weight) t.in_betweens

  abbrev lent : Primitive
  lent = attributes_in lent_p lent_n lent_t

  -- what is found for the tests holds for `with_target`
  by-tests : (zero valid : Bool) → eq w zero32 ≡ zero → has_valid ≡ valid → Reshaped (shape_of (pick zero lent (pick valid (station_target w t lent) (plain_target w t lent)))) lent_p left_p lent_n left_n lent_t left_t → Reshaped (shape_of (with_target lent t w)) lent_p left_p lent_n left_n lent_t left_t
  unfolding with_target
  by-tests zero valid e f h = subst (λ (p : Primitive). Reshaped (shape_of p) lent_p left_p lent_n left_n lent_t left_t) (sym (λ j. pick (e j) lent (pick (f j) (station_target w t lent) (plain_target w t lent)))) h

  pub unmoved : eq w zero32 ≡ true → left_p ≡ lent_p → left_n ≡ lent_n → left_t ≡ lent_t → Reshaped (shape_of (with_target lent t w)) lent_p left_p lent_n left_n lent_t left_t
  unmoved e p n q = by-tests true has_valid e refl (record {
    positions = p ∙ sym (over-own 3 lent_p);
    normals = n ∙ sym (over-own 3 lent_n);
    tangents = q ∙ sym (over-own 4 lent_t);
  })

  pub moved-by-stations : eq w zero32 ≡ false → has_valid ≡ true
      → Added ◌⊞◌ (station_deltas (λ (s : Station). s.positions) t.positions t w) (station_deltas (λ (s : Station). s.normals) t.normals t w) lent_p left_p lent_n left_n
      → left_t ≡ over_rows 4 (with_deltas (plus_xyz w) (rows_in 4 lent_t) (or_else t.tangents [])) lent_t
      → Reshaped (shape_of (with_target lent t w)) lent_p left_p lent_n left_n lent_t left_t
  moved-by-stations e f h q = by-tests false true e f (subst (λ (p : Primitive). Reshaped (shape_of p) lent_p left_p lent_n left_n lent_t left_t) (sym (station-is w t (rows_in 3 lent_p) (rows_in 3 lent_n) (rows_in 4 lent_t))) (record {
    positions = h.positions;
    normals = h.normals;
    tangents = q;
  }))

  pub moved-plainly : eq w zero32 ≡ false → has_valid ≡ false
      → Added (λ v d. v ⊞ w ⊙ d) (or_else t.positions []) (or_else t.normals []) lent_p left_p lent_n left_n
      → left_t ≡ over_rows 4 (with_deltas (plus_xyz w) (rows_in 4 lent_t) (or_else t.tangents [])) lent_t
      → Reshaped (shape_of (with_target lent t w)) lent_p left_p lent_n left_n lent_t left_t
  moved-plainly e f h q = by-tests false false e f (subst (λ (p : Primitive). Reshaped (shape_of p) lent_p left_p lent_n left_n lent_t left_t) (sym (plain-is w t (rows_in 3 lent_p) (rows_in 3 lent_n) (rows_in 4 lent_t))) (record {
    positions = h.positions;
    normals = h.normals;
    tangents = q;
  }))
