-- Morph targets look at the vertices of a primitive alone: one that is absent may as well be there with no entries. Assumes nothing.
use mathlib.Core.Path.{◌≡◌, refl, sym, ap, ◌∙◌}
use mathlib.Core.Bool.{Bool, true, false}
use mathlib.Core.List.{List, [], ◌∷◌, ◌++◌}
use mathlib.Core.Option.{Option, none, some}
use lib.Ieee.{Float, eq}
use lib.ListN.{take, drop}
use Rattle.float.specs.F32.{zero32}
use Rattle.model.specs.Lists.{pick, any_of, map_some, or_else}
use Rattle.model.specs.Vector.{Vector, ◌⊙◌, ◌⊞◌}
use Rattle.model.specs.Scene.{InBetween, Target, Primitive}
use Rattle.model.specs.Morph.{Station, with_deltas, valid, stations, segment_from, between, plain_target, station_target, with_target, with_targets}
use Rattle.model.specs.Vertices.{Shape}
use Rattle.model.specs.Attributes.{shape_of}

-- a slot of deltas on an attribute that may be absent
abbrev on_slot : (Vector → Vector → Vector) → List Vector → Option (List Vector) → List Vector
on_slot f vs none = vs
on_slot f vs (some ds) = with_deltas f vs ds

slot-or : (f : Vector → Vector → Vector) (vs ds : Option (List Vector)) → or_else (map_some (λ l. on_slot f l ds) vs) [] ≡ on_slot f (or_else vs []) ds
unfolding with_deltas
slot-or f (some vs) ds = refl
slot-or f none none = refl
slot-or f none (some ds) = refl

-- the vertices alone, all attributes there
abbrev pub bare_of : Shape → Primitive
bare_of s = record { positions = s.positions; normals = some s.normals; tangents = some s.tangents; joints = none; weights = none; targets = [] }

plain-bare : (w : Float) (t : Target) (p : Primitive) → shape_of (plain_target w t p) ≡ shape_of (plain_target w t (bare_of (shape_of p)))
unfolding plain_target
plain-bare w t p = λ j. record {
  positions = (shape_of (plain_target w t p)).positions;
  normals = slot-or (λ v d. v ⊞ w ⊙ d) p.normals t.normals j;
  tangents = slot-or (λ v d. (take 3 v ⊞ w ⊙ d) ++ drop 3 v) p.tangents t.tangents j;
}

-- the stations of a target, once they are found
abbrev on_stations : Float → Target → Primitive → List Station → Primitive
on_stations w t p [] = p
on_stations w t p (a ∷ []) = p
on_stations w t p (a ∷ b ∷ rest) =
    let g = segment_from w a b rest in
    let q = plain_target w t p in
    record {
      positions = on_slot ◌⊞◌ p.positions (between (λ (s : Station). s.positions) t.positions (a ∷ b ∷ rest) w g);
      normals = map_some (λ l. on_slot ◌⊞◌ l (between (λ (s : Station). s.normals) t.normals (a ∷ b ∷ rest) w g)) p.normals;
      tangents = q.tangents;
      joints = p.joints;
      weights = p.weights;
      targets = p.targets;
    }

by-stations : (w : Float) (t : Target) (p : Primitive) (l : List Station) → stations t ≡ l → station_target w t p ≡ on_stations w t p l
unfolding station_target plain_target
by-stations w t p [] e = cc
by-stations w t p (a ∷ []) e = cc
by-stations w t p (a ∷ b ∷ rest) e = cc

station-alike : (w : Float) (t : Target) (p : Primitive) (l : List Station) → shape_of (on_stations w t p l) ≡ shape_of (on_stations w t (bare_of (shape_of p)) l)
unfolding plain_target
station-alike w t p [] = refl
station-alike w t p (a ∷ []) = refl
station-alike w t p (a ∷ b ∷ rest) = λ j. record {
  positions = (on_stations w t p (a ∷ b ∷ rest)).positions;
  normals = slot-or ◌⊞◌ p.normals (between (λ (s : Station). s.normals) t.normals (a ∷ b ∷ rest) w (segment_from w a b rest)) j;
  tangents = slot-or (λ v d. (take 3 v ⊞ w ⊙ d) ++ drop 3 v) p.tangents t.tangents j;
}

target-bare : (w : Float) (t : Target) (p : Primitive) → shape_of (with_target p t w) ≡ shape_of (with_target (bare_of (shape_of p)) t w)
unfolding with_target
target-bare w t p = go (eq w zero32) (any_of (λ (b : InBetween). valid b.weight) t.in_betweens)
  where
    go : (z v : Bool) → shape_of (pick z p (pick v (station_target w t p) (plain_target w t p))) ≡ shape_of (pick z (bare_of (shape_of p)) (pick v (station_target w t (bare_of (shape_of p))) (plain_target w t (bare_of (shape_of p)))))
    go true v = refl
    go false true =
        ap shape_of (by-stations w t p (stations t) refl)
        ∙ station-alike w t p (stations t)
        ∙ ap shape_of (sym (by-stations w t (bare_of (shape_of p)) (stations t) refl))
    go false false = plain-bare w t p

pub morphed-bare : (ts : List Target) (ws : List Float) (p : Primitive) → shape_of (with_targets ts ws p) ≡ shape_of (with_targets ts ws (bare_of (shape_of p)))
unfolding with_targets
morphed-bare [] ws p = refl
morphed-bare (t ∷ ts) [] p = refl
morphed-bare (t ∷ ts) (w ∷ ws) p =
    morphed-bare ts ws (with_target p t w)
    ∙ ap (λ (s : Shape). shape_of (with_targets ts ws (bare_of s))) (target-bare w t p)
    ∙ sym (morphed-bare ts ws (with_target (bare_of (shape_of p)) t w))

-- joints and weights stay
pub record Influenced (p q : Primitive) : Type 0 where
  pub joints : p.joints ≡ q.joints
  pub weights : p.weights ≡ q.weights

stations-keep : (w : Float) (t : Target) (p : Primitive) (l : List Station) → Influenced (on_stations w t p l) p
stations-keep w t p [] = record { joints = refl; weights = refl }
stations-keep w t p (a ∷ []) = record { joints = refl; weights = refl }
stations-keep w t p (a ∷ b ∷ rest) = record { joints = refl; weights = refl }

target_keeps : (w : Float) (t : Target) (p : Primitive) → Influenced (with_target p t w) p
unfolding with_target plain_target
target_keeps w t p = go (eq w zero32) (any_of (λ (b : InBetween). valid b.weight) t.in_betweens)
  where
    go : (z v : Bool) → Influenced (pick z p (pick v (station_target w t p) (plain_target w t p))) p
    go true v = record { joints = refl; weights = refl }
    go false true =
        let e = by-stations w t p (stations t) refl in
        let k = stations-keep w t p (stations t) in
        record { joints = (λ j. (e j).joints) ∙ k.joints; weights = (λ j. (e j).weights) ∙ k.weights }
    go false false = record { joints = refl; weights = refl }

pub morphed-keeps : (ts : List Target) (ws : List Float) (p : Primitive) → Influenced (with_targets ts ws p) p
unfolding with_targets
morphed-keeps [] ws p = record { joints = refl; weights = refl }
morphed-keeps (t ∷ ts) [] p = record { joints = refl; weights = refl }
morphed-keeps (t ∷ ts) (w ∷ ws) p =
    let a = morphed-keeps ts ws (with_target p t w) in
    let b = target_keeps w t p in
    record { joints = a.joints ∙ b.joints; weights = a.weights ∙ b.weights }
