-- What is kept of the stations while in-betweens are met one by one is what the whole sorted list gives. Assumes nothing.
use mathlib.Core.Path.{◌≡◌, refl, sym, ap, ◌∙◌, subst}
use mathlib.Core.Bool.{Bool, true, false}
use mathlib.Core.List.{List, [], ◌∷◌}
use mathlib.Core.Option.{none}
use Prim.Native.Nat.{ℕ, zero, suc, ◌/◌, max}
use native.Mathlib.Omega.{arith}
use lib.Ieee.{Float, lt, le}
use lib.ListN.{length}
use Rattle.float.specs.F32.{zero32, one32}
use Rattle.model.specs.Lists.{pick, foldl, keep, tabulate, or_else}
use Rattle.model.specs.Scene.{InBetween, Target}
use Rattle.model.specs.Morph as morph
use Rattle.tables.specs.declared.Header.{Header}
use Rattle.tables.specs.declared.Slot.{Slot}
use Rattle.tables.specs.declared.TargetRow.{TargetRow}
use Rattle.tables.specs.Decoded.{slot_in, target_of}
use Rattle.deltas.specs.declared.Station.{Station}
use Rattle.deltas.specs.Deltas.{lent_in, deltas_in}
use Rattle.deltas.specs.Betweens.{betweens_in, station_at, kept_in}
use Rattle.mesh.specs.declared.Segment.{Segment}
use Rattle.mesh.specs.declared.Blend.{Blend}
use Rattle.mesh.specs.Blended.{part_of_way, blended_in}
use Rattle.mesh.specs.Added.{station_deltas}
use Rattle.mesh.specs.Stations.{longest_of, station_for, segment_for, Blends, narrowed_in, widened_in, stations_in, widened_by}
use Rattle.mesh.proofs.Segments.{narrowed_to, inserted_all, Sorted, first-sorted, kept-number, inserted-sorted, segment-inserted}
use Rattle.mesh.proofs.SlotLaws.{slot-count, longest-inserted, deltas-between}

-- the in-between that a station was read from
abbrev pub between_for : List Float → Station → InBetween
between_for floats s = record { weight = s.weight; positions = slot_in floats s.positions 3; normals = slot_in floats s.normals 3 }

module _ (floats : List Float) (w : Float) where
  segment-for : (g : Segment) (s : Station) → segment_for floats (narrowed_in w g s) ≡ narrowed_to w (segment_for floats g) (station_for floats s)
  unfolding narrowed_in narrowed_to
  segment-for g s =
      go (lt s.weight g.low.weight) (le w g.low.weight) (lt s.weight g.high.weight) (le w s.weight) (le w g.high.weight)
    where
      go : (a b c d e : Bool)
          → segment_for floats (pick a (pick b (record { low = s; high = g.low }) g) (pick c (pick d (record { low = g.low; high = s }) (record { low = s; high = g.high })) (pick e g (record { low = g.high; high = s }))))
          ≡ pick a (pick b (record { low = station_for floats s; high = station_for floats g.low }) (segment_for floats g)) (pick c (pick d (record { low = station_for floats g.low; high = station_for floats s }) (record { low = station_for floats s; high = station_for floats g.high })) (pick e (segment_for floats g) (record { low = station_for floats g.high; high = station_for floats s })))
      go true true c d e = refl
      go true false c d e = refl
      go false b true true e = refl
      go false b true false e = refl
      go false b false d true = refl
      go false b false d false = refl

  -- one station more
  blends-more : (l : List morph.Station) (b : Blend) (s : Station) → Sorted l → Blends floats l w b → Blends floats (morph.inserted (station_for floats s) l) w (widened_in floats w b s)
  unfolding widened_in
  blends-more l b s sorted h = record {
    segment = segment-for b.segment s ∙ ap (λ (g : morph.Segment). narrowed_to w g (station_for floats s)) h.segment ∙ sym (segment-inserted w (station_for floats s) l sorted);
    positions = (λ j. max (sym (slot-count floats s.positions) j) (h.positions j)) ∙ sym (longest-inserted (λ (t : morph.Station). t.positions) (station_for floats s) l);
    normals = (λ j. max (sym (slot-count floats s.normals) j) (h.normals j)) ∙ sym (longest-inserted (λ (t : morph.Station). t.normals) (station_for floats s) l);
  }

  -- all of them
  pub blends-all : (all : List InBetween) (n : ℕ) (g : ℕ → Station) (l : List morph.Station) (b : Blend) → Sorted l → Blends floats l w b
      → Blends floats (inserted_all l (keep (λ (c : InBetween). kept_in all c.weight) (tabulate n (λ k. between_for floats (g k))))) w (foldl (widened_by floats w all) b (tabulate n g))
  unfolding foldl keep tabulate widened_by
  blends-all all zero g l b sorted h = h
  blends-all all (suc n) g l b sorted h =
      go (kept_in all (g 0).weight) refl (λ m c s k. blends-all all n (λ i. g (suc i)) m c s k)
    where
      go : (p : Bool) → kept_in all (g 0).weight ≡ p
          → ((m : List morph.Station) (c : Blend) → Sorted m → Blends floats m w c → Blends floats (inserted_all m (keep (λ (c : InBetween). kept_in all c.weight) (tabulate n (λ k. between_for floats (g (suc k)))))) w (foldl (widened_by floats w all) c (tabulate n (λ i. g (suc i)))))
          → Blends floats (inserted_all l (pick p (between_for floats (g 0) ∷ keep (λ (c : InBetween). kept_in all c.weight) (tabulate n (λ k. between_for floats (g (suc k))))) (keep (λ (c : InBetween). kept_in all c.weight) (tabulate n (λ k. between_for floats (g (suc k))))))) w (foldl (widened_by floats w all) (pick p (widened_in floats w b (g 0)) b) (tabulate n (λ i. g (suc i))))
      go true e f = f (morph.inserted (station_for floats (g 0)) l) (widened_in floats w b (g 0)) (inserted-sorted (station_for floats (g 0)) (kept-number all (g 0).weight e) l sorted) (blends-more l b (g 0) sorted h)
      go false e f = f l b sorted h

-- ---- 0 and 1
abbrev first_of : List Float → Slot → Slot → List morph.Station
first_of floats positions normals = record { weight = zero32; positions = none; normals = none } ∷ record { weight = one32; positions = slot_in floats positions 3; normals = slot_in floats normals 3 } ∷ []

-- ---- a target as it is lent
module _ (words : List ℕ) (floats : List Float) (h : Header) (row : TargetRow) (w : Float) (p n : ℕ) where
  -- before any in-between
  abbrev pub start_of : Blend
  start_of = record {
    segment = record {
      low = record { weight = zero32; positions = record { mark = 0; part = record { at = 0; count = 0 } }; normals = record { mark = 0; part = record { at = 0; count = 0 } } };
      high = record { weight = one32; positions = row.positions; normals = row.normals };
    };
    positions = p;
    normals = n;
  }

  pub target-blends : (r : Blend)
      → p ≡ max (length (deltas_in floats row.positions) / 3) 0
      → n ≡ max (length (deltas_in floats row.normals) / 3) 0
      → r ≡ foldl (widened_by floats w (betweens_in words floats h row.in_betweens)) start_of (stations_in words floats h row.in_betweens)
      → Blends floats (morph.stations (target_of (lent_in words floats h) row)) w r
  unfolding morph.stations morph.segment_from longest_of
  target-blends r a c e =
      let start : Blends floats (first_of floats row.positions row.normals) w start_of = record {
        segment = refl;
        positions = omega (arith, slot-count floats row.positions);
        normals = omega (arith, slot-count floats row.normals);
      } in
      subst (λ (x : Blend). Blends floats (morph.stations (target_of (lent_in words floats h) row)) w x) (sym e)
      (blends-all floats w (betweens_in words floats h row.in_betweens) row.in_betweens.count (station_at words floats h row.in_betweens) (first_of floats row.positions row.normals) start_of (first-sorted (slot_in floats row.positions 3) (slot_in floats row.normals 3)) start)

-- ---- the deltas of an attribute
module _ (floats : List Float) (t : Target) (own : Slot) (w : Float) (b : Blend) (h : Blends floats (morph.stations t) w b) where
  abbrev way : Float
  way = part_of_way w b.segment.low.weight b.segment.high.weight

  pub position-deltas : station_deltas (λ (s : morph.Station). s.positions) (slot_in floats own 3) t w ≡ blended_in floats own b.positions way b.segment.low.positions b.segment.high.positions
  unfolding station_deltas
  position-deltas =
      ap (λ (g : morph.Segment). or_else (morph.between (λ (s : morph.Station). s.positions) (slot_in floats own 3) (morph.stations t) w g) []) (sym h.segment)
      ∙ deltas-between floats (λ (s : morph.Station). s.positions) own b.segment.low.positions b.segment.high.positions (morph.stations t) w (segment_for floats b.segment) b.positions refl refl h.positions

  pub normal-deltas : station_deltas (λ (s : morph.Station). s.normals) (slot_in floats own 3) t w ≡ blended_in floats own b.normals way b.segment.low.normals b.segment.high.normals
  unfolding station_deltas
  normal-deltas =
      ap (λ (g : morph.Segment). or_else (morph.between (λ (s : morph.Station). s.normals) (slot_in floats own 3) (morph.stations t) w g) []) (sym h.segment)
      ∙ deltas-between floats (λ (s : morph.Station). s.normals) own b.segment.low.normals b.segment.high.normals (morph.stations t) w (segment_for floats b.segment) b.normals refl refl h.normals
