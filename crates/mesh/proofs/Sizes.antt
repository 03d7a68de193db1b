-- Morphed vertices are as many and as wide as they were. Assumes nothing.
use mathlib.Core.Path.{◌≡◌, refl, ap, ◌∙◌}
use mathlib.Core.Bool.{Bool, true, false}
use mathlib.Core.List.{List, [], ◌∷◌, map, zip_with}
use mathlib.Core.Option.{Option, none, some}
use Prim.Native.Nat.{ℕ, zero, suc, ◌+◌}
use native.Mathlib.Omega.{arith}
use lib.Ieee.{Float, lt, le, eq}
use lib.ListN.{length, get_or, take, drop, length-append, length-take, length-drop, length-map}
use Rattle.float.specs.F32.{◌⊕◌, ◌⊖◌, ◌⊗◌, ◌⊘◌, zero32}
use Rattle.model.specs.Lists.{pick, foldl, keep, any_of, tabulate, rows_in, or_else, map_some}
use Rattle.model.specs.Vector.{Vector, ◌⊙◌, ◌⊞◌}
use Rattle.model.specs.Scene.{InBetween, Target, Primitive}
use Rattle.model.specs.Agree.{Each}
use Rattle.model.specs.Morph.{Station, Segment, with_deltas, valid, inserted, stations, segment_from, between, plain_target, station_target, with_target, with_targets}
use Rattle.model.proofs.ListLaws.{length-zip}
use Rattle.model.proofs.RowLaws.{Rows}
use Rattle.model.proofs.Rowwise.{each-tabulated, rows-in}
use Rattle.tracks.specs.declared.Part.{Part}
use Rattle.tables.specs.declared.Slot.{Slot}
use Rattle.tables.specs.declared.InBetweenRow.{InBetweenRow}
use Rattle.tables.specs.declared.TargetRow.{TargetRow}
use Rattle.tables.specs.Records.{in_between_row}
use Rattle.tables.specs.Decoded.{Lent, span_in, slot_in, records_in, in_between_of, target_of}
use Rattle.tables.specs.Tags.{is_marked}
use Rattle.mesh.proofs.Segments.{inserted_all, Sorted}
use Rattle.mesh.proofs.SlotLaws.{entry_of, longer}
use Rattle.mesh.proofs.TargetLaws.{on_slot, plus_xyz, stations-sorted}

-- n rows of w numbers
abbrev pub Size : ℕ → List Vector → ℕ → Type 0
Size w l n = Rows w l × (length l ≡ n)

-- deltas of three numbers
abbrev pub SlotRows : Option (List Vector) → Type 0
SlotRows none = Unit {0}
SlotRows (some l) = Rows 3 l

pub record BetweenRows (b : InBetween) : Type 0 where
  pub positions : SlotRows b.positions
  pub normals : SlotRows b.normals

pub record TargetRows (t : Target) : Type 0 where
  pub positions : SlotRows t.positions
  pub normals : SlotRows t.normals
  pub tangents : SlotRows t.tangents
  pub in_betweens : Each BetweenRows t.in_betweens

-- so many positions, normals and tangents
pub record Sized (p : Primitive) (a b c : ℕ) : Type 0 where
  pub positions : Size 3 p.positions a
  pub normals : Size 3 (or_else p.normals []) b
  pub tangents : Size 4 (or_else p.tangents []) c

-- ---- sums
sum-length : (v d : Vector) → length v ≡ 3 → length d ≡ 3 → length (v ⊞ d) ≡ 3
sum-length v d a b = omega (arith, length-zip ◌⊕◌ v d)

scaled-length : (w : Float) (v d : Vector) → length v ≡ 3 → length d ≡ 3 → length (v ⊞ w ⊙ d) ≡ 3
scaled-length w v d a b = sum-length v (w ⊙ d) a (length-map d (λ x. w ⊗ x) ∙ b)

xyz-length : (w : Float) (v d : Vector) → length v ≡ 4 → length d ≡ 3 → length (plus_xyz w v d) ≡ 4
xyz-length w v d a b =
    let t : length (take 3 v) ≡ 3 = omega (arith, length-take 3 v) in
    omega (arith, length-append (take 3 v ⊞ w ⊙ d) (drop 3 v), length-drop 3 v, scaled-length w (take 3 v) d t b)

-- ---- an attribute
module _ (w : ℕ) (f : Vector → Vector → Vector) (keeps : (v d : Vector) → length v ≡ w → length d ≡ 3 → length (f v d) ≡ w) where
  deltas-size : (vs ds : List Vector) → Rows w vs → Rows 3 ds → Size w (with_deltas f vs ds) (length vs)
  unfolding with_deltas
  deltas-size [] ds h k = (tt, refl)
  deltas-size (v ∷ vs) [] h k = (h, refl)
  deltas-size (v ∷ vs) (d ∷ ds) (a, h) (b, k) = let r = deltas-size vs ds h k in ((keeps v d a b, r.0), ap suc r.1)

  slot-size : (vs : List Vector) (o : Option (List Vector)) (n : ℕ) → Size w vs n → SlotRows o → Size w (on_slot f vs o) n
  slot-size vs none n h k = h
  slot-size vs (some ds) n (h, e) k = let r = deltas-size vs ds h k in (r.0, r.1 ∙ e)

  attribute-size : (a o : Option (List Vector)) (n : ℕ) → Size w (or_else a []) n → SlotRows o → Size w (or_else (map_some (λ l. on_slot f l o) a) []) n
  attribute-size none o n h k = h
  attribute-size (some vs) o n h k = slot-size vs o n h k

plain-sized : (w : Float) (t : Target) (p : Primitive) (a b c : ℕ) → TargetRows t → Sized p a b c → Sized (plain_target w t p) a b c
unfolding plain_target
plain-sized w t p a b c r h = record {
  positions = slot-size 3 (λ v d. v ⊞ w ⊙ d) (scaled-length w) p.positions t.positions a h.positions r.positions;
  normals = attribute-size 3 (λ v d. v ⊞ w ⊙ d) (scaled-length w) p.normals t.normals b h.normals r.normals;
  tangents = attribute-size 4 (plus_xyz w) (xyz-length w) p.tangents t.tangents c h.tangents r.tangents;
}

-- ---- stations
pub record StationRows (s : Station) : Type 0 where
  pub positions : SlotRows s.positions
  pub normals : SlotRows s.normals

inserted-rows : (s : Station) (l : List Station) → StationRows s → Each StationRows l → Each StationRows (inserted s l)
unfolding inserted
inserted-rows s [] h k = (h, tt)
inserted-rows s (t ∷ l) h (a, k) = go (lt s.weight t.weight) (inserted-rows s l h k)
  where
    go : (b : Bool) → Each StationRows (inserted s l) → Each StationRows (pick b (s ∷ t ∷ l) (t ∷ inserted s l))
    go true f = (h, (a, k))
    go false f = (a, f)

all-rows : (p : InBetween → Bool) (bs : List InBetween) (l : List Station) → Each BetweenRows bs → Each StationRows l → Each StationRows (inserted_all l (keep p bs))
unfolding foldl keep
all-rows p [] l h k = k
all-rows p (x ∷ bs) l (a, h) k = go (p x) (λ m s. all-rows p bs m h s)
  where
    go : (b : Bool) → ((m : List Station) → Each StationRows m → Each StationRows (inserted_all m (keep p bs))) → Each StationRows (inserted_all l (pick b (x ∷ keep p bs) (keep p bs)))
    go true f = f _ (inserted-rows (record { weight = x.weight; positions = x.positions; normals = x.normals }) l (record { positions = a.positions; normals = a.normals }) k)
    go false f = f l k

station-rows : (t : Target) → TargetRows t → Each StationRows (stations t)
unfolding stations
station-rows t r = all-rows _ t.in_betweens _ r.in_betweens (record { positions = tt; normals = tt }, (record { positions = r.positions; normals = r.normals }, tt))

segment-rows : (w : Float) (a b : Station) (rest : List Station) → Each StationRows (a ∷ b ∷ rest) → StationRows (segment_from w a b rest).low × StationRows (segment_from w a b rest).high
unfolding segment_from
segment-rows w a b [] (h, (k, l)) = (h, k)
segment-rows w a b (c ∷ rest) (h, (k, l)) = go (le w b.weight) (segment-rows w b c rest (k, l))
  where
    go : (p : Bool) → StationRows (segment_from w b c rest).low × StationRows (segment_from w b c rest).high → StationRows (pick p (record { low = a; high = b }) (segment_from w b c rest)).low × StationRows (pick p (record { low = a; high = b }) (segment_from w b c rest)).high
    go true f = (h, k)
    go false f = f

-- ---- deltas between two stations
entry_length : (l : List Vector) (i : ℕ) → Rows 3 l → length (get_or l i (zero32 ∷ zero32 ∷ zero32 ∷ [])) ≡ 3
entry_length [] i h = refl
entry_length (v ∷ l) zero (e, h) = e
entry_length (v ∷ l) (suc i) (e, h) = entry_length l i h

slot-entry : (o : Option (List Vector)) (i : ℕ) → SlotRows o → length (entry_of o i) ≡ 3
slot-entry none i h = refl
slot-entry (some l) i h = entry_length l i h

-- as `Morph` has it
abbrev length_of : Option (List Vector) → List (Option (List Vector)) → Option ℕ
length_of (some l) slots = some (length l)
length_of none slots = foldl (λ (n : Option ℕ) (s : Option (List Vector)). longer s n) none slots

tabulated : (o : Option ℕ) (f : ℕ → Vector) → ((i : ℕ) → length (f i) ≡ 3) → SlotRows (map_some (λ n. tabulate n f) o)
tabulated none f h = tt
tabulated (some n) f h = each-tabulated _ n f (λ i b. h i)

between-rows : (slot : Station → Option (List Vector)) (own : Option (List Vector)) (all : List Station) (w : Float) (g : Segment) → SlotRows (slot g.low) → SlotRows (slot g.high) → SlotRows (between slot own all w g)
unfolding between
between-rows slot own all w g h k =
    tabulated (length_of own (map slot all)) _ (λ i.
    let a = entry_of (slot g.low) i in
    let b = entry_of (slot g.high) i in
    let d : length (zip_with ◌⊖◌ b a) ≡ 3 = omega (arith, length-zip ◌⊖◌ b a, slot-entry (slot g.low) i h, slot-entry (slot g.high) i k) in
    scaled-length ((w ⊖ g.low.weight) ⊘ (g.high.weight ⊖ g.low.weight)) a (zip_with ◌⊖◌ b a) (slot-entry (slot g.low) i h) d)

station-sized : (w : Float) (t : Target) (p : Primitive) (a b c : ℕ) → TargetRows t → Sized p a b c → Sized (station_target w t p) a b c
unfolding station_target
station-sized w t p a b c r h = go (stations t) refl (stations-sorted t) (station-rows t r)
  where
    go : (l : List Station) → stations t ≡ l → Sorted l → Each StationRows l → Sized (station_target w t p) a b c
    go [] e s k = absurd s
    go (x ∷ []) e s k = absurd s
    go (x ∷ y ∷ rest) e s k =
        let ends = segment-rows w x y rest k in
        rw e (record {
          positions = slot-size 3 ◌⊞◌ sum-length p.positions (between (λ (s : Station). s.positions) t.positions (x ∷ y ∷ rest) w (segment_from w x y rest)) a h.positions (between-rows (λ (s : Station). s.positions) t.positions (x ∷ y ∷ rest) w (segment_from w x y rest) ends.0.positions ends.1.positions);
          normals = attribute-size 3 ◌⊞◌ sum-length p.normals (between (λ (s : Station). s.normals) t.normals (x ∷ y ∷ rest) w (segment_from w x y rest)) b h.normals (between-rows (λ (s : Station). s.normals) t.normals (x ∷ y ∷ rest) w (segment_from w x y rest) ends.0.normals ends.1.normals);
          tangents = attribute-size 4 (plus_xyz w) (xyz-length w) p.tangents t.tangents c h.tangents r.tangents;
        })

-- ---- targets
pub target-sized : (p : Primitive) (t : Target) (w : Float) (a b c : ℕ) → TargetRows t → Sized p a b c → Sized (with_target p t w) a b c
unfolding with_target
target-sized p t w a b c r h = go (eq w zero32) (any_of (λ (x : InBetween). valid x.weight) t.in_betweens)
  where
    go : (z v : Bool) → Sized (pick z p (pick v (station_target w t p) (plain_target w t p))) a b c
    go true v = h
    go false true = station-sized w t p a b c r h
    go false false = plain-sized w t p a b c r h

pub targets-sized : (ts : List Target) (ws : List Float) (p : Primitive) (a b c : ℕ) → Each TargetRows ts → Sized p a b c → Sized (with_targets ts ws p) a b c
unfolding with_targets
targets-sized [] ws p a b c r h = h
targets-sized (t ∷ ts) [] p a b c r h = h
targets-sized (t ∷ ts) (w ∷ ws) p a b c (r, rs) h = targets-sized ts ws (with_target p t w) a b c rs (target-sized p t w a b c r h)

-- ---- targets as they are lent
slot-of-three : (floats : List Float) (s : Slot) → SlotRows (slot_in floats s 3)
slot-of-three floats s = go (is_marked s.mark)
  where
    go : (b : Bool) → SlotRows (pick b (some (rows_in 3 (span_in floats s.part 3))) none)
    go true = rows-in 3 (span_in floats s.part 3)
    go false = tt

pub lent_rows : (l : Lent) (r : TargetRow) → TargetRows (target_of l r)
lent_rows l r = record {
  positions = slot-of-three l.floats r.positions;
  normals = slot-of-three l.floats r.normals;
  tangents = slot-of-three l.floats r.tangents;
  in_betweens = each-tabulated _ r.in_betweens.count _ (λ i b. between-rows-of (in_between_row l.words l.header.meshes.in_betweens (r.in_betweens.at + i)));
}
  where
    between-rows-of : (x : InBetweenRow) → BetweenRows (in_between_of l x)
    between-rows-of x = record { positions = slot-of-three l.floats x.positions; normals = slot-of-three l.floats x.normals }

pub all-lent-rows : (l : Lent) (rows : ℕ → TargetRow) (p : Part) → Each TargetRows (records_in (λ i. target_of l (rows i)) p)
all-lent-rows l rows p = each-tabulated _ p.count _ (λ i b. lent_rows l (rows (p.at + i)))
