-- The value of a track at a time: scope, "The sampled value"; glTF 2.0, Appendix C. All of it holds for any number of
-- components: a row is the value of one key, three numbers for a Vec3, four for a Quat, one for each morph weight.
-- Definitions only.
use Rattle.std.specs.Prelude.{List, [], ◌∷◌, Bool, true, false, ◌&&◌, ℕ, zero, suc, ◌+◌, ◌-◌, ◌*◌, ◌/◌, ◌%◌, eqb, ltb, Float, length, get_or}
use Rattle.std.proofs.Math.Option.{Option, none, some}
use Rattle.std.specs.Float.{nan}
use Rattle.std.specs.Float.Ieee.{neg, lt, eq}
use Rattle.std.specs.Float.Ieee.Scale.{finite}
use Rattle.float.specs.F32.{◌⊕◌, ◌⊖◌, ◌⊗◌, ◌⊘◌, f32, zero32, one32, two32}
use Rattle.turn.specs.Weight.{weight}
use Rattle.model.specs.Lists.{pick, row}
use Rattle.model.specs.Vector.{Vector, ◌⊙◌, ◌⊞◌, over, negated, dot, norm}
use Rattle.model.specs.Scene.{Kind, vec3s, quats, scalars, Interpolation, step, linear, cubic_spline, Track}

-- ---- the layout

-- floats in an entry, as the value count counts entries
abbrev pub width : Kind → ℕ
width vec3s = 3
width quats = 4
width scalars = 1

-- rows for a key: in-tangent, value and out-tangent of a cubic spline (glTF 2.0, C.5), or the value alone
abbrev pub factor : Interpolation → ℕ
factor step = 1
factor linear = 1
factor cubic_spline = 3

-- which of them is the value
abbrev pub centre : Interpolation → ℕ
centre step = 0
centre linear = 0
centre cubic_spline = 1

abbrev pub entries : Track → ℕ
entries t = length t.values / width t.kind

abbrev pub rows : Track → ℕ
rows t = length t.keys * factor t.interpolation

-- there are keys and values, and as many values for each key
abbrev pub even : Track → Bool
even t = ltb 0 (length t.keys) && ltb 0 (entries t) && eqb (entries t % rows t) 0

-- weights per frame
abbrev pub stride : Track → ℕ
stride t = entries t / rows t

-- a row of a scalar track has `stride` weights; a Vec3 or Quat track reads entry by entry, also where it has a larger
-- multiple
abbrev pub row_width : Kind → ℕ → ℕ
row_width vec3s n = 3
row_width quats n = 4
row_width scalars n = n

abbrev pub components : Track → ℕ
components t = row_width t.kind (stride t)

abbrev pub row_at : Track → ℕ → Vector
row_at t r = row (components t) t.values r

-- the value of key k
abbrev pub key_value : Track → ℕ → Vector
key_value t k = row_at t (k * factor t.interpolation + centre t.interpolation)

-- ---- the keys

-- finite, and each above the one before
unfoldable pub rising : Float → List Float → Bool
rising last [] = true
rising last (k ∷ ks) = finite k && lt last k && rising k ks

unfoldable pub in_line : List Float → Bool
in_line [] = true
in_line (k ∷ ks) = finite k && rising k ks

-- where a time lies: before the first key, on key k, between keys k and k + 1, or after the last
pub data Where : Type 0 where
  before : Where
  on : ℕ → Where
  between : ℕ → Where
  after : Where

-- below key k, and not below the key before it
abbrev pub gap : ℕ → Where
gap zero = before
gap (suc k) = between k

unfoldable pub locate_from : ℕ → List Float → Float → Where
locate_from k [] t = after
locate_from k (x ∷ xs) t = pick (lt t x) (gap k) (pick (eq t x) (on k) (locate_from (suc k) xs t))

unfoldable pub locate : List Float → Float → Where
locate keys t = locate_from 0 keys t

abbrev three32 : Float
three32 = f32 0x4040_0000

-- ---- between two keys: u runs from 0 to 1, d is the time from key to key

-- glTF 2.0, C.3
unfoldable pub lerp : Float → Vector → Vector → Vector
lerp u a b = (one32 ⊖ u) ⊙ a ⊞ u ⊙ b

-- glTF 2.0, C.4, with the scope's turn weights W in place of sines
abbrev pub shorter : Float → Float
shorter d = pick (lt d zero32) (neg d) d

abbrev pub cut_at_one : Float → Float
cut_at_one d = pick (lt one32 d) one32 d

abbrev pub unit_lerp : Vector → Vector
unit_lerp r = pick (lt zero32 (norm r)) (over r (norm r)) r

unfoldable pub slerp : Float → Vector → Vector → Vector
slerp u a b =
    let d = dot a b in
    let near = pick (lt d zero32) (negated b) b in
    let c = cut_at_one (shorter d) in
    pick (eq c one32) (unit_lerp (lerp u a near)) (weight (one32 ⊖ u) c ⊙ a ⊞ weight u c ⊙ near)

-- glTF 2.0, C.5: the factors of the first key's value and out-tangent, and of the second key's value and in-tangent
unfoldable pub value_factor : Float → Float
value_factor u = two32 ⊗ (u ⊗ u ⊗ u) ⊖ three32 ⊗ (u ⊗ u) ⊕ one32

unfoldable pub out_factor : Float → Float → Float
out_factor u d = d ⊗ (u ⊗ u ⊗ u ⊖ two32 ⊗ (u ⊗ u) ⊕ u)

unfoldable pub next_factor : Float → Float
next_factor u = neg two32 ⊗ (u ⊗ u ⊗ u) ⊕ three32 ⊗ (u ⊗ u)

unfoldable pub in_factor : Float → Float → Float
in_factor u d = d ⊗ (u ⊗ u ⊗ u ⊖ u ⊗ u)

unfoldable pub cubic : Float → Float → Vector → Vector → Vector → Vector → Vector
cubic u d v out next into = value_factor u ⊙ v ⊞ out_factor u d ⊙ out ⊞ next_factor u ⊙ next ⊞ in_factor u d ⊙ into

abbrev pub straight : Kind → Float → Vector → Vector → Vector
straight vec3s u a b = lerp u a b
straight quats u a b = slerp u a b
straight scalars u a b = lerp u a b

-- the value between keys k and k + 1, by the interpolation
unfoldable pub interpolated : Track → Interpolation → ℕ → Float → Vector
interpolated t i k time =
    let d = get_or t.keys (suc k) nan ⊖ get_or t.keys k nan in
    let u = (time ⊖ get_or t.keys k nan) ⊘ d in
    go i d u
  where
    go : Interpolation → Float → Float → Vector
    go step d u = key_value t k
    go linear d u = straight t.kind u (key_value t k) (key_value t (suc k))
    go cubic_spline d u =
        cubic u d (row_at t (k * 3 + 1)) (row_at t (k * 3 + 2)) (row_at t (suc k * 3 + 1)) (row_at t (suc k * 3))

unfoldable pub value_at : Track → Float → Where → Vector
value_at t time before = key_value t 0
value_at t time (on k) = key_value t k
value_at t time (between k) = interpolated t t.interpolation k time
value_at t time after = key_value t (length t.keys - 1)

-- none where the layout is not even
unfoldable pub sample : Track → Float → Option Vector
sample t time = pick (even t) (some (value_at t time (locate t.keys time))) none

-- ---- the frames of a scalar track: parts of its values

-- the weights of key k
abbrev pub frame : Track → ℕ → List Float
frame t k = key_value t k

-- in-tangents, weights and out-tangents of key k, as one part
abbrev pub cubic_frame : Track → ℕ → List Float
cubic_frame t k = row (3 * stride t) t.values k
