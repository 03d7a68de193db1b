-- Digits or bytes as one number, and what is read of eight bytes at once. Definitions only.
use Rattle.std.specs.Prelude.{◌≡◌, List, [], ◌∷◌, ◌++◌, map, ℕ, ◌+◌, ◌*◌, ◌-◌, ◌≤◌, T, ltb, length, get_or, take, drop, replicate}
use Rattle.model.specs.Lists.{every}
use Rattle.grammar.specs.Digits.{numbers, hex_digit, digits_of}
use Rattle.grammar.specs.Parsed.{digit_of}
use Rattle.digits.specs.declared.Decimal.{Decimal}

-- digits as one number behind v, the first one highest
unfoldable pub packed : ℕ → ℕ → List ℕ → ℕ
packed base v [] = v
packed base v (d ∷ ds) = packed base (v * base + d) ds

-- w has a byte for each of eight numbers, all of them below n
pub record Packs (n w : ℕ) (ds : List ℕ) : Type 0 where
  pub below : T (every (λ d. ltb d n) ds)
  pub eight : length ds ≡ 8
  pub one : w ≡ packed 256 0 ds

-- r has f of each of the numbers that w has
abbrev pub Turns : (ℕ → ℕ) → ℕ → ℕ → ℕ → ℕ → Type 0
Turns f n m w r = (ds : List ℕ) → Packs n w ds → Packs m r (map f ds)

-- r is the number with the digits that w has
abbrev pub Spelt : ℕ → ℕ → Type 0
Spelt w r = (ds : List ℕ) → Packs 16 w ds → r ≡ packed 16 0 ds

-- bytes that are the digits that they are read as
abbrev pub Written : List ℕ → Type 0
Written bs = map hex_digit (map digit_of bs) ≡ bs

pub record EightRead (bs : List ℕ) (v : ℕ) : Type 0 where
  pub value : v ≡ packed 16 0 (map digit_of bs)
  pub written : Written bs

-- ---- decimal digits, the first one lowest

-- eight entries, the last one first
abbrev pub mirrored : List ℕ → List ℕ
mirrored bs =
    get_or bs 7 0 ∷ get_or bs 6 0 ∷ get_or bs 5 0 ∷ get_or bs 4 0 ∷ get_or bs 3 0 ∷ get_or bs 2 0 ∷ get_or bs 1 0 ∷ get_or bs 0 0 ∷ []

-- the first `count` of eight bytes and as many digits 0 before them as make up eight, the last one first
abbrev pub laid : ℕ → List ℕ → List ℕ
laid count bs = drop (8 - count) (mirrored bs) ++ replicate (8 - count) 48

abbrev pub Pads : ℕ → ℕ → ℕ → Type 0
Pads w count r = (bs : List ℕ) → Packs 256 w (mirrored bs) → Packs 256 r (laid count bs)

-- r is the number with the eight decimal digits that w has
abbrev pub Tens : ℕ → ℕ → Type 0
Tens w r = (ds : List ℕ) → length ds ≡ 8 → Packs 10 w (mirrored ds) → r ≡ packed 10 0 ds

pub record DecimalRead (bs : List ℕ) (r : Decimal) : Type 0 where
  pub few : r.count ≤ 8
  pub written : digits_of numbers r.value ≡ take r.count bs
