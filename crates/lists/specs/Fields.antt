-- Fields that were read, by their places. A list is its count and then its entries. Definitions only.
use Rattle.std.specs.Prelude.{◌≡◌, List, map, ℕ, ◌+◌, ◌≤◌, min, leb, Float, length, get_or, take, drop}
use Rattle.float.specs.F32.{f32}
use Rattle.model.specs.Lists.{pick, part}
use Rattle.std.specs.Borrow.{MutBor}
use denote.Triple.Both.{Both}
use Rattle.model.specs.Written.{Wrote}

-- n counts entries at the start of xs. The second part follows from the first, and is stated for those who lend them.
abbrev pub Counts : {A : Type 0} → ℕ → List A → Type 0
Counts n xs = (n ≤ length xs) × (n ≡ length (take n xs))

-- the place past all fields: where reading goes that lacks a field, and where it stays
abbrev pub past_of : List ℕ → ℕ
past_of fields = length fields + 1

-- so many fields on
abbrev pub ahead_of : List ℕ → ℕ → ℕ → ℕ
ahead_of fields at n = min (at + n) (past_of fields)

-- the entries of the list at a place, as far as there are fields
abbrev pub list_at : List ℕ → ℕ → List ℕ
list_at fields at = part fields (at + 1) (get_or fields at 0)

-- the floats of bit patterns
abbrev pub floats_of : List ℕ → List Float
floats_of ws = map f32 ws

abbrev pub floats_at : List ℕ → ℕ → List Float
floats_at fields at = floats_of (list_at fields at)

-- the place behind a list of so many entries at most; past all fields where it has more
abbrev pub behind_list : List ℕ → ℕ → ℕ → ℕ
behind_list fields at most =
    let count = get_or fields at 0 in
    pick (leb count most) (ahead_of fields at (count + 1)) (past_of fields)

-- n entries were put at the start, and past them the slice is as lent
pub record Put {A : Type 0} (lent left : List A) (n : ℕ) : Type 0 where
  pub counts : Counts n left
  pub room : length left ≡ length lent
  pub rest : drop n left ≡ drop n lent

-- in a slice that is borrowed
abbrev pub Puts : {A : Type 0} → Both (MutBor (List A)) (MutBor (List A)) → ℕ → Type 0
Puts out n = Put out.entry.now out.exit.now n

-- as many of these as there is room for
pub record Copied {A : Type 0} (entries lent left : List A) (n : ℕ) : Type 0 where
  pub counts : Counts n left
  pub wrote : Wrote entries lent left n

abbrev pub Copies : {A : Type 0} → List A → Both (MutBor (List A)) (MutBor (List A)) → ℕ → Type 0
Copies entries out n = Copied entries out.entry.now out.exit.now n
