-- The fields of a text: nine bytes each. Definitions only.
use Rattle.std.specs.Prelude.{◌≡◌, ◌≢◌, ◌≤◌, ◌+◌, ⊤, Bool, true, false, List, [], ◌∷◌, ℕ, zero, suc, ◌*◌, eqb, length, take, drop, Option, Some, None}
use Rattle.model.specs.Lists.{pick}
use Rattle.lists.specs.Digits.{field_in, NextField}
use Rattle.lists.specs.declared.reading.Input.{Input}
use Rattle.lists.specs.declared.reading.Next.{Next}
use Rattle.lists.specs.declared.reading.Next.TheVariants.{Field, End, Other}

-- a field and those behind it; none where it is none
abbrev pub led_by : Option ℕ → List ℕ → List ℕ
led_by None ws = []
led_by (Some w) ws = w ∷ ws

-- the first so many fields of a text, to bytes that are none
unfoldable pub fields_of : ℕ → List ℕ → List ℕ
fields_of zero text = []
fields_of (suc n) text = led_by (field_in (take 9 text)) (fields_of n (drop 9 text))

-- what up to nine bytes say
abbrev pub next_for : Option ℕ → List ℕ → Next
next_for None text = pick (eqb (length text) 0) End Other
next_for (Some w) text = Field w

abbrev pub next_of : List ℕ → Next
next_of text = next_for (field_in text) text

abbrev pub is_end : Next → Bool
is_end (Field w) = false
is_end End = true
is_end Other = false

-- what the next bytes of a text say, and what is behind a field
abbrev pub Says : List ℕ → List ℕ → Next → Type 0
Says text behind (Field w) = NextField text w behind
Says text behind End = text ≡ []
Says text behind Other = (field_in (take 9 text) ≡ None) × (text ≢ []) × (length text ≤ length behind + 9)

-- those of a reader, where its bytes are known
abbrev pub Leads : Option (List ℕ) → Option (List ℕ) → Next → Type 0
Leads None new next = ⊤
Leads (Some text) None next = ⊥
Leads (Some text) (Some behind) next = Says text behind next

-- a reader has that many bytes less at most, where its bytes are known
abbrev pub FewerBy : Option (List ℕ) → Option (List ℕ) → ℕ → Type 0
FewerBy None new n = ⊤
FewerBy (Some text) None n = ⊥
FewerBy (Some text) (Some behind) n = length text ≤ length behind + n

-- the first fields of a text, as far as there is room, stand at the start, and whether they are all of it
pub record HasFields (text left : List ℕ) (i : Input) : Type 0 where
  pub fields : take i.count left ≡ fields_of (length left) text
  pub whole : i.whole ≡ eqb (9 * length (fields_of (length left) text)) (length text)
