-- Items that stand in a text as they are written. Definitions only.
use Rattle.std.specs.Prelude.{◌≡◌, List, [], ◌∷◌, ◌++◌, ℕ, ◌+◌, ◌<◌, length, get_or, drop}
use Rattle.grammar.specs.Digits.{Sort, digits_of}
use Rattle.digits.specs.declared.Standing.{Standing}

-- so many bytes stand from one place of a text to the next
pub record Stands (text : List ℕ) (at next : ℕ) (bs : List ℕ) : Type 0 where
  pub here : drop at text ≡ bs ++ drop next text
  pub far : next ≡ at + length bs

-- an item stands there, and behind it a byte that ends a word
pub record ItemStands (s : Sort) (text : List ℕ) (from next v : ℕ) : Type 0 where
  pub stands : Stands text from next (digits_of s v)
  pub small : v < 0x1_0000_0000
  pub inside : next < length text
  pub stops : get_or text next 0 < 48

abbrev pub StandsAt : Sort → List ℕ → ℕ → Standing → Type 0
StandsAt s text from r = ItemStands s text from r.next r.value

-- a digit other than 0 stands there
pub record Begins (text : List ℕ) (from next v : ℕ) : Type 0 where
  pub stands : Stands text from next ((48 + v) ∷ [])
  pub some : 0 < v
  pub less : v < 10
