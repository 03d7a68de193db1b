-- What the functions that read promise. Definitions only.
use Rattle.std.specs.Prelude.{◌≡◌, ◌&&◌, List, [], ◌∷◌, map, ℕ, ◌+◌, ◌%◌, ◌≤◌, eqb, length, get_or, drop}
use Rattle.std.specs.Borrow.{MutBor}
use denote.Triple.Both.{Both}
use Rattle.std.proofs.lemmas.List.Edits.{sets}
use Rattle.model.specs.Lists.{pick}
use Rattle.grammar.specs.Digits.{Sort, base_of, digits_of, items_text}
use Rattle.brackets.specs.declared.Item.{Item}
use Rattle.brackets.specs.declared.Told.{Told}
use Rattle.brackets.specs.declared.Met.{Met}
use Rattle.brackets.specs.declared.Spelling.{Spelling}
use Rattle.brackets.specs.declared.Listed.{Listed}
use Rattle.grammar.specs.Shape.{sorted}
use Rattle.grammar.specs.Parsed.{Got, word_in, items_in}
use Rattle.brackets.specs.Met.{meets}

-- from one place of a text to the next, where the rest begins
pub record Passed (text : List ℕ) (at next : ℕ) (rest : List ℕ) : Type 0 where
  pub left : drop next text ≡ rest
  pub forth : at ≤ next
  pub inside : at ≤ length text → next ≤ length text

pub record WordRead (text : List ℕ) (at : ℕ) (w : Got ℕ) (r : Spelling) : Type 0 where
  pub told : r.value ≡ w.made
  pub passed : Passed text at r.next w.rest

-- an item behind a byte at a place; the text has been compared with the item's from where `met` was
pub record ItemRead (s : Sort) (text : List ℕ) (at : ℕ) (met : Met) (r : Item) : Type 0 where
  pub told : r.value ≡ (word_in (base_of s) 0 (drop 1 (drop at text))).made % 0x1_0000_0000
  pub passed : Passed text at r.next (word_in (base_of s) 0 (drop 1 (drop at text))).rest
  pub compared : r.met ≡ meets text (32 ∷ digits_of s r.value) met

-- one more of what is stored one after the other, as `f` has it
abbrev pub Stores : {A : Type 0} → (ℕ → A) → Both (MutBor (List A)) (MutBor (List A)) → ℕ → ℕ → ℕ → Type 0
Stores {A} f cells k x next =
    (xs : List A) → sets cells.exit.now next xs ≡ sets cells.entry.now k (f x ∷ xs)

-- what is told of items, one more being added
abbrev pub one_more : Sort → Told → ℕ → Told
one_more s t x = record {
  count = t.count + 1;
  first = pick (eqb t.count 0) x t.first;
  second = pick (eqb t.count 1) x t.second;
  sorted = t.sorted && sorted s (x ∷ []);
}

abbrev pub listed_as : Told → ℕ → Met → Listed
listed_as t next met = record {
  count = t.count;
  first = t.first;
  second = t.second;
  sorted = t.sorted;
  next = next;
  met = met;
}

-- the items from a place on
abbrev pub items_at : Sort → List ℕ → ℕ → Got (List ℕ)
items_at s text at = items_in (length text) (base_of s) (drop at text)

-- they stand in the slice from n on, each as `f` has it, as far as there is room; the text has been compared with
-- theirs from where `met` was; each has taken a byte of the text at least
pub record ItemsRead {A : Type 0} (f : ℕ → A) (s : Sort) (text : List ℕ) (at n : ℕ) (met : Met) (lent left : List A)
    (r : Listed) : Type 0 where
  pub counted : r.count ≡ length (items_at s text at).made
  pub first : r.first ≡ get_or (items_at s text at).made 0 0
  pub second : r.second ≡ get_or (items_at s text at).made 1 0
  pub sorts : r.sorted ≡ sorted s (items_at s text at).made
  pub compared : r.met ≡ meets text (items_text s (items_at s text at).made) met
  pub passed : Passed text at r.next (items_at s text at).rest
  pub filled : left ≡ sets lent n (map f (items_at s text at).made)
  pub few : at + r.count ≤ r.next

abbrev pub ReadsItems : {A : Type 0} → (ℕ → A) → Sort → List ℕ → ℕ → ℕ → Met
    → Both (MutBor (List A)) (MutBor (List A)) → Listed → Type 0
ReadsItems f s text at n met cells r = ItemsRead f s text at n met cells.entry.now cells.exit.now r
