-- Items one after the other that stand in a text as they are written, and the items behind them. Definitions only.
use Rattle.std.specs.Prelude.{◌≡◌, true, ◌&&◌, List, ◌++◌, map, ℕ, ◌+◌, ◌-◌, ◌≤◌, eqb, length, get_or, drop}
use Rattle.std.specs.Borrow.{MutBor}
use denote.Triple.Both.{Both}
use Rattle.std.proofs.lemmas.List.Edits.{sets}
use Rattle.model.specs.Lists.{pick, foldl}
use Rattle.grammar.specs.Digits.{Sort, floats, base_of, items_text}
use Rattle.grammar.specs.Shape.{is_float, sorted}
use Rattle.grammar.specs.Parsed.{items_in}
use Rattle.digits.specs.declared.Standing.{Standing}
use Rattle.digits.specs.Standing.{Stands, ItemStands}
use Rattle.brackets.specs.declared.Listed.{Listed}
use Rattle.brackets.specs.declared.Met.{Met}
use Rattle.brackets.specs.declared.Run.{Run}
use Rattle.brackets.specs.declared.Told.{Told}
use Rattle.brackets.specs.Met.{met_at, meets}
use Rattle.brackets.specs.Read.{Passed, one_more}

-- a float that is there stands as it is written
abbrev pub PlainAt : List ℕ → ℕ → Standing → Type 0
PlainAt text from r =
    ItemStands floats text from r.next r.value × (is_float r.value ≡ true)

-- the first so many items from a place on
abbrev pub front : Sort → List ℕ → ℕ → ℕ → List ℕ
front s text at count = (items_in count (base_of s) (drop at text)).made

-- so many items, all of their sort, stand from one place to the next
pub record RunStands (s : Sort) (text : List ℕ) (at next count : ℕ) : Type 0 where
  pub whole : length (front s text at count) ≡ count
  pub rest : (items_in count (base_of s) (drop at text)).rest ≡ drop next text
  pub sorts : sorted s (front s text at count) ≡ true
  pub stands : Stands text at next (items_text s (front s text at count))
  pub few : at + count ≤ next
  pub inside : at ≤ length text → next ≤ length text
  pub fits : count ≤ length text

-- and in the slice from n on, each as `f` has it, as far as there is room: what is stored from the cell behind them on
-- comes behind them
pub record RunRead {A : Type 0} (f : ℕ → A) (s : Sort) (text : List ℕ) (at n : ℕ) (lent left : List A) (r : Run)
    : Type 0 where
  pub run : RunStands s text at r.next r.count
  pub filled : (xs : List A) → sets left r.cell xs ≡ sets lent n (map f (front s text at r.count) ++ xs)

abbrev pub Runs : {A : Type 0} → (ℕ → A) → Sort → List ℕ → ℕ → ℕ → Both (MutBor (List A)) (MutBor (List A)) → Run → Type 0
Runs f s text at n cells r = RunRead f s text at n cells.entry.now cells.exit.now r

-- how the text compares behind them, where it was compared from their place on or not at all
abbrev pub behind_run : Met → ℕ → ℕ → Met
behind_run m at next = pick (m.ok && eqb m.at at) (met_at next true) m

-- what is told of them
abbrev pub told_run : ℕ → List ℕ → Told
told_run count xs = record { count = count; first = get_or xs 0 0; second = get_or xs 1 0; sorted = true }

-- ---- the items behind those that are told

abbrev pub told_in : Listed → Told
told_in r = record { count = r.count; first = r.first; second = r.second; sorted = r.sorted }

pub record RestRead {A : Type 0} (f : ℕ → A) (s : Sort) (text : List ℕ) (at n left : ℕ) (met : Met) (t : Told)
    (lent cells : List A) (r : Listed) : Type 0 where
  pub told : told_in r ≡ foldl (one_more s) t (items_in left (base_of s) (drop at text)).made
  pub compared : r.met ≡ meets text (items_text s (items_in left (base_of s) (drop at text)).made) met
  pub passed : Passed text at r.next (items_in left (base_of s) (drop at text)).rest
  pub filled : cells ≡ sets lent n (map f (items_in left (base_of s) (drop at text)).made)
  pub few : at + r.count ≤ r.next + t.count

abbrev pub ReadsRest : {A : Type 0} → (ℕ → A) → Sort → List ℕ → ℕ → ℕ → Met → Told
    → Both (MutBor (List A)) (MutBor (List A)) → Listed → Type 0
ReadsRest f s text at n met t cells r =
    RestRead f s text at n (length text - t.count) met t cells.entry.now cells.exit.now r
