-- The order of judging: scope, "Numbers when a piece is turned down", and request 2026-01, by which 13 comes before 1.
-- Of the refusals that apply, a call answers the one that the table judges first. Definitions only.
use Rattle.std.specs.Prelude.{◌≡◌, Bool, true, false, ◌&&◌, ℕ, suc, ◌≤◌, eqb, ltb}
use mathlib.Core.List.{List, [], ◌∷◌, Memᴰ}
use Rattle.model.specs.Lists.{pick, every}
use Rattle.model.specs.Refusals.{Refusal, out_of_table, over_limit, no_time, uneven_track, keys_out_of_line, short_scratch}
use Rattle.model.specs.Refusals.{no_such_node, unplaced_node, no_palette, short_output, no_common_root, no_such_frame, number}
use Rattle.model.specs.Refusals.{bad_form, Test, first_of}

-- the refusals as the table has them, the one that is judged first at the head
abbrev pub order : List Refusal
order =
    bad_form
    ∷ out_of_table
    ∷ over_limit
    ∷ no_time
    ∷ uneven_track
    ∷ keys_out_of_line
    ∷ short_scratch
    ∷ no_such_node
    ∷ unplaced_node
    ∷ no_palette
    ∷ short_output
    ∷ no_common_root
    ∷ no_such_frame
    ∷ []

-- how many stand before a refusal
unfoldable pub before : List Refusal → Refusal → ℕ
before [] r = 0
before (q ∷ qs) r = pick (eqb (number q) (number r)) 0 (suc (before qs r))

unfoldable pub rank : Refusal → ℕ
rank r = before order r

-- tests stand in the order of judging
unfoldable pub ascending : List Test → Bool
ascending [] = true
ascending (t ∷ ts) = every (λ (u : Test). ltb (rank t.refusal) (rank u.refusal)) ts && ascending ts

abbrev pub NoneApplies : List Test → Type 0
NoneApplies ts = (t : Test) → Memᴰ t ts → t.applies ≡ false

-- t applies, and no test that applies is judged before it
pub record Least (ts : List Test) (t : Test) : Type 0 where
  pub stands : Memᴰ t ts
  pub applies : t.applies ≡ true
  pub least : (u : Test) → Memᴰ u ts → u.applies ≡ true → rank t.refusal ≤ rank u.refusal

-- n is the number of the applying refusal of least rank, and 0 exactly where none applies
pub record Judged (ts : List Test) (n : ℕ) : Type 0 where
  pub least : (t : Test) → Least ts t → n ≡ number t.refusal
  pub found : (t : Test) → Memᴰ t ts → t.applies ≡ true → (u : Test) × Least ts u
  pub passed : NoneApplies ts → n ≡ 0
  pub accepted : n ≡ 0 → NoneApplies ts

-- a call that judges by a list of tests
pub record JudgesBy (ts : List Test) (n : ℕ) : Type 0 where
  pub ascends : ascending ts ≡ true
  pub first : n ≡ first_of ts
  pub judged : Judged ts n

-- the tests of a call: what the tables drew, 0, 1 or 2, and what is asked after that
abbrev pub after_tables : ℕ → List Test → List Test
after_tables tables ts =
    record { applies = eqb tables 1; refusal = out_of_table }
    ∷ record { applies = eqb tables 2; refusal = over_limit }
    ∷ ts
