-- Lines of nodes, read from the codes of their marks, and how many joints' lines a node is on. Definitions only.
use Rattle.std.specs.Prelude.{◌≡◌, true, List, [], ◌∷◌, ℕ, suc, ◌+◌, ◌-◌, ◌≤◌, ◌<◌, ltb, eqb, length, get_or, take, set}
use Rattle.std.proofs.Math.Option.{Option, none, some}
use Rattle.model.specs.Lists.{pick, every, first_that}
use Rattle.model.specs.Skin.{ancestors, is_among}

-- the node of a code, and what is above node i
abbrev pub id_in : ℕ → Option ℕ
id_in code = pick (ltb code 3) none (some (code - 3))

abbrev pub up_in : List ℕ → ℕ → Option ℕ
up_in codes i = id_in (get_or codes i 0)

-- the code of what is above node a; none where no more of the line is taken
abbrev pub code_above : List ℕ → ℕ → ℕ → ℕ
code_above codes a left = pick (eqb left 0) 0 (get_or codes a 0)

unfoldable pub line_in : List ℕ → ℕ → List ℕ
line_in codes i = ancestors (suc (length codes)) (up_in codes) (some i)

-- what is above a node is one of the nodes
abbrev pub Inside : List ℕ → Type 0
Inside codes = (i p : ℕ) → up_in codes i ≡ some p → p < length codes

-- the first node of the first joint's line that is on the lines of the others
unfoldable pub common_in : List ℕ → List ℕ → Option ℕ
common_in codes [] = none
common_in codes (j ∷ js) =
    pick (every (λ i. ltb i (length codes)) (j ∷ js))
    (first_that (λ a. every (λ i. is_among a (line_in codes i)) js) (line_in codes j)) none

-- a node that is counted t times is counted once more
unfoldable pub count_one : ℕ → List ℕ → ℕ → List ℕ
count_one t counts a = pick (eqb (get_or counts a 0) t) (set counts a (t + 1)) counts

-- the joints are nodes, and just those nodes are counted t times that are on the lines of the first t joints
pub record Leading (codes joints : List ℕ) (t : ℕ) (counts : List ℕ) : Type 0 where
  pub nodes : every (λ j. ltb j (length codes)) joints ≡ true
  pub most : (a : ℕ) → a < length counts → get_or counts a 0 ≤ t
  pub told : (a : ℕ) → a < length counts
      → eqb (get_or counts a 0) t ≡ every (λ i. is_among a (line_in codes i)) (take t joints)
