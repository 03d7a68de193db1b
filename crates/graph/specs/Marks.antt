-- What `parents` answers and leaves: scope, "Placed pieces" (`parents` of graph.rs). Definitions only.
use Rattle.std.specs.Prelude.{◌≡◌, List, [], ◌∷◌, ◌++◌, ℕ, eqb, ltb, length, drop}
use Rattle.borrowed.specs.Slices.{Change}
use Rattle.model.specs.Lists.{pick}
use Rattle.model.specs.Scene.{node_count}
use Rattle.model.specs.Parents.{marks_of}
use Rattle.model.specs.Refusals.{short_output, first_of, lowest}
use Rattle.tables.specs.Decoded.{Lent, scene_of}
use Rattle.tables.specs.Codes.{codes_of}
use Rattle.checks.specs.Drawn.{tables_number}

-- short output where it has fewer slots than there are nodes
abbrev pub parents_number : Lent → ℕ → ℕ
parents_number l room =
    lowest (tables_number l)
    (first_of (record { applies = ltb room (node_count (scene_of l)); refusal = short_output } ∷ []))

-- the marks of all nodes at the start of the lent slots, or nothing changed
pub record Parents (l : Lent) (out : Change (List ℕ)) (r : ℕ) : Type 0 where
  pub number : r ≡ parents_number l (length out.from)
  pub slots :
      out.to
      ≡ pick (eqb r 0) (codes_of (marks_of (scene_of l)) ++ drop (node_count (scene_of l)) out.from) out.from
