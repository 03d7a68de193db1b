-- What the call for a node's palette answers and leaves. Assumes nothing.
use mathlib.Core.Path.{◌≡◌, refl, sym, ap, ◌∙◌}
use mathlib.Core.Bool.{Bool, true, false, not, false≢true}
use mathlib.Core.List.{List, [], ◌++◌}
use mathlib.Core.Option.{Option, none, some, none-ne-some, some-ne-none}
use Prim.Native.Nat.{ℕ, zero, suc, ◌*◌, ◌/◌, ◌≤◌, ◌<◌, min}
use native.Mathlib.Omega.{arith}
use borrow.Author.Tests.{lt-ltb, le-ltb, ltb-true, ltb-false, eqb-true, eqb-false, ne_eqb, not-false}
use lib.Dec.{ltb, eqb}
use lib.Ieee.{Float}
use lib.ListN.{length, drop, get_or-eq_default}
use Rattle.model.specs.Lists.{pick, joined, is_some, or_else, and_then, map_some}
use Rattle.model.specs.Matrix.{Matrix}
use Rattle.model.specs.Scene.{Node, blank, node_count, node_at}
use Rattle.model.specs.SkinCalls.{skin_palette, node_palette, palette_number}
use Rattle.model.specs.Refusals.{first_of, lowest}
use Rattle.model.proofs.Numbers.{lowest-some}
use Rattle.tables.specs.declared.NodeRow.{NodeRow}
use Rattle.tables.specs.Records.{node_row}
use Rattle.tables.specs.Decoded.{Lent, node_of, scene_of}
use Rattle.tables.proofs.Decoding.{node-count, node-at}
use Rattle.tables.proofs.Naming.{is-there, not_there}
use Rattle.checks.specs.Drawn.{tables_number}
use Rattle.worlds.specs.Slots.{world_in}
use Rattle.skin.specs.declared.Answer.{Answer}
use Rattle.skin.specs.Palette.{laid_out}
use Rattle.skin.specs.Calls.{palette_at, Judged, Answered}
use Rattle.skin.proofs.Rows.{laid}

-- ---- the skin of a node
module _ (l : Lent) (i : ℕ) (world : ℕ → Option Matrix) where
  abbrev named : Option ℕ → Option (List Matrix)
  named o = and_then o (λ k. skin_palette world (scene_of l) k)

  pub skin-past : l.header.graph.nodes.count ≤ i → node_palette world (scene_of l) i ≡ none
  skin-past h = ap (λ (n : Node). named n.skin) (get_or-eq_default (scene_of l).nodes blank (omega (arith, node-count l)))

  module _ (row : NodeRow) (e : row ≡ node_row l.words l.header.graph.nodes i) (b : i < l.header.graph.nodes.count) where
    node-is : node_at (scene_of l) i ≡ node_of l row
    node-is = node-at l i b ∙ ap (node_of l) (sym e)

    pub skin-none : row.skin.mark ≡ 0 → node_palette world (scene_of l) i ≡ none
    skin-none z = ap (λ (n : Node). named n.skin) node-is ∙ ap named (sym (not_there row.skin.mark (some row.skin.id) none z))

    pub skin-named : (row.skin.mark ≡ 0 → ⊥) → node_palette world (scene_of l) i ≡ skin_palette world (scene_of l) row.skin.id
    skin-named d = ap (λ (n : Node). named n.skin) node-is ∙ ap named (sym (is-there row.skin.mark (some row.skin.id) none d))

    pub has-skin : is_some (node_palette world (scene_of l) i) ≡ true → node_palette world (scene_of l) i ≡ skin_palette world (scene_of l) row.skin.id
    has-skin h = go (eqb row.skin.mark 0) refl
      where
        go : (t : Bool) → eqb row.skin.mark 0 ≡ t → node_palette world (scene_of l) i ≡ skin_palette world (scene_of l) row.skin.id
        go true q = absurd (false≢true (sym (ap is_some (skin-none (eqb-true row.skin.mark 0 q))) ∙ h))
        go false q = skin-named (eqb-false row.skin.mark 0 q)

-- ---- the number
abbrev fourth : Bool → Bool → Bool → Bool → ℕ
fourth a b c d = pick a 6 (pick b 7 (pick c 9 (pick d 10 0)))

none_of : (g : ℕ) (a b c d : Bool) → lowest g (fourth a b c d) ≡ 0 → (g ≡ 0) × (b ≡ false) × (c ≡ false) × (d ≡ false)
none_of zero true b c d h = absurd (omega (arith, h))
none_of zero false true c d h = absurd (omega (arith, h))
none_of zero false false true d h = absurd (omega (arith, h))
none_of zero false false false true h = absurd (omega (arith, h))
none_of zero false false false false h = (refl, refl, refl, refl)
none_of (suc g) a b c d h = absurd (omega (arith, h))

counted : (p : Option (List Matrix)) (k : ℕ) → some k ≡ map_some length p → (is_some p ≡ true) × (length (or_else p []) ≡ k)
counted none k h = absurd (some-ne-none k h)
counted (some ms) k h = (refl, sym (ap (λ (o : Option ℕ). or_else o 0) h))

uncounted : (p : Option (List Matrix)) → none ≡ map_some length p → is_some p ≡ false
uncounted none h = refl
uncounted (some ms) h = absurd (none-ne-some (length ms) h)

module _ (l : Lent) (i n room : ℕ) (p : Option (List Matrix)) where
  abbrev number : ℕ
  number = palette_number (tables_number l) (scene_of l) n i p room

  pub drawn-first : (r : ℕ) → r ≡ tables_number l → (r ≡ 0 → ⊥) → r ≡ number
  unfolding palette_number first_of
  drawn-first r e d =
      lowest-some r _ d
      ∙ ap (λ (g : ℕ). lowest g (fourth (ltb n (node_count (scene_of l))) (not (ltb i (node_count (scene_of l)))) (not (is_some p)) (ltb room (length (or_else p []) * 16)))) e

  judged : (a b c d : Bool) → tables_number l ≡ 0 → ltb n (node_count (scene_of l)) ≡ a → not (ltb i (node_count (scene_of l))) ≡ b → not (is_some p) ≡ c
      → ltb room (length (or_else p []) * 16) ≡ d → fourth a b c d ≡ number
  unfolding palette_number first_of
  judged a b c d z ea eb ec ed = sym (λ j. lowest (z j) (fourth (ea j) (eb j) (ec j) (ed j)))

  module _ (z : tables_number l ≡ 0) where
    pub few-slots : n < l.header.graph.nodes.count → 6 ≡ number
    few-slots h = judged true _ _ _ z (lt-ltb n (node_count (scene_of l)) (omega (arith, node-count l))) refl refl refl

    module _ (s : l.header.graph.nodes.count ≤ n) where
      slots : ltb n (node_count (scene_of l)) ≡ false
      slots = le-ltb n (node_count (scene_of l)) (omega (arith, node-count l))

      pub no_node : l.header.graph.nodes.count ≤ i → 7 ≡ number
      no_node h = judged false true _ _ z slots (ap not (le-ltb i (node_count (scene_of l)) (omega (arith, node-count l)))) refl refl

      module _ (b : i < l.header.graph.nodes.count) where
        node : not (ltb i (node_count (scene_of l))) ≡ false
        node = ap not (lt-ltb i (node_count (scene_of l)) (omega (arith, node-count l)))

        pub no-palette : none ≡ map_some length p → 9 ≡ number
        no-palette e = judged false false true _ z slots node (ap not (uncounted p e)) refl

        module _ (k : ℕ) (e : some k ≡ map_some length p) where
          pub no_room : room < k * 16 → 10 ≡ number
          no_room h =
              let c = counted p k e in
              judged false false false true z slots node (ap not c.0) (lt-ltb room (length (or_else p []) * 16) (omega (arith, c.1)))

          pub fits : k * 16 ≤ room → 0 ≡ number
          fits h =
              let c = counted p k e in
              judged false false false false z slots node (ap not c.0) (le-ltb room (length (or_else p []) * 16) (omega (arith, c.1)))

          pub floats : k * 16 ≡ length (or_else p []) * 16
          floats = ap (λ (m : ℕ). m * 16) (sym (counted p k e).1)

  -- a palette that is answered
  pub accepted : number ≡ 0 → (i < l.header.graph.nodes.count) × (is_some p ≡ true) × (length (or_else p []) * 16 ≤ room)
  unfolding palette_number first_of
  accepted z =
      let r = none_of (tables_number l) (ltb n (node_count (scene_of l))) (not (ltb i (node_count (scene_of l)))) (not (is_some p)) (ltb room (length (or_else p []) * 16)) z in
      let b = ltb-true i (node_count (scene_of l)) (not-false _ r.1) in
      (omega (arith, b, node-count l), not-false _ r.2, ltb-false _ _ r.3)

-- ---- the answer
module _ (l : Lent) (i : ℕ) (codes : List ℕ) (n room : ℕ) where
  pub refusal : (r : ℕ) → (r ≡ 0 → ⊥) → ((slots : List Float) → r ≡ palette_number (tables_number l) (scene_of l) n i (palette_at l i codes slots) room)
      → Judged l i codes n room (record { number = r; length = 0 })
  refusal r d e = record {
    number = e;
    floats = λ slots. ap (λ (b : Bool). pick b (length (or_else (palette_at l i codes slots) []) * 16) 0) (sym (ne_eqb r 0 d));
  }

module _ (l : Lent) (i : ℕ) (codes : List ℕ) (slots lent : List Float) (n : ℕ) (e : n ≡ min (length codes) (length slots / 16)) (a : Answer) (J : Judged l i codes n (length lent) a) where
  abbrev palette : Option (List Matrix)
  palette = palette_at l i codes slots

  told : a.number ≡ palette_number (tables_number l) (scene_of l) (min (length codes) (length slots / 16)) i palette (length lent)
  told = J.number slots ∙ ap (λ (k : ℕ). palette_number (tables_number l) (scene_of l) k i palette (length lent)) e

  abbrev start : List Float
  start = joined (λ m. m) (or_else palette []) ++ drop (length (or_else palette []) * 16) lent

  pub unchanged : (a.number ≡ 0 → ⊥) → Answered l i codes slots (record { from = lent; to = lent }) a
  unchanged d = record { number = told; floats = J.floats slots; slice = ap (λ (b : Bool). pick b start lent) (sym (ne_eqb a.number 0 d)) }

  pub changed : a.number ≡ 0 → (row : NodeRow) → row ≡ node_row l.words l.header.graph.nodes i → (left : List Float)
      → left ≡ laid_out (or_else (skin_palette (world_in l.header.graph.nodes.count codes slots) (scene_of l) row.skin.id) []) lent
      → Answered l i codes slots (record { from = lent; to = left }) a
  changed z row r left w =
      let c = accepted l i n (length lent) palette (sym (J.number slots) ∙ z) in
      let same = has-skin l i (world_in (node_count (scene_of l)) codes slots) row r c.0 c.1 ∙ ap (λ (k : ℕ). skin_palette (world_in k codes slots) (scene_of l) row.skin.id) (node-count l) in
      record {
        number = told;
        floats = J.floats slots;
        slice =
            w
            ∙ ap (λ (p : Option (List Matrix)). laid_out (or_else p []) lent) (sym same)
            ∙ sym (laid (or_else palette []) lent c.2)
            ∙ ap (λ (k : ℕ). pick (eqb k 0) start lent) (sym z);
      }
