-- The root of a skin, by its rows and by what is answered. Assumes nothing.
use mathlib.Core.Path.{◌≡◌, refl, sym, ap, ◌∙◌, subst}
use mathlib.Core.Bool.{Bool, not}
use mathlib.Core.List.{List, [], ◌∷◌, ◌++◌}
use mathlib.Core.Option.{Option, none, some}
use Prim.Native.Nat.{ℕ, zero, suc, ◌≤◌, ◌<◌}
use native.Mathlib.Omega.{arith}
use borrow.Author.Tests.{le-ltb, ne_eqb, eq-eqb}
use lib.Dec.{ltb}
use lib.ListN.{length, get_elem?, take, drop}
use lib.Seq.{take_at}
use Rattle.model.specs.Lists.{pick, is_some, or_else}
use Rattle.model.specs.Scene as scene
use Rattle.model.specs.Parents.{marks_of}
use Rattle.model.specs.Skin.{common_root, skin_root}
use Rattle.model.specs.SkinCalls.{skin_root_number}
use Rattle.model.specs.Refusals.{no_common_root, short_output, first_of, lowest}
use Rattle.model.proofs.Numbers.{lowest-some}
use Rattle.tables.specs.declared.SkinRow.{SkinRow}
use Rattle.tables.specs.declared.SkeletonRow.{SkeletonRow}
use Rattle.tables.specs.Records.{skin_row, skeleton_row}
use Rattle.tables.specs.Codes.{codes_of}
use Rattle.tables.specs.Decoded.{Lent, span_in, skin_of, skeleton_of, scene_of}
use Rattle.tables.proofs.Decoding.{node-count, skin-at, no-skin, skeleton-at, no-skeleton}
use Rattle.tables.proofs.Naming.{is-there, not_there}
use Rattle.checks.specs.Drawn.{tables_number}
use Rattle.checks.proofs.Clearing.{checked}
use Rattle.graph.specs.Marks.{parents_number, Parents}
use Rattle.skin_roots.specs.Lines.{Inside}
use Rattle.skin_roots.specs.Roots.{RootAnswered}
use Rattle.skin_roots.proofs.Marked.{codes-length, codes-inside}

-- ---- by what the ids name
module _ (s : scene.Scene) (k : ℕ) where
  none-skinned : get_elem? s.skins k ≡ none → skin_root s k ≡ none
  unfolding skin_root
  none-skinned e = rw e

  module _ (t : scene.Skin) (e : get_elem? s.skins k ≡ some t) where
    by_name : (r : ℕ) → t.root ≡ some r → skin_root s k ≡ pick (ltb r (scene.node_count s)) (some r) none
    unfolding skin_root
    by_name r f = rw (e, f)

    none-bound : t.root ≡ none → get_elem? s.skeletons t.skeleton ≡ none → skin_root s k ≡ none
    unfolding skin_root
    none-bound f g = rw (e, f, g)

    by-joints : t.root ≡ none → (b : scene.Skeleton) → get_elem? s.skeletons t.skeleton ≡ some b → skin_root s k ≡ common_root s b.joints
    unfolding skin_root
    by-joints f b g = rw (e, f, g)

-- ---- by the rows
module _ (l : Lent) (k : ℕ) where
  pub skin-past : l.header.skins.skins.count ≤ k → none ≡ skin_root (scene_of l) k
  skin-past h = sym (none-skinned (scene_of l) k (no-skin l k h))

  module _ (h : k < l.header.skins.skins.count) (row : SkinRow) (e : row ≡ skin_row l.words l.header.skins.skins k) where
    skin-is : get_elem? (scene_of l).skins k ≡ some (skin_of row)
    skin-is = skin-at l k h ∙ ap (λ (r : SkinRow). some (skin_of r)) (sym e)

    pub root-named : (row.root.mark ≡ 0 → ⊥) → pick (ltb row.root.id (scene.node_count (scene_of l))) (some row.root.id) none ≡ skin_root (scene_of l) k
    root-named d = sym (by_name (scene_of l) k (skin_of row) skin-is row.root.id (sym (is-there row.root.mark (some row.root.id) none d)))

    module _ (z : row.root.mark ≡ 0) (b : ℕ) (f : b ≡ row.skeleton) where
      unnamed : (skin_of row).root ≡ none
      unnamed = sym (not_there row.root.mark (some row.root.id) none z)

      pub skeleton-past : l.header.skins.skeletons.count ≤ b → none ≡ skin_root (scene_of l) k
      skeleton-past g = sym (none-bound (scene_of l) k (skin_of row) skin-is unnamed (ap (get_elem? (scene_of l).skeletons) (sym f) ∙ no-skeleton l b g))

      pub root-shared : b < l.header.skins.skeletons.count → (t : SkeletonRow) → t ≡ skeleton_row l.words l.header.skins.skeletons b
          → common_root (scene_of l) (span_in l.words t.joints 1) ≡ skin_root (scene_of l) k
      root-shared g t q =
          sym (by-joints (scene_of l) k (skin_of row) skin-is unnamed (skeleton_of l t)
          (ap (get_elem? (scene_of l).skeletons) (sym f) ∙ skeleton-at l b g ∙ ap (λ (r : SkeletonRow). some (skeleton_of l r)) (sym q)))

-- ---- the answer
module _ (l : Lent) where
  -- the room for the marks of all nodes is there
  enough-room : parents_number l 1024 ≡ tables_number l
  unfolding first_of
  enough-room = go (tables_number l) refl
    where
      go : (g : ℕ) → tables_number l ≡ g → lowest g (first_of (record { applies = ltb 1024 (scene.node_count (scene_of l)); refusal = short_output } ∷ [])) ≡ g
      go zero z = ap (λ (b : Bool). pick b 10 0) (le-ltb 1024 (scene.node_count (scene_of l)) (checked l z).few-nodes)
      go (suc g) z = refl

  pub codes-are : (lent left : List ℕ) (r : ℕ) → Parents l (record { from = lent; to = left }) r → r ≡ 0
      → take l.header.graph.nodes.count left ≡ codes_of (marks_of (scene_of l))
  codes-are lent left r p z =
      let codes = codes_of (marks_of (scene_of l)) in
      ap (take l.header.graph.nodes.count) (p.slots ∙ ap (λ (b : Bool). pick b (codes ++ drop (scene.node_count (scene_of l)) lent) lent) (eq-eqb r 0 z))
      ∙ take_at codes (drop (scene.node_count (scene_of l)) lent) l.header.graph.nodes.count (codes-length (scene_of l) ∙ node-count l)

  pub few : tables_number l ≡ 0 → l.header.graph.nodes.count ≤ 1024
  few z = omega (arith, node-count l, (checked l z).few-nodes)

  pub drawn : (lent left : List ℕ) (r : ℕ) → Parents l (record { from = lent; to = left }) r → length lent ≡ 1024
      → r ≡ tables_number l
  drawn lent left r p e = p.number ∙ ap (parents_number l) e ∙ enough-room

  pub ready : (codes : List ℕ) → tables_number l ≡ 0 → codes ≡ codes_of (marks_of (scene_of l)) → (length codes ≤ 1024) × Inside codes × (length codes ≡ l.header.graph.nodes.count)
  ready codes z e =
      let n : length codes ≡ l.header.graph.nodes.count = ap length e ∙ codes-length (scene_of l) ∙ node-count l in
      (omega (arith, n, few z), subst Inside (sym e) (codes-inside (scene_of l)), n)

  module _ (k : ℕ) where
    pub refused : (r : ℕ) → r ≡ tables_number l → (r ≡ 0 → ⊥) → RootAnswered l k (record { number = r; node = 0 })
    unfolding skin_root_number
    refused r e d = record {
      number = lowest-some r _ d ∙ ap (λ (g : ℕ). lowest g (first_of (record { applies = not (is_some (skin_root (scene_of l) k)); refusal = no_common_root } ∷ []))) e;
      node = ap (λ (b : Bool). pick b (or_else (skin_root (scene_of l) k) 0) 0) (sym (ne_eqb r 0 d));
    }

    module _ (z : tables_number l ≡ 0) where
      judged : (o : Option ℕ) → o ≡ skin_root (scene_of l) k → pick (not (is_some o)) 11 0 ≡ skin_root_number (tables_number l) (scene_of l) k
      unfolding skin_root_number first_of
      judged o e = (λ i. lowest (sym z i) (pick (not (is_some (e i))) 11 0))

      pub found : (r : ℕ) → some r ≡ skin_root (scene_of l) k → RootAnswered l k (record { number = 0; node = r })
      found r e = record { number = judged (some r) e; node = ap (λ (o : Option ℕ). or_else o 0) e }

      pub not_found : none ≡ skin_root (scene_of l) k → RootAnswered l k (record { number = 11; node = 0 })
      not_found e = record { number = judged none e; node = refl }
