-- What `posed_node_transforms` answers and leaves. Assumes nothing.
use mathlib.Core.Path.{◌≡◌, refl, sym, ap, ◌∙◌}
use mathlib.Core.Bool.{Bool, true, false, true≢false, ◌||◌}
use mathlib.Core.List.{List, [], ◌∷◌, ◌++◌, Memᴰ}
use mathlib.Core.Option.{Option, none}
use Prim.Native.Nat.{ℕ, zero, suc, ◌+◌, ◌*◌, ◌≤◌, ◌<◌}
use native.Mathlib.Omega.{arith}
use borrow.Author.Tests.{ltb-false, ne_eqb}
use lib.Dec.{ltb}
use lib.Ieee.{Float}
use lib.ListN.{length, get_or, drop, replicate}
use Rattle.model.specs.Lists.{pick, foldl}
use Rattle.model.specs.Matrix.{Matrix}
use Rattle.model.specs.Transform.{to_matrix}
use Rattle.model.specs.Scene.{Scene, node_count}
use Rattle.model.specs.Pose.{at_rest, local_transform}
use Rattle.model.specs.Placing.{Entry, child_entries, order, places, taken}
use Rattle.model.specs.World.{local_at, place_one, worlds_from, worlds}
use Rattle.model.specs.Refusals.{first_of, lowest, Scratch, scratch_is_short, place_number}
use Rattle.model.proofs.ListLaws.{get_d_tabulate}
use Rattle.model.proofs.Placed.{placed-in-range}
use Rattle.tables.specs.Decoded.{Lent, scene_of}
use Rattle.tables.specs.Codes.{codes_of}
use Rattle.tables.proofs.Decoding.{node-count, node-at}
use Rattle.checks.specs.Drawn.{tables_number}
use Rattle.checks.proofs.Clearing.{checked}
use Rattle.placing.specs.Walk.{listing_in, entries_of}
use Rattle.placing.proofs.Linked.{same-listing, order-linked, places-linked, taken-linked, room-linked}
use Rattle.pose_slots.specs.Slots.{pose_in}
use Rattle.worlds.specs.Slots.{slots_of}
use Rattle.worlds.specs.Posed.{local_in}
use Rattle.worlds.specs.Placed.{scratch_of, poses_in, Run, Placed}

-- ---- a number that is 0
neither : (g : ℕ) (b : Bool) → lowest g (pick b 6 0) ≡ 0 → (g ≡ 0) × (b ≡ false)
neither zero true h = absurd (omega (arith, h))
neither zero false h = (refl, refl)
neither (suc g) b h = absurd (omega (arith, h))

pub clear : (g : ℕ) (s : Scene) (r : Scratch) → place_number g s r ≡ 0 → (g ≡ 0) × (scratch_is_short s r ≡ false)
unfolding place_number first_of
clear g s r h = neither g (scratch_is_short s r) h

no-either : (p q : Bool) → (p || q) ≡ false → (p ≡ false) × (q ≡ false)
no-either true q h = absurd (true≢false h)
no-either false q h = (refl, h)

pub enough : (s : Scene) (r : Scratch) → scratch_is_short s r ≡ false → (length s.roots + child_entries s ≤ r.walk_room) × (node_count s ≤ r.pose_slots) × (node_count s ≤ r.world_slots)
enough s r h =
    let a = no-either (ltb r.walk_room (length s.roots + child_entries s) || ltb r.pose_slots (node_count s)) (ltb r.world_slots (node_count s)) h in
    let b = no-either (ltb r.walk_room (length s.roots + child_entries s)) (ltb r.pose_slots (node_count s)) a.0 in
    (ltb-false _ _ b.0, ltb-false _ _ b.1, ltb-false _ _ a.1)

-- ---- local matrices
pub worlds-alike : (f g : ℕ → Matrix) (es : List Entry) (ws : List (Option Matrix)) → ((e : Entry) → Memᴰ e es → f e.node ≡ g e.node) → worlds_from f ws es ≡ worlds_from g ws es
unfolding foldl
worlds-alike f g [] ws h = refl
worlds-alike f g (e ∷ es) ws h =
    worlds-alike f g es (place_one f ws e) (λ d m. h d (Memᴰ.tail m))
    ∙ ap (λ (m : Matrix). worlds_from g (set-world m) es) (h e (Memᴰ.head refl))
  where
    set-world : Matrix → List (Option Matrix)
    set-world m = place_one (λ i. m) ws e

module _ (l : Lent) (marks : List ℕ) (slots : List Float) where
  abbrev local : ℕ → Matrix
  local = local_in l.words l.floats l.header.graph.nodes marks slots

  local-alike : (i : ℕ) → i < node_count (scene_of l) → local i ≡ local_at (poses_in marks slots (node_count (scene_of l))) (scene_of l) i
  unfolding local_in
  local-alike i b =
      let p : get_or (poses_in marks slots (node_count (scene_of l))) i at_rest ≡ pose_in marks slots i = get_d_tabulate (node_count (scene_of l)) (pose_in marks slots) i at_rest b in
      let n = node-at l i (omega (arith, node-count l)) in
      sym (λ j. to_matrix (local_transform (p j) (n j).base))

  posed : worlds_from local (replicate (node_count (scene_of l)) none) (order (scene_of l)) ≡ worlds (poses_in marks slots (node_count (scene_of l))) (scene_of l)
  unfolding worlds
  posed = worlds-alike local _ (order (scene_of l)) _ (λ e m. local-alike e.node (placed-in-range (scene_of l) e m).0)

  module _ (lent_walk lent_codes : List ℕ) (lent_floats : List Float) where
    abbrev given : Scratch
    given = scratch_of lent_walk marks slots lent_codes lent_floats

    pub refused : (r : ℕ) → r ≡ place_number (tables_number l) (scene_of l) given → (r ≡ 0 → ⊥)
        → Placed l marks slots lent_walk lent_walk lent_codes lent_codes lent_floats lent_floats (record { number = r; taken = 0 })
    refused r e d =
        let f = sym (ne_eqb r 0 d) in
        record {
          number = e;
          entries = ap (λ (b : Bool). pick b (taken (scene_of l)) 0) f;
          walk = ap (λ (b : Bool). pick b (replicate (length lent_walk) 0) lent_walk) f;
          codes = ap (λ (b : Bool). pick b (codes_of (places (scene_of l)) ++ drop (node_count (scene_of l)) lent_codes) lent_codes) f;
          floats = ap (λ (b : Bool). pick b (slots_of (worlds (poses_in marks slots (node_count (scene_of l))) (scene_of l)) ++ drop (node_count (scene_of l) * 16) lent_floats) lent_floats) f;
        }

    module _ (z : place_number (tables_number l) (scene_of l) given ≡ 0) where
      pub few : (l.header.graph.nodes.count ≤ 1024) × (l.header.graph.nodes.count ≤ length lent_codes)
      few =
          let c = clear (tables_number l) (scene_of l) given z in
          let r = enough (scene_of l) given c.1 in
          (omega (arith, node-count l, (checked l c.0).few-nodes), omega (arith, node-count l, r.2))

      pub walk-room : 2 * entries_of (listing_in l.words l.header.graph) ≤ length lent_walk
      walk-room = let r = enough (scene_of l) given (clear (tables_number l) (scene_of l) given z).1 in omega (arith, room-linked l, r.0)

      pub world-room : l.header.graph.nodes.count * 16 ≤ length lent_floats
      world-room = let r = enough (scene_of l) given (clear (tables_number l) (scene_of l) given z).1 in omega (arith, node-count l, r.2)

      pub accepted : (left_walk left_codes : List ℕ) (left_floats : List Float) (n : ℕ)
          → Run (listing_in l.words l.header.graph) local (record { from = lent_walk; to = left_walk })
          (record { from = lent_codes; to = left_codes }) (record { from = lent_floats; to = left_floats }) n
          → Placed l marks slots lent_walk left_walk lent_codes left_codes lent_floats left_floats (record { number = 0; taken = n })
      accepted left_walk left_codes left_floats n run =
          let k = (same-listing l).count in
          record {
            number = sym z;
            entries = run.entries ∙ taken-linked l;
            walk = run.walk;
            codes = run.codes ∙ (λ j. codes_of (places-linked l j) ++ drop (k j) lent_codes);
            floats =
                run.floats
                ∙ (λ j. slots_of (worlds_from local (replicate (k j) none) (order-linked l j)) ++ drop (k j * 16) lent_floats)
                ∙ ap (λ (w : List (Option Matrix)). slots_of w ++ drop (node_count (scene_of l) * 16) lent_floats) posed;
          }
