-- A placing in numbers whose results are written in bytes. Assumes nothing.
use mathlib.Core.Path.{◌≡◌, sym, ap, ◌∙◌}
use mathlib.Core.Bool.{Bool, true}
use mathlib.Core.List.{List, ◌++◌, append_assoc}
use Prim.Native.Nat.{ℕ, ◌*◌, ◌/◌, ◌≤◌, min}
use native.Mathlib.Omega.{arith}
use borrow.Author.Tests.{eq-eqb, ne_eqb}
use lib.Dec.{eqb}
use lib.Ieee.{Float}
use lib.ListN.{length, take, drop, replicate, length-append, length-drop, take-append-drop}
use lib.Seq.{length-take-le, take_at, drop-append-le}
use Rattle.model.specs.Lists.{pick}
use Rattle.model.specs.Scene.{node_count}
use Rattle.model.specs.Placing.{places}
use Rattle.model.specs.World.{worlds}
use Rattle.model.specs.Refusals.{lowest, place_number}
use Rattle.model.proofs.Numbers.{lowest-none}
use Rattle.wire.specs.Bytes.{bytes_of_words, bytes_of, written_as, WroteAs}
use Rattle.wire.proofs.Writing.{all-written}
use Rattle.tables.specs.Decoded.{Lent, scene_of}
use Rattle.tables.specs.Codes.{codes_of}
use Rattle.tables.proofs.Decoding.{node-count}
use Rattle.checks.specs.Drawn.{tables_number}
use Rattle.pose_slots.specs.Slots.{room}
use Rattle.worlds.specs.declared.Answer.{Answer}
use Rattle.worlds.specs.Slots.{slots_of}
use Rattle.worlds.specs.Placed.{scratch_of, poses_in, Placed}
use Rattle.worlds.proofs.Delivering.{few, world-room}
use Rattle.byte_placing.specs.Placed.{Room, scratch_in, placed_to, PlacedIn, WrittenBack}

-- the first n entries, written to bytes that have room for them
pub front-written : {A : Type 0} {g : A → ℕ} (xs : List A) (n : ℕ) (lent left : List ℕ) (count : ℕ) → n ≤ length xs → 4 * n ≤ length lent
    → WroteAs g (take n xs) lent left count → left ≡ written_as g (take n xs) ++ drop (4 * n) lent
front-written {g = g} xs n lent left count h fit w =
    let m = length-take-le n xs h in
    (all-written (take n xs) lent left count w (omega (arith, m))).1 ∙ (λ j. written_as g (take n xs) ++ drop (4 * m j) lent)

-- results in the first p entries of a slice
module _ {A : Type 0} (lent left part : List A) (p n : ℕ) (few : p ≤ length lent) (w : left ≡ part ++ drop n (take p lent)) (k : length left ≡ length (take p lent)) (h : n ≤ p) where
  long : length (take p lent) ≡ p
  long = length-take-le p lent few

  part-long : length part ≡ n
  part-long = omega (arith, ap length w, length-append part (drop n (take p lent)), length-drop n (take p lent), k, long)

  pub whole : left ++ drop p lent ≡ part ++ drop n lent
  whole =
      ap (λ (x : List A). x ++ drop p lent) w
      ∙ append_assoc part (drop n (take p lent)) (drop p lent)
      ∙ ap (λ (x : List A). part ++ x) (sym (drop-append-le n (take p lent) (drop p lent) (omega (arith, long))) ∙ ap (drop n) (take-append-drop p lent))

  pub there : n ≤ length (left ++ drop p lent)
  there = omega (arith, length-append left (drop p lent), k, long)

  pub start : take n (left ++ drop p lent) ≡ part
  start = ap (take n) whole ∙ take_at part (drop n lent) n part-long

module _ (l : Lent) (marks : List ℕ) (slots : List Float) (r : Room) (c m : ℕ) (ec : c ≡ min (length r.codes) (length r.places / 4)) (em : m ≡ min (length r.matrices) (length r.worlds / 4)) (walk codes : List ℕ) (matrices : List Float) (a : Answer) (p : Placed l marks slots r.walk walk (take c r.codes) codes (take m r.matrices) matrices a) where
  abbrev count : ℕ
  count = l.header.graph.nodes.count

  abbrev placed_codes : List ℕ
  placed_codes = codes_of (places (scene_of l))

  abbrev placed_matrices : List Float
  placed_matrices = slots_of (worlds (poses_in marks slots (node_count (scene_of l))) (scene_of l))

  codes-long : length (take c r.codes) ≡ c
  codes-long = length-take-le c r.codes (omega (arith, ec))

  matrices-long : length (take m r.matrices) ≡ m
  matrices-long = length-take-le m r.matrices (omega (arith, em))

  number_is : a.number ≡ lowest (place_number (tables_number l) (scene_of l) (scratch_in marks slots r)) 0
  number_is =
      let x = codes-long ∙ ec in
      let y = matrices-long ∙ em in
      p.number
      ∙ (λ j. place_number (tables_number l) (scene_of l) (record { walk_room = length r.walk / 2; pose_slots = room marks slots; world_slots = min (x j) (y j / 16) }))
      ∙ sym (lowest-none _)

  abbrev left : Room
  left = record { walk = walk; codes = codes ++ drop c r.codes; matrices = matrices ++ drop m r.matrices; places = r.places; worlds = r.worlds }

  module _ (d : a.number ≡ 0 → ⊥) where
    kept-walk : walk ≡ r.walk
    kept-walk = p.walk ∙ ap (λ (b : Bool). pick b (replicate (length r.walk) 0) r.walk) (ne_eqb a.number 0 d)

    kept-codes : codes ≡ take c r.codes
    kept-codes = p.codes ∙ ap (λ (b : Bool). pick b (placed_codes ++ drop (node_count (scene_of l)) (take c r.codes)) (take c r.codes)) (ne_eqb a.number 0 d)

    kept-matrices : matrices ≡ take m r.matrices
    kept-matrices =
        p.floats
        ∙ ap (λ (b : Bool). pick b (placed_matrices ++ drop (node_count (scene_of l) * 16) (take m r.matrices)) (take m r.matrices))
        (ne_eqb a.number 0 d)

    kept : left ≡ r
    kept = λ j. record {
      walk = kept-walk j;
      codes = ((λ i. kept-codes i ++ drop c r.codes) ∙ take-append-drop c r.codes) j;
      matrices = ((λ i. kept-matrices i ++ drop m r.matrices) ∙ take-append-drop m r.matrices) j;
      places = r.places;
      worlds = r.worlds;
    }

    pub refused : PlacedIn 0 l marks slots (record { from = r; to = left }) a
    refused = record {
      number = number_is;
      entries = p.entries;
      slices = kept ∙ ap (λ (b : Bool). pick b (placed_to l marks slots r) r) (sym (ne_eqb a.number 0 d));
    }

  module _ (z : a.number ≡ 0) (kc : length codes ≡ length (take c r.codes)) (km : length matrices ≡ length (take m r.matrices)) where
    none : place_number (tables_number l) (scene_of l) (scratch_of r.walk marks slots (take c r.codes) (take m r.matrices)) ≡ 0
    none = sym p.number ∙ z

    enough : (count ≤ c) × (count * 16 ≤ m)
    enough = (
      omega (arith, (few l marks slots r.walk (take c r.codes) (take m r.matrices) none).1, codes-long),
      omega (arith, world-room l marks slots r.walk (take c r.codes) (take m r.matrices) none, matrices-long),
    )

    f : eqb a.number 0 ≡ true
    f = eq-eqb a.number 0 z

    wiped : walk ≡ replicate (length r.walk) 0
    wiped = p.walk ∙ ap (λ (b : Bool). pick b (replicate (length r.walk) 0) r.walk) f

    codes-are : codes ≡ placed_codes ++ drop count (take c r.codes)
    codes-are = p.codes ∙ (λ j. pick (f j) (placed_codes ++ drop (node-count l j) (take c r.codes)) (take c r.codes))

    matrices-are : matrices ≡ placed_matrices ++ drop (count * 16) (take m r.matrices)
    matrices-are =
        p.floats
        ∙ (λ j. pick (f j) (placed_matrices ++ drop (node-count l j * 16) (take m r.matrices)) (take m r.matrices))

    pub fits : ((count ≤ length left.codes) × (count * 16 ≤ length left.matrices)) × ((4 * count ≤ length r.places) × (4 * (count * 16) ≤ length r.worlds))
    fits = (
      (there r.codes codes placed_codes c count (omega (arith, ec)) codes-are kc enough.0, there r.matrices matrices placed_matrices m (count * 16) (omega (arith, em)) matrices-are km enough.1),
      (omega (arith, enough.0, ec), omega (arith, enough.1, em)),
    )

    pub accepted : (left_places left_worlds : List ℕ) → WrittenBack count left.codes left.matrices r.places left_places r.worlds left_worlds
        → PlacedIn 0 l marks slots (record { from = r; to = record { walk = walk; codes = left.codes; matrices = left.matrices; places = left_places; worlds = left_worlds } }) a
    unfolding placed_to
    accepted left_places left_worlds w =
        let n = sym (node-count l) in
        let cs = start r.codes codes placed_codes c count (omega (arith, ec)) codes-are kc enough.0 in
        let ms = start r.matrices matrices placed_matrices m (count * 16) (omega (arith, em)) matrices-are km enough.1 in
        let cw = whole r.codes codes placed_codes c count (omega (arith, ec)) codes-are kc enough.0 ∙ (λ j. placed_codes ++ drop (n j) r.codes) in
        let mw = whole r.matrices matrices placed_matrices m (count * 16) (omega (arith, em)) matrices-are km enough.1 ∙ (λ j. placed_matrices ++ drop (n j * 16) r.matrices) in
        let pw = w.places ∙ (λ j. bytes_of_words (cs j) ++ drop (4 * n j) r.places) in
        let ww = w.worlds ∙ (λ j. bytes_of (ms j) ++ drop (4 * (n j * 16)) r.worlds) in
        record {
          number = number_is;
          entries = p.entries;
          slices =
              (λ j. record { walk = wiped j; codes = cw j; matrices = mw j; places = pw j; worlds = ww j })
              ∙ ap (λ (b : Bool). pick b (placed_to l marks slots r) r) (sym f);
        }
