-- The scene that stands in a decoding room once its bytes are decoded. Assumes nothing.
use mathlib.Core.Path.{◌≡◌, refl, ap, ◌∙◌}
use mathlib.Core.Bool.{Bool, true, false, ◌||◌}
use mathlib.Core.List.{List, ◌++◌, append_assoc}
use Prim.Native.Nat.{ℕ, ◌+◌, ◌-◌, ◌/◌, ◌≤◌}
use native.Mathlib.Omega.{arith}
use borrow.Author.Tests.{le-ltb, ltb-false}
use lib.Dec.{ltb}
use lib.Ieee.{Float, binary32, of_bits}
use lib.ListN.{length, take, drop, length-append}
use lib.Seq.{take_all, take_at, drop_at}
use Rattle.model.specs.Lists.{pick, part}
use Rattle.model.specs.Written.{Wrote}
use Rattle.wire.specs.Bytes.{read_as, words_in, floats_in}
use Rattle.wire.proofs.Reading.{count}
use Rattle.tables.specs.declared.Header.{Header}
use Rattle.checks.specs.Drawn.{lent_as}
use Rattle.lent_bytes.specs.Bytes.{Decoding, starting_with, floats_of, count_of, where_room, SceneBytes, lent_by, drawn_by, decoded_to, ends_of, standing_in, Within}

-- ---- the room

neither : (p q : Bool) → ◌≡◌ {A = ℕ} (pick (p || q) 6 0) 0 → (p ≡ false) × (q ≡ false)
neither true q h = absurd (omega (arith, h))
neither false true h = absurd (omega (arith, h))
neither false false h = (refl, refl)

module _ (b : SceneBytes) (d : Decoding) (z : drawn_by b d ≡ 0) where
  -- a room that draws nothing is long enough
  pub enough : (length b.words / 4 ≤ length d.words) × (count_of b.floats b.node_weights b.mesh_weights ≤ length d.floats)
  enough =
      let n = neither (ltb (length d.words) (length b.words / 4)) (ltb (length d.floats) (count_of b.floats b.node_weights b.mesh_weights)) z in
      (ltb-false (length d.words) (length b.words / 4) n.0, ltb-false (length d.floats) (count_of b.floats b.node_weights b.mesh_weights) n.1)

  pub within : (word_room float_room : ℕ) → word_room ≡ length d.words → float_room ≡ length d.floats → Within (ends_of b) word_room float_room
  within word_room float_room p q = record {
    words = omega (arith, enough.0, p);
    floats = omega arith;
    node-weights = omega arith;
    mesh-weights = omega (arith, enough.1, q);
  }

-- ---- what is decoded

-- entries that are read into room for all of them
pub all_read : {A : Type 0} (f : ℕ → A) (bytes : List ℕ) (lent left : List A) (n : ℕ) → length bytes / 4 ≤ length lent
    → Wrote (read_as f bytes) lent left n → left ≡ starting_with (read_as f bytes) lent
all_read f bytes lent left n h w =
    let m : n ≡ length (read_as f bytes) = omega (arith, w.counted, count f bytes) in
    w.slice ∙ (λ j. take_all n (read_as f bytes) (omega (arith, m)) j ++ drop (m j) lent)

pub all_there : {A : Type 0} (n : ℕ) (entries lent left : List A) → n ≤ length lent → left ≡ where_room n entries lent → left ≡ starting_with entries lent
all_there n entries lent left h e = e ∙ (λ j. pick (le-ltb (length lent) n h j) lent (starting_with entries lent))

-- ---- the parts of it

-- a part in the middle
middle : {A : Type 0} (before it after : List A) (at n : ℕ) → length before ≡ at → length it ≡ n → part (before ++ it ++ after) at n ≡ it
middle before it after at n p q =
    ap (λ l. part l at n) (append_assoc before it after) ∙ ap (take n) (drop_at before (it ++ after) at p) ∙ take_at it after n q

module _ (b : SceneBytes) (h : Header) (d : Decoding) (words : List ℕ) (floats : List Float) (w : words ≡ (decoded_to b d).words) (f : floats ≡ (decoded_to b d).floats) where
  abbrev own : List Float
  own = floats_in b.floats

  abbrev of_nodes : List Float
  of_nodes = floats_in b.node_weights

  abbrev of_meshes : List Float
  of_meshes = floats_in b.mesh_weights

  abbrev rest : List Float
  rest = drop (length (floats_of b.floats b.node_weights b.mesh_weights)) d.floats

  counted : (bytes : List ℕ) → length (floats_in bytes) ≡ length bytes / 4
  counted bytes = count (of_bits binary32) bytes

  first-words : take (ends_of b).words words ≡ words_in b.words
  first-words = ap (take (ends_of b).words) w ∙ take_at (words_in b.words) _ (ends_of b).words (count (λ (n : ℕ). n) b.words)

  first : take (ends_of b).floats floats ≡ own
  first =
      ap (take (ends_of b).floats) (f ∙ ap (λ l. l ++ rest) (append_assoc own of_nodes of_meshes) ∙ append_assoc own (of_nodes ++ of_meshes) rest)
      ∙ take_at own (of_nodes ++ of_meshes ++ rest) (ends_of b).floats (counted b.floats)

  second : part floats (ends_of b).floats ((ends_of b).node_weights - (ends_of b).floats) ≡ of_nodes
  second =
      ap (λ l. part l (ends_of b).floats ((ends_of b).node_weights - (ends_of b).floats)) (f ∙ append_assoc (own ++ of_nodes) of_meshes rest)
      ∙ middle own of_nodes (of_meshes ++ rest) (ends_of b).floats ((ends_of b).node_weights - (ends_of b).floats) (counted b.floats) (omega (arith, counted b.node_weights))

  third : part floats (ends_of b).node_weights ((ends_of b).mesh_weights - (ends_of b).node_weights) ≡ of_meshes
  third =
      ap (λ l. part l (ends_of b).node_weights ((ends_of b).mesh_weights - (ends_of b).node_weights)) f
      ∙ middle (own ++ of_nodes) of_meshes rest (ends_of b).node_weights ((ends_of b).mesh_weights - (ends_of b).node_weights)
      (length-append own of_nodes ∙ (λ j. counted b.floats j + counted b.node_weights j)) (omega (arith, counted b.mesh_weights))

  pub standing : standing_in words floats (ends_of b) h ≡ lent_by b h
  standing = λ j. lent_as (first-words j) (first j) (second j) (third j) h
