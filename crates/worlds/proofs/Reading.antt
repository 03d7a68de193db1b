-- The worlds of all nodes, read again from the codes of their places and the slots. Assumes nothing.
use mathlib.Core.Path.{◌≡◌, refl, sym, ap, ◌∙◌}
use mathlib.Core.Bool.{Bool, true, false, not, ◌&&◌, true≢false, false≢true}
use mathlib.Core.List.{List, [], ◌∷◌, ◌++◌, map}
use mathlib.Core.Option.{Option, none, some}
use Prim.Native.Nat.{ℕ, suc, ◌+◌, ◌*◌, ◌≤◌, ◌<◌}
use native.Mathlib.Nat.{suc-mul, mul-le-mul_right}
use native.Mathlib.Decide.{dec_lt}
use native.Mathlib.Omega.{arith}
use borrow.Author.Tests.{lt-ltb, le-ltb, le-leb, eqb-true, eqb-false}
use lib.Dec.{eqb}
use lib.Ieee.{Float}
use lib.ListN.{length, get_or, set, replicate, length-set, length-append, length-map, length-replicate, get_or-append, get_or-eq_default}
use lib.Seq.{get_or-set_same, get_or-set_other}
use Rattle.float.specs.F32.{zero32}
use Rattle.model.specs.Lists.{pick, foldl, part, is_some, or_else}
use Rattle.model.specs.Matrix.{Matrix, mul}
use Rattle.model.specs.Scene.{Scene, node_count}
use Rattle.model.specs.Placing.{Place, unplaced, root, below, Entry, is_free, order, places_from, places, start}
use Rattle.model.specs.Pose.{Pose}
use Rattle.model.specs.World.{local_at, above, place_one, worlds_from, worlds, world_at}
use Rattle.model.proofs.RowLaws.{Rows, flat-length, row-of-flat, product-length}
use Rattle.model.proofs.Walking.{InTurn, in-turn, not_free}
use Rattle.model.proofs.Paths.{free-in-range, replicate-at}
use Rattle.scene.specs.Slots.{matrix_in}
use Rattle.tables.specs.Tags.{is_marked}
use Rattle.tables.specs.Codes.{code_of, codes_of}
use Rattle.worlds.specs.Slots.{slot_of, slots_of, world_in}
use Rattle.worlds.proofs.Stepping.{rows-set, rows-zero, get_d_map}
use Rattle.worlds.proofs.Filled.{places-length}

-- places and worlds of the same nodes: those that are placed have a world, of sixteen numbers
pub record Paired (ps : List Place) (ws : List (Option Matrix)) : Type 0 where
  pub count : length ws ≡ length ps
  pub rows : Rows 16 (map slot_of ws)
  pub having : (i : ℕ) → is_some (get_or ws i none) ≡ not (is_free (get_or ps i unplaced))

none_yet : (n : ℕ) → Paired (replicate n unplaced) (replicate n none)
none_yet n = record {
  count = length-replicate n none ∙ sym (length-replicate n unplaced);
  rows = rows-zero n;
  having = λ i. ap is_some (replicate-at n i none) ∙ sym (ap (λ (p : Place). not (is_free p)) (replicate-at n i unplaced));
}

next : (ps : List Place) (ws : List (Option Matrix)) (x : ℕ) (q : Place) (m : Matrix) → x < length ps → is_free q ≡ false → length m ≡ 16 → Paired ps ws → Paired (set ps x q) (set ws x (some m))
next ps ws x q m b f e h = record {
  count = length-set ws x (some m) ∙ h.count ∙ sym (length-set ps x q);
  rows = rows-set ws x m e h.rows;
  having = λ i. go i (eqb i x) refl;
}
  where
    go : (i : ℕ) (c : Bool) → eqb i x ≡ c → is_some (get_or (set ws x (some m)) i none) ≡ not (is_free (get_or (set ps x q) i unplaced))
    go i true g =
        let s : i ≡ x = eqb-true i x g in
        ap (λ (k : ℕ). is_some (get_or (set ws x (some m)) k none)) s
        ∙ ap is_some (get_or-set_same ws x (some m) none (omega (arith, h.count)))
        ∙ sym (ap not f)
        ∙ sym (ap (λ (p : Place). not (is_free p)) (get_or-set_same ps x q unplaced b))
        ∙ sym (ap (λ (k : ℕ). not (is_free (get_or (set ps x q) k unplaced))) s)
    go i false g =
        let n = eqb-false i x g in
        ap is_some (get_or-set_other ws x i (some m) none n) ∙ h.having i ∙ sym (ap (λ (p : Place). not (is_free p)) (get_or-set_other ps x i q unplaced n))

paired : (local : ℕ → Matrix) (es : List Entry) (ps : List Place) (ws : List (Option Matrix)) → InTurn ps es → Paired ps ws → Paired (places_from ps es) (worlds_from local ws es)
unfolding foldl
paired local [] ps ws t h = h
paired local (e ∷ es) ps ws t h =
    paired local es (set ps e.node e.place) (place_one local ws e) t.2
    (next ps ws e.node e.place (mul (above ws e.place) (local e.node)) (free-in-range ps e.node t.0) (not_free ps e.place t.1) (product-length _ _) h)

pub all-paired : (qs : List Pose) (s : Scene) → Paired (places s) (worlds qs s)
unfolding worlds
all-paired qs s = paired (local_at qs s) (order s) (start s) (replicate (node_count s) none) (in-turn s) (none_yet (node_count s))

-- ---- reading
marked : (p : Place) → is_marked (code_of p) ≡ not (is_free p)
marked unplaced = refl
marked root = refl
marked (below p) = let e : p + 3 ≡ suc (p + 2) = omega arith in ap is_marked e

some_of : (o : Option Matrix) (b : Bool) (d : Matrix) → is_some o ≡ b → pick b (some (or_else o d)) none ≡ o
some_of none true d e = absurd (false≢true e)
some_of none false d e = refl
some_of (some m) true d e = refl
some_of (some m) false d e = absurd (true≢false e)

module _ (ps : List Place) (ws : List (Option Matrix)) (h : Paired ps ws) (codes : List ℕ) (slots : List Float) where
  abbrev n : ℕ
  n = length ps

  matrix-read : (i : ℕ) → i < n → matrix_in (slots_of ws ++ slots) (i * 16) ≡ slot_of (get_or ws i none)
  unfolding matrix_in
  matrix-read i b =
      let k = length-map ws slot_of in
      let inside : i * 16 + 16 ≤ length (slots_of ws ++ slots)
      = omega (arith, length-append (slots_of ws) slots, flat-length 16 (map slot_of ws) h.rows, k, h.count, suc-mul i 16, mul-le-mul_right 16 b) in
      ap (λ (c : Bool). pick c (part (slots_of ws ++ slots) (i * 16) 16) (replicate 16 zero32)) (le-leb (i * 16 + 16) (length (slots_of ws ++ slots)) inside)
      ∙ row-of-flat 16 (map slot_of ws) slots i h.rows (omega (arith, k, h.count))
      ∙ get_d_map slot_of ws i none [] (omega (arith, h.count))

  code_read : (i : ℕ) → i < n → is_marked (get_or (codes_of ps ++ codes) i 0) ≡ is_some (get_or ws i none)
  code_read i b =
      ap is_marked (get_or-append (codes_of ps) codes 0 i (omega (arith, length-map ps code_of)) ∙ get_d_map code_of ps i unplaced 0 b)
      ∙ marked (get_or ps i unplaced)
      ∙ sym (h.having i)

  read : (i : ℕ) → Dec (i < n) → world_in n (codes_of ps ++ codes) (slots_of ws ++ slots) i ≡ get_or ws i none
  read i (yes b) =
      ap (λ (c : Bool). pick (c && is_marked (get_or (codes_of ps ++ codes) i 0)) (some (matrix_in (slots_of ws ++ slots) (i * 16))) none) (lt-ltb i n b)
      ∙ (λ j. pick (code_read i b j) (some (matrix-read i b j)) none)
      ∙ some_of (get_or ws i none) (is_some (get_or ws i none)) (replicate 16 zero32) refl
  read i (no b) =
      ap (λ (c : Bool). pick (c && is_marked (get_or (codes_of ps ++ codes) i 0)) (some (matrix_in (slots_of ws ++ slots) (i * 16))) none) (le-ltb i n (omega (arith, b)))
      ∙ sym (get_or-eq_default ws none (omega (arith, b, h.count)))

-- whatever lies past the nodes
pub worlds-read : (qs : List Pose) (s : Scene) (codes : List ℕ) (slots : List Float) (i : ℕ)
    → world_in (node_count s) (codes_of (places s) ++ codes) (slots_of (worlds qs s) ++ slots) i ≡ world_at (worlds qs s) i
worlds-read qs s codes slots i =
    ap (λ (m : ℕ). world_in m (codes_of (places s) ++ codes) (slots_of (worlds qs s) ++ slots) i) (sym (places-length s))
    ∙ read (places s) (worlds qs s) (all-paired qs s) codes slots i (dec_lt i (length (places s)))
