-- The world slots after a run of the placing. Assumes nothing.
use mathlib.Core.Path.{◌≡◌, refl, sym, ap, ◌∙◌}
use mathlib.Core.Bool.{true≢false}
use mathlib.Core.List.{List, [], ◌∷◌, ◌++◌, map, Memᴰ}
use mathlib.Core.Option.{none}
use Prim.Native.Nat.{ℕ, zero, suc, ◌+◌, ◌*◌, ◌≤◌, ◌<◌}
use native.Mathlib.Nat.{suc-mul}
use native.Mathlib.Omega.{arith}
use lib.Ieee.{Float}
use lib.ListN.{length, get_or, take, drop, set, replicate, length-replicate, length-set, length-append, length-map, get_or-append, replicate-append-replicate}
use lib.Seq.{take_at}
use Rattle.float.specs.F32.{zero32}
use Rattle.borrowed.specs.Slices.{Change}
use Rattle.model.specs.Lists.{foldl, joined}
use Rattle.model.specs.Matrix.{Matrix}
use Rattle.model.specs.Scene.{Scene, node_count}
use Rattle.model.specs.Placing.{Place, unplaced, Entry, is_free, order, places_from, places, start}
use Rattle.model.specs.World.{worlds_from}
use Rattle.model.specs.Agree.{Each}
use Rattle.model.proofs.Walking.{in-turn}
use Rattle.model.proofs.Paths.{replicate-at}
use Rattle.model.proofs.Placed.{placed-in-range}
use Rattle.tables.specs.Codes.{code_of, codes_of}
use Rattle.placing.specs.Walk.{Walked}
use Rattle.worlds.specs.Slots.{slots_of, placed_in}
use Rattle.worlds.proofs.Stepping.{rows-zero, Having, Told, get_d_map, placed-slots}

-- ---- before the first node
no-worlds : (n : ℕ) → slots_of (replicate n none) ≡ replicate (n * 16) zero32
unfolding joined
no-worlds zero = refl
no-worlds (suc n) =
    let e : 16 + n * 16 ≡ suc n * 16 = omega (arith, suc-mul n 16) in
    ap (λ (l : List Float). replicate 16 zero32 ++ l) (no-worlds n) ∙ replicate-append-replicate 16 (n * 16) zero32 ∙ ap (λ (k : ℕ). replicate k zero32) e

none-placed : (n : ℕ) → Having (replicate n unplaced) (replicate n none)
none-placed n p h = absurd (true≢false (sym (ap is_free (replicate-at n p unplaced)) ∙ h))

-- a place for each node, however many are placed
places-kept : (ps : List Place) (es : List Entry) → length (places_from ps es) ≡ length ps
unfolding foldl
places-kept ps [] = refl
places-kept ps (e ∷ es) = places-kept (set ps e.node e.place) es ∙ length-set ps e.node e.place

pub places-length : (s : Scene) → length (places s) ≡ node_count s
places-length s = places-kept (start s) (order s) ∙ length-replicate (node_count s) unplaced

-- ---- codes and order that a run leaves
each_of : {A : Type 0} (P : A → Type 0) (l : List A) → ((x : A) → Memᴰ x l → P x) → Each P l
each_of P [] h = tt
each_of P (x ∷ xs) h = (h x (Memᴰ.head refl), each_of P xs (λ y m. h y (Memᴰ.tail m)))

module _ (s : Scene) (room codes ids : Change (List ℕ)) (taken placed : ℕ)
    (w : Walked s room codes ids taken placed) where
  pub nodes-in-order : take placed ids.to ≡ map (λ (e : Entry). e.node) (order s)
  nodes-in-order =
      ap (take placed) w.order
      ∙ take_at (map (λ (e : Entry). e.node) (order s)) _ placed (length-map (order s) (λ (e : Entry). e.node) ∙ sym w.counted)

  pub part_length : length (take placed ids.to) ≡ placed
  part_length = ap length nodes-in-order ∙ length-map (order s) (λ (e : Entry). e.node) ∙ sym w.counted

  pub order-holds : placed ≤ length ids.to
  order-holds =
      let nodes = map (λ (e : Entry). e.node) (order s) in
      omega (arith, ap length w.order, length-append nodes (drop (length (order s)) ids.from), length-map (order s) (λ (e : Entry). e.node), w.counted)

  codes-length : length (codes_of (places s)) ≡ node_count s
  codes-length = length-map (places s) code_of ∙ places-length s

  told : Told codes.to (order s)
  told =
      each_of (λ (e : Entry). get_or codes.to e.node 0 ≡ code_of e.place) (order s)
      (λ e m.
      let p = placed-in-range s e m in
      let b : e.node < length (places s) = omega (arith, places-length s, p.0) in
      ap (λ (l : List ℕ). get_or l e.node 0) w.places
      ∙ get_or-append (codes_of (places s)) _ 0 e.node (omega (arith, codes-length))
      ∙ get_d_map code_of (places s) e.node unplaced 0 b
      ∙ ap code_of p.1)

  -- from empty slots, the nodes in order; past them the slots are as they were
  pub all-worlds : (local : ℕ → Matrix) (m : ℕ) (rest : List Float) → m ≡ node_count s * 16
      → foldl (placed_in local codes.to) (replicate m zero32 ++ rest) (take placed ids.to)
      ≡ slots_of (worlds_from local (replicate (node_count s) none) (order s)) ++ rest
  all-worlds local m rest e =
      (λ j. foldl (placed_in local codes.to) (empty j ++ rest) (nodes-in-order j))
      ∙ placed-slots local codes.to rest (order s) (start s) (replicate (node_count s) none) (rows-zero (node_count s))
      (length-replicate (node_count s) none ∙ sym (length-replicate (node_count s) unplaced))
      (in-turn s) (none-placed (node_count s)) told
    where
      empty : replicate m zero32 ≡ slots_of (replicate (node_count s) none)
      empty = ap (λ (k : ℕ). replicate k zero32) e ∙ sym (no-worlds (node_count s))
