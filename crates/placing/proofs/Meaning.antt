-- A run in lent room is the model's placing: entries and places as codes, the placed nodes written one after the other. Assumes nothing.
use mathlib.Core.Path.{◌≡◌, refl, sym, ap, ◌∙◌}
use mathlib.Core.Bool.{Bool, true, false}
use mathlib.Core.List.{List, [], ◌∷◌, ◌++◌, map, append-nil}
use Prim.Native.Nat.{ℕ, zero, suc, ◌+◌, ◌≤◌, ◌<◌}
use native.Mathlib.Nat.{zero-add}
use native.Mathlib.Numerals.{add-one}
use native.Mathlib.Omega.{arith}
use borrow.Author.Tests.{eqb-true, ne_eqb}
use lib.Dec.{eqb}
use lib.ListN.{length, get_or, set, take, drop, replicate, length-map, length-replicate, length-set, get_or-map}
use lib.Seq.{sets, sets-eq, drop-length, length-take-le}
use Rattle.borrowed.specs.Slices.{Change}
use Rattle.model.specs.Lists.{pick, foldl}
use Rattle.model.specs.Scene.{Scene, node_count, children_at}
use Rattle.model.specs.Placing.{Place, unplaced, root, below, Entry, listed, is_free, free, Taken, walk, placed_of, trace, start, child_entries, order, places_from, places, taken_from, taken}
use Rattle.model.proofs.Walking.{Stands, InTurn, in-turn}
use Rattle.model.proofs.Placed.{taken-is-counted}
use Rattle.tables.specs.Codes.{code_of, codes_of}
use Rattle.placing.specs.Walk.{entries_of, Wiped, Walked}
use Rattle.placing.specs.WalkRoom.{Item, listed_as, stack_of, waiting, Marks, State, take_one, Ended, drained, Started, Drained}
use Rattle.placing.proofs.Unplaced.{free-place, free_all}
use Rattle.placing.proofs.Taking.{placed, dropped}
use Rattle.placing.proofs.Going.{bound}

abbrev item_of : Entry → Item
item_of e = record { id = e.node; code = code_of e.place }

abbrev node_of : Entry → ℕ
node_of e = e.node

items-listed : (p : Place) (l : List ℕ) (rest : List Entry) → listed_as (code_of p) l ++ map item_of rest ≡ map item_of (listed p l ++ rest)
unfolding listed listed_as
items-listed p [] rest = refl
items-listed p (x ∷ l) rest = ap (λ (r : List Item). record { id = x; code = code_of p } ∷ r) (items-listed p l rest)

codes-set : (ps : List Place) (i : ℕ) (p : Place) → set (codes_of ps) i (code_of p) ≡ codes_of (set ps i p)
codes-set [] i p = refl
codes-set (q ∷ ps) zero p = refl
codes-set (q ∷ ps) (suc i) p = ap (λ (r : List ℕ). code_of q ∷ r) (codes-set ps i p)

codes-start : (n : ℕ) → replicate n 0 ≡ codes_of (replicate n unplaced)
codes-start zero = refl
codes-start (suc n) = ap (λ (r : List ℕ). 0 ∷ r) (codes-start n)

free-code : (p : Place) → eqb (code_of p) 0 ≡ is_free p
free-code unplaced = refl
free-code root = refl
free-code (below p) = ne_eqb (p + 3) 0 (λ e. omega arith)

tells-free : (ps : List Place) (i : ℕ) → eqb (get_or (codes_of ps) i 1) 0 ≡ free ps i
tells-free ps i = ap (λ (c : ℕ). eqb c 0) (get_or-map code_of ps i root) ∙ free-code (get_or ps i root)

-- no node is placed twice
few-in-turn : (ps : List Place) (es : List Entry) → InTurn ps es → length es ≤ waiting (replicate (length ps) 1) (codes_of ps)
few-in-turn ps [] h = omega arith
few-in-turn ps (e ∷ es) h =
    let z : get_or (codes_of ps) e.node 1 ≡ 0 = eqb-true _ _ (tells-free ps e.node ∙ h.0) in
    let r : length es ≤ waiting (replicate (length (set ps e.node e.place)) 1) (codes_of (set ps e.node e.place)) =
    few-in-turn (set ps e.node e.place) es h.2 in
    let q : waiting (replicate (length (set ps e.node e.place)) 1) (codes_of (set ps e.node e.place)) ≡ waiting (replicate (length ps) 1) (set (codes_of ps) e.node (code_of e.place)) =
    λ j. waiting (replicate (length-set ps e.node e.place j) 1) (sym (codes-set ps e.node e.place) j) in
    omega (arith, free-place (length ps) (codes_of ps) e.node (code_of e.place) (sym (length-map ps code_of)) z (stands-coded ps e.place h.1))
  where
    stands-coded : (ps : List Place) (p : Place) → Stands ps p → 0 < code_of p
    stands-coded ps unplaced g = absurd g
    stands-coded ps root g = omega arith
    stands-coded ps (below p) g = omega arith

pub order-few : (s : Scene) → length (order s) ≤ node_count s
order-few s =
    let all : waiting (replicate (length (start s)) 1) (codes_of (start s)) ≡ node_count s =
    (λ j. waiting (replicate (length-replicate (node_count s) unplaced j) 1) (sym (codes-start (node_count s)) j)) ∙ free_all (node_count s) in
    omega (arith, few-in-turn (start s) (order s) (in-turn s))

module _ (children : ℕ → List ℕ) where
  -- how a run ends that takes the entries of a trace
  abbrev told : List Taken → List Place → List ℕ → ℕ → ℕ → Ended
  told t ps o c n = record {
    marks = record { places = codes_of (places_from ps (placed_of t)); order = sets o c (map node_of (placed_of t)); placed = c + length (placed_of t) };
    taken = n + length t;
  }

  stopped : (ps : List Place) (o : List ℕ) (c n : ℕ) → record { marks = record { places = codes_of ps; order = o; placed = c }; taken = n } ≡ told [] ps o c n
  unfolding placed_of foldl
  stopped ps o c n =
      let p : c ≡ c + 0 = omega arith in
      let m : n ≡ n + 0 = omega arith in
      λ j. record { marks = record { places = codes_of ps; order = o; placed = p j }; taken = m j }

  tells : (k : ℕ) (ws : List Entry) (ps : List Place) (o : List ℕ) (c n : ℕ)
      → drained k children (map item_of ws) (record { places = codes_of ps; order = o; placed = c }) n ≡ told (walk k children ws ps) ps o c n
  unfolding drained walk placed_of foldl take_one
  tells zero ws ps o c n = stopped ps o c n
  tells (suc k) [] ps o c n = stopped ps o c n
  tells (suc k) (e ∷ rest) ps o c n = (λ j. from (tells-free ps e.node j)) ∙ go (free ps e.node) (tells k)
    where
      now : Marks
      now = record { places = codes_of ps; order = o; placed = c }

      from : Bool → Ended
      from b =
          let s : State = pick b (placed children (item_of e) (map item_of rest) now) (dropped (map item_of rest) now) in
          drained k children s.stack s.marks (n + 1)

      go : (b : Bool)
          → ((ws : List Entry) (qs : List Place) (o : List ℕ) (c n : ℕ)
          → drained k children (map item_of ws) (record { places = codes_of qs; order = o; placed = c }) n ≡ told (walk k children ws qs) qs o c n)
          → from b ≡ told
          (record { entry = e; placed = b } ∷ walk k children (pick b (listed (below e.node) (children e.node) ++ rest) rest) (pick b (set ps e.node e.place) ps)) ps o c n
      go true later =
          let ws : List Entry = listed (below e.node) (children e.node) ++ rest in
          let qs : List Place = set ps e.node e.place in
          let t : List Taken = walk k children ws qs in
          let p : c + 1 + length (placed_of t) ≡ c + suc (length (placed_of t)) = omega arith in
          let m : n + 1 + length t ≡ n + suc (length t) = omega arith in
          (λ j. drained k children (items-listed (below e.node) (children e.node) rest j) (record { places = codes-set ps e.node e.place j; order = set o c e.node; placed = c + 1 }) (n + 1))
          ∙ later ws qs (set o c e.node) (c + 1) (n + 1)
          ∙ (λ j. record { marks = record { places = codes_of (places_from qs (placed_of t)); order = sets (set o c e.node) (add-one c j) (map node_of (placed_of t)); placed = p j }; taken = m j })
      go false later =
          let t : List Taken = walk k children rest ps in
          let m : n + 1 + length t ≡ n + suc (length t) = omega arith in
          later rest ps o c (n + 1)
          ∙ (λ j. record { marks = record { places = codes_of (places_from ps (placed_of t)); order = sets o c (map node_of (placed_of t)); placed = c + length (placed_of t) }; taken = m j })

-- ---- a run from the roots

trace-is : (ps : List Place) (roots : List ℕ) (children : ℕ → List ℕ) (total : ℕ) → (length ps ≡ 0 → ⊥) → walk (length roots + total) children (listed root roots) ps ≡ trace ps roots children total
unfolding trace
trace-is [] roots children total h = absurd (h refl)
trace-is (p ∷ ps) roots children total h = refl

none-past : (l : List ℕ) (n : ℕ) → n ≡ length l → drop n l ≡ []
none-past l n e = ap (λ (k : ℕ). drop k l) e ∙ drop-length l

module _ (s : Scene) (lent : List ℕ) (nodes : node_count s ≡ length lent) where
  abbrev steps : List Taken
  steps = trace (start s) s.roots (children_at s) (child_entries s)

  -- where there are no nodes nothing is taken
  pub walked_none : length lent ≡ 0 → (room : Change (List ℕ)) → Wiped room → (o : List ℕ) (n c : ℕ) → n ≡ 0 → c ≡ 0
      → Walked s room (record { from = lent; to = lent }) (record { from = o; to = o }) n c
  unfolding taken order trace placed_of foldl
  walked_none z room w o n c a b =
      let e : node_count s ≡ 0 = nodes ∙ z in
      let es : [] ≡ order s = λ j. placed_of (trace (replicate (sym e j) unplaced) s.roots (children_at s) (child_entries s)) in
      record {
        walk = w;
        places = no-entry lent z ∙ (λ j. codes_of (places_from (replicate (sym e j) unplaced) (es j)) ++ sym (none-past lent (node_count s) nodes) j);
        order = λ j. map node_of (es j) ++ drop (length (es j)) o;
        counted = b ∙ ap length es;
        entries = a ∙ (λ j. taken_from (sym e j) s.roots (children_at s) (es j));
      }
    where
      no-entry : (l : List ℕ) → length l ≡ 0 → l ≡ []
      no-entry [] h = refl
      no-entry (x ∷ l) h = absurd (omega arith)

  module _ (some : length lent ≡ 0 → ⊥) (cleared : List ℕ) (room : Change (List ℕ)) (top : ℕ)
      (S : Started s (record { from = lent; to = cleared }) room top) (same : length room.to ≡ length room.from)
      (o wiped left_places left_order : List ℕ) (n c : ℕ) (long : length lent ≤ length o)
      (D : Drained s (record { from = room.to; to = wiped }) top (record { places = cleared; order = o; placed = 0 })
      (record { marks = record { places = left_places; order = left_order; placed = c }; taken = n })) where
    tables : codes_of (start s) ≡ cleared
    tables = sym (codes-start (node_count s)) ∙ ap (λ (k : ℕ). replicate k 0) nodes ∙ sym S.places

    stack : map item_of (listed root s.roots) ≡ stack_of room.to top
    stack = ap (map item_of) (sym (append-nil (listed root s.roots))) ∙ sym (items-listed root s.roots []) ∙ append-nil (listed_as 1 s.roots) ∙ sym S.stack

    ended : told (children_at s) steps (start s) o 0 0 ≡ record { marks = record { places = left_places; order = left_order; placed = c }; taken = n }
    ended =
        (λ j. told (children_at s) (sym (trace-is (start s) s.roots (children_at s) (child_entries s) (λ z. some (sym nodes ∙ sym (length-replicate (node_count s) unplaced) ∙ z))) j) (start s) o 0 0)
        ∙ sym (tells (children_at s) (entries_of s) (listed root s.roots) (start s) o 0 0)
        ∙ (λ j. drained (bound s _ room top S nodes j) (children_at s) (stack j) (record { places = tables j; order = o; placed = 0 }) 0)
        ∙ D.ended

    pub walked :
        Walked s (record { from = room.from; to = wiped }) (record { from = lent; to = left_places })
        (record { from = o; to = left_order }) n c
    unfolding order
    walked =
        let count : c ≡ length (order s) = omega (arith, ap (λ (x : Ended). x.marks.placed) ended) in
        let ids : List ℕ = map node_of (order s) in
        let width : length ids ≡ length (order s) = length-map (order s) node_of in
        record {
          walk = D.walk ∙ ap (λ (k : ℕ). replicate k 0) same;
          places = (λ j. (sym ended j).marks.places) ∙ sym (append-nil (codes_of (places s))) ∙ (λ j. codes_of (places s) ++ sym (none-past lent (node_count s) nodes) j);
          order = (λ j. (sym ended j).marks.order) ∙ sets-eq ids o 0 (omega (arith, order-few s)) ∙ (λ j. ids ++ drop ((zero-add (length ids) ∙ width) j) o);
          counted = count;
          entries = omega (arith, ap (λ (x : Ended). x.taken) ended, taken-is-counted s);
        }

-- ---- the first places of a longer slice

pub of_part : (s : Scene) (lent : List ℕ) (n : ℕ) → node_count s ≡ n → n ≤ length lent
    → (left : List ℕ) (room ids : Change (List ℕ)) (k c : ℕ)
    → Walked s room (record { from = take n lent; to = left }) ids k c
    → Walked s room (record { from = lent; to = left ++ drop n lent }) ids k c
of_part s lent n e h left room ids k c w = record {
  walk = w.walk;
  places = (λ j. (w.places ∙ (λ i. codes_of (places s) ++ none-past (take n lent) (node_count s) (e ∙ sym (length-take-le n lent h)) i) ∙ append-nil (codes_of (places s))) j ++ drop (sym e j) lent);
  order = w.order;
  counted = w.counted;
  entries = w.entries;
}
