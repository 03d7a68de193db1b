-- Worlds written slot by slot in the order of placing are the model's worlds. Assumes nothing.
use mathlib.Core.Path.{◌≡◌, refl, sym, ap, ◌∙◌}
use mathlib.Core.Bool.{Bool, true, false, true≢false}
use mathlib.Core.List.{List, [], ◌∷◌, ◌++◌, map}
use mathlib.Core.Option.{Option, none, some}
use Prim.Native.Nat.{ℕ, zero, suc, ◌+◌, ◌-◌, ◌*◌, ◌≤◌, ◌<◌}
use native.Mathlib.Nat.{mul-le-mul_right, suc-mul}
use native.Mathlib.Omega.{arith}
use borrow.Author.Tests.{le-ltb, le-leb, eqb-true, eqb-false}
use lib.Dec.{eqb}
use lib.Ieee.{Float}
use lib.ListN.{length, get_or, set, replicate, length-set, length-append, length-map}
use lib.Seq.{paste, get_or-set_same, get_or-set_other}
use Rattle.float.specs.F32.{zero32}
use Rattle.model.specs.Lists.{pick, foldl, is_some, or_else, part}
use Rattle.model.specs.Matrix.{Matrix, identity, mul}
use Rattle.model.specs.Placing.{Place, unplaced, root, below, Entry, is_free, free}
use Rattle.model.specs.World.{above, place_one, worlds_from}
use Rattle.model.specs.Agree.{Each}
use Rattle.model.proofs.RowLaws.{flat, Rows, flat-length, row-of-flat, set-row, product-length}
use Rattle.model.proofs.Walking.{Stands, InTurn}
use Rattle.model.proofs.Paths.{free-in-range}
use Rattle.scene.specs.Slots.{matrix_in, fits_at}
use Rattle.tables.specs.Codes.{code_of}
use Rattle.worlds.specs.Slots.{slot_of, slots_of, above_in, placed_in}

-- ---- lists
map-set : {A B : Type 0} (f : A → B) (l : List A) (i : ℕ) (x : A) → map f (set l i x) ≡ set (map f l) i (f x)
map-set f [] i x = refl
map-set f (y ∷ l) zero x = refl
map-set f (y ∷ l) (suc i) x = ap (λ m. f y ∷ m) (map-set f l i x)

pub get_d_map : {A B : Type 0} (f : A → B) (l : List A) (i : ℕ) (d : A) (e : B) → i < length l → get_or (map f l) i e ≡ f (get_or l i d)
get_d_map f [] i d e h = absurd (omega arith)
get_d_map f (y ∷ l) zero d e h = refl
get_d_map f (y ∷ l) (suc i) d e h = get_d_map f l i d e (omega arith)

-- ---- slots of sixteen numbers
pub rows-set : (ws : List (Option Matrix)) (i : ℕ) (m : Matrix) → length m ≡ 16 → Rows 16 (map slot_of ws) → Rows 16 (map slot_of (set ws i (some m)))
rows-set [] i m e h = tt
rows-set (w ∷ ws) zero m e h = (e, h.1)
rows-set (w ∷ ws) (suc i) m e h = (h.0, rows-set ws i m e h.1)

pub rows-zero : (n : ℕ) → Rows 16 (map slot_of (replicate n none))
rows-zero zero = tt
rows-zero (suc n) = (refl, rows-zero n)

-- every node that is placed has a world
abbrev pub Having : List Place → List (Option Matrix) → Type 0
Having ps ws = (p : ℕ) → is_free (get_or ps p unplaced) ≡ false → is_some (get_or ws p none) ≡ true

there-length : (ws : List (Option Matrix)) (p : ℕ) → is_some (get_or ws p none) ≡ true → p < length ws
there-length [] p h = absurd (true≢false (sym h))
there-length (w ∷ ws) zero h = omega arith
there-length (w ∷ ws) (suc p) h = let r = there-length ws p h in omega arith

same-default : (o : Option Matrix) (a b : Matrix) → is_some o ≡ true → or_else o a ≡ or_else o b
same-default none a b h = absurd (true≢false (sym h))
same-default (some m) a b h = refl

having-next : (ps : List Place) (ws : List (Option Matrix)) (x : ℕ) (q : Place) (m : Matrix) → length ws ≡ length ps → x < length ps → Having ps ws → Having (set ps x q) (set ws x (some m))
having-next ps ws x q m e b h p f = go (eqb p x) refl
  where
    go : (c : Bool) → eqb p x ≡ c → is_some (get_or (set ws x (some m)) p none) ≡ true
    go true g =
        let s : p ≡ x = eqb-true p x g in
        ap (λ (k : ℕ). is_some (get_or (set ws x (some m)) k none)) s ∙ ap is_some (get_or-set_same ws x (some m) none (omega (arith, e)))
    go false g =
        let n = eqb-false p x g in
        ap is_some (get_or-set_other ws x p (some m) none n) ∙ h p (sym (ap is_free (get_or-set_other ps x p q unplaced n)) ∙ f)

-- ---- one node
module _ (ws : List (Option Matrix)) (rest : List Float) (r : Rows 16 (map slot_of ws)) where
  slots : List Float
  slots = slots_of ws ++ rest

  inside : (i : ℕ) → i < length ws → i * 16 + 16 ≤ length slots
  unfolding slots
  inside i b =
      let n = length-map ws slot_of in
      let l = flat-length 16 (map slot_of ws) r in
      omega (arith, length-append (slots_of ws) rest, l, n, suc-mul i 16, mul-le-mul_right 16 b)

  fits : (i : ℕ) → i < length ws → fits_at slots (i * 16) ≡ true
  fits i b = le-leb (i * 16 + 16) (length slots) (inside i b)

  read : (i : ℕ) → i < length ws → matrix_in slots (i * 16) ≡ slot_of (get_or ws i none)
  unfolding matrix_in slots
  read i b =
      let n = length-map ws slot_of in
      ap (λ (c : Bool). pick c (part slots (i * 16) 16) (replicate 16 zero32)) (fits i b)
      ∙ row-of-flat 16 (map slot_of ws) rest i r (omega (arith, n))
      ∙ get_d_map slot_of ws i none [] b

  above-alike : (ps : List Place) (q : Place) → Stands ps q → Having ps ws → above_in slots (code_of q) ≡ above ws q
  above-alike ps unplaced h g = absurd h
  above-alike ps root h g = refl
  above-alike ps (below p) h g =
      let o : p + 3 - 3 ≡ p = omega arith in
      ap (λ (c : Bool). pick c identity (matrix_in slots ((p + 3 - 3) * 16))) (le-ltb (p + 3) 3 (omega arith))
      ∙ ap (λ (k : ℕ). matrix_in slots (k * 16)) o
      ∙ read p (there-length ws p (g p h))
      ∙ same-default (get_or ws p none) (replicate 16 zero32) identity (g p h)

  step : (local : ℕ → Matrix) (codes : List ℕ) (ps : List Place) (e : Entry) → length ws ≡ length ps → free ps e.node ≡ true → Stands ps e.place → Having ps ws
      → get_or codes e.node 0 ≡ code_of e.place → placed_in local codes slots e.node ≡ slots_of (place_one local ws e) ++ rest
  unfolding slots
  step local codes ps e n f h g c =
      let b : e.node < length ws = omega (arith, n, free-in-range ps e.node f) in
      let m = mul (above ws e.place) (local e.node) in
      let k = length-map ws slot_of in
      ap (λ (t : Bool). pick t (paste slots (e.node * 16) (mul (above_in slots (get_or codes e.node 0)) (local e.node)) 16) slots) (fits e.node b)
      ∙ ap (λ (a : Matrix). paste slots (e.node * 16) (mul a (local e.node)) 16) (ap (above_in slots) c ∙ above-alike ps e.place h g)
      ∙ set-row 16 (map slot_of ws) rest e.node m r (product-length _ _) (omega (arith, k))
      ∙ ap (λ (l : List (List Float)). flat l ++ rest) (sym (map-set slot_of ws e.node (some m)))

-- the codes tell the place of every entry
abbrev pub Told : List ℕ → List Entry → Type 0
Told codes es = Each (λ (e : Entry). get_or codes e.node 0 ≡ code_of e.place) es

-- ---- all of them
pub placed-slots : (local : ℕ → Matrix) (codes : List ℕ) (rest : List Float) (es : List Entry) (ps : List Place) (ws : List (Option Matrix))
    → Rows 16 (map slot_of ws) → length ws ≡ length ps → InTurn ps es → Having ps ws → Told codes es
    → foldl (placed_in local codes) (slots_of ws ++ rest) (map (λ (e : Entry). e.node) es) ≡ slots_of (worlds_from local ws es) ++ rest
unfolding foldl slots
placed-slots local codes rest [] ps ws r n t h c = refl
placed-slots local codes rest (e ∷ es) ps ws r n t h c =
    let m = mul (above ws e.place) (local e.node) in
    ap (λ (s : List Float). foldl (placed_in local codes) s (map (λ (e : Entry). e.node) es)) (step ws rest r local codes ps e n t.0 t.1 h c.0)
    ∙ placed-slots local codes rest es (set ps e.node e.place) (place_one local ws e)
    (rows-set ws e.node m (product-length _ _) r)
    (length-set ws e.node (some m) ∙ n ∙ sym (length-set ps e.node e.place))
    t.2
    (having-next ps ws e.node e.place m n (free-in-range ps e.node t.0) h)
    c.1
