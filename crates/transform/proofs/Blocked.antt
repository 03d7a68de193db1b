-- Directions turned in blocks: rows that are changed from one on, and the floats that a row begins with. Assumes nothing.
use mathlib.Core.Path.{◌≡◌, refl, sym, ap, ◌∙◌}
use mathlib.Core.Bool.{Bool, true, false}
use mathlib.Core.Option.{Option}
use mathlib.Core.List.{List, ◌++◌, map, append_assoc}
use Prim.Native.Nat.{ℕ, zero, suc, ◌+◌, ◌-◌, ◌*◌, ◌/◌, ◌≤◌, ◌<◌}
use native.Mathlib.Nat.{suc-mul, mul-le-mul_right, div-mul-le_self, le-div_iff_mul-le, add-zero}
use native.Mathlib.Numerals.{add-one}
use native.Mathlib.Omega.{arith}
use borrow.Author.Tests.{ltb-true}
use lib.Dec.{ltb}
use lib.Ieee.{Float, nan, binary32}
use lib.ListN.{length, get_or, take, drop, take-append-drop, length-append, length-take, length-drop}
use lib.Seq.{paste, take_all, take-take, drop-drop, drop-paste, drop-append-le}
use Rattle.float.specs.Sqrt.{sqrt_of}
use Rattle.square_root.specs.Normal.{all_normal}
use Rattle.model.specs.Lists.{pick, or_else, part, row, rows_in}
use Rattle.model.specs.Vector.{Vector, over, norm, normalized}
use Rattle.model.specs.Matrix.{turned}
use Rattle.model.specs.Vertices.{turned_unit}
use Rattle.model.specs.Attributes.{over_rows}
use Rattle.model.proofs.Rowwise.{row_ends, row-length}
use Rattle.vertex_rows.specs.Rows.{row_changed, first_rows}
use Rattle.transform.specs.Blocks.{xyz_turned, begun, unit_over, rows_from, Packed, squares_of}
use Rattle.scene.proofs.Lengths.{has-length}
use Rattle.transform.proofs.Packing.{lengths-taken, number_at, root-at}
use Rattle.vertex_rows.proofs.RowSteps.{row-changed, each-done}
use Rattle.vertex_rows.proofs.RowLengths.{unit-length}

-- ---- one row
pub row-alike : (w : ℕ) (f g : Vector → Vector) (k : ℕ) (l : List Float) → f (row w l k) ≡ g (row w l k) → row_changed w f k l ≡ row_changed w g k l
unfolding row_changed
row-alike w f g k l h = ap (λ (r : Vector). pick (ltb k (length l / w)) (paste l (k * w) r w) l) h

-- ---- rows and the floats that they begin with
pub in_block : (w k i n : ℕ) → i < 16 → (k + 16) * w ≤ n → (k + i) * w + w ≤ n
in_block w k i n h b =
    let c : suc (k + i) ≤ k + 16 = omega arith in
    omega (arith, suc-mul (k + i) w, mul-le-mul_right w c)

pub has-row : (w j n : ℕ) → 0 < w → j * w + w ≤ n → j < n / w
has-row w j n p h =
    let c : suc j * w ≤ n = omega (arith, suc-mul j w) in
    (le-div_iff_mul-le p).1 c

front-pasted : (w : ℕ) (l : List Float) (at : ℕ) (u : Vector) → length u ≡ 3 → 3 ≤ w → at + w ≤ length l → paste l at u 3 ≡ paste l at (u ++ drop 3 (part l at w)) w
front-pasted w l at u e h b =
    let x = drop at l in
    let n : length (take w x) ≡ w = omega (arith, length-take w x, length-drop at l) in
    let c : length (u ++ drop 3 (take w x)) ≡ w = omega (arith, length-append u (drop 3 (take w x)), length-drop 3 (take w x)) in
    let r : drop (at + 3) l ≡ drop 3 (take w x) ++ drop (at + w) l
    = sym (drop-drop 3 at l) ∙ ap (drop 3) (sym (take-append-drop w x)) ∙ drop-append-le 3 (take w x) (drop w x) (omega arith) ∙ ap (λ (y : List Float). drop 3 (take w x) ++ y) (drop-drop w at l) in
    (λ j. take at l ++ take_all 3 u (omega arith) j ++ r j)
    ∙ sym (append_assoc (take at l ++ u) (drop 3 (take w x)) (drop (at + w) l))
    ∙ ap (λ (y : List Float). y ++ drop (at + w) l) (append_assoc (take at l) u (drop 3 (take w x)))
    ∙ (λ j. take at l ++ sym (take_all w (u ++ drop 3 (take w x)) (omega arith)) j ++ drop (at + w) l)

-- a row whose first three floats are replaced
pub row-begun : (w k : ℕ) (l left : List Float) (x : Vector) → 3 ≤ w → k < length l / w → length x ≡ 3 → left ≡ paste l (k * w) x 3 → left ≡ row_changed w (begun x) k l
unfolding begun
row-begun w k l left x h b n e = row-changed w (begun x) k l left (begun x (row w l k)) (row w l k) b (e ∙ front-pasted w l (k * w) x n h (row_ends w l k b)) refl refl

-- by a unit vector u, which is that of d, if it has one
pub row-unit : (w k : ℕ) (l left : List Float) (d u v : Vector) → 3 ≤ w → k < length l / w → length u ≡ 3 → v ≡ part l (k * w) 3 → u ≡ or_else (normalized d) v → left ≡ paste l (k * w) u 3
    → left ≡ row_changed w (unit_over d) k l
unfolding unit_over
row-unit w k l left d u v h b n p e q =
    row-begun w k l left u h b n q
    ∙ row-alike w (begun u) (unit_over d) k l
    (ap (λ (x : Vector). begun x (row w l k)) (e ∙ ap (or_else (normalized d)) (p ∙ sym (take-take 3 w (drop (k * w) l) h))))

-- the direction that a row begins with, turned
pub unit-turned : (w : ℕ) (m : List Float) (k : ℕ) (l : List Float) (d : Vector) → 3 ≤ w → d ≡ turned m (part l (k * w) 3) → unit_over d (row w l k) ≡ xyz_turned m (row w l k)
unfolding unit_over begun xyz_turned turned_unit
unit-turned w m k l d h e =
    let r = row w l k in
    ap (λ (x : Vector). or_else (normalized x) (take 3 r) ++ drop 3 r) (e ∙ ap (turned m) (sym (take-take 3 w (drop (k * w) l) h)))

pub xyz-length : (w : ℕ) (m : List Float) (v : Vector) → 3 ≤ w → length v ≡ w → length (xyz_turned m v) ≡ w
unfolding xyz_turned
xyz-length w m v h e =
    let n : length (take 3 v) ≡ 3 = omega (arith, length-take 3 v) in
    omega (arith, length-append (turned_unit m (take 3 v)) (drop 3 v), unit-length m (take 3 v) n, length-drop 3 v)

-- ---- rows from one on
-- a change leaves what lies behind it
behind : (w : ℕ) (f : Vector → Vector) → ((v : Vector) → length v ≡ w → length (f v) ≡ w) → (j m : ℕ) (l : List Float) → j < m → drop (m * w) (row_changed w f j l) ≡ drop (m * w) l
unfolding row_changed
behind w f keeps j m l h = go (ltb j (length l / w)) refl
  where
    go : (b : Bool) → ltb j (length l / w) ≡ b → drop (m * w) (pick b (paste l (j * w) (f (row w l j)) w) l) ≡ drop (m * w) l
    go false t = refl
    go true t =
        let c = ltb-true j (length l / w) t in
        let z = row_ends w l j c in
        let d = m * w - (j * w + w) in
        let e : m * w ≡ j * w + w + d = omega (arith, suc-mul j w, mul-le-mul_right w h) in
        let x = f (row w l j) in
        let n : length x ≡ w = keeps (row w l j) (row-length w l j c) in
        ap (λ (y : ℕ). drop y (paste l (j * w) x w)) e
        ∙ sym (drop-drop d (j * w + w) (paste l (j * w) x w))
        ∙ ap (drop d) (drop-paste l (j * w) x w (omega arith) (omega arith))
        ∙ drop-drop d (j * w + w) l
        ∙ ap (λ (y : ℕ). drop y l) (sym e)

module _ (w : ℕ) (g : ℕ → Vector → Vector) (keeps : (i : ℕ) (v : Vector) → length v ≡ w → length (g i v) ≡ w) (k : ℕ) (l : List Float) where
  pub ahead : (n m : ℕ) → k + n ≤ m → drop (m * w) (rows_from w g k l n) ≡ drop (m * w) l
  unfolding rows_from
  ahead zero m h = refl
  ahead (suc n) m h = behind w (g n) (keeps n) (k + n) m (rows_from w g k l n) (omega arith) ∙ ahead n m (omega arith)

  -- by a rule that agrees on the rows as lent
  pub from-lent : (f : ℕ → Vector → Vector) (n : ℕ) → ((i : ℕ) → i < n → f i (row w l (k + i)) ≡ g i (row w l (k + i))) → rows_from w f k l n ≡ rows_from w g k l n
  unfolding rows_from
  from-lent f zero h = refl
  from-lent f (suc n) h =
      let e : row w (rows_from w g k l n) (k + n) ≡ row w l (k + n) = ap (take w) (ahead n (k + n) (omega arith)) in
      ap (row_changed w (f n) (k + n)) (from-lent f n (λ i b. h i (omega arith)))
      ∙ row-alike w (f n) (g n) (k + n) (rows_from w g k l n) (ap (f n) e ∙ h n (omega arith) ∙ ap (g n) (sym e))

-- by rules that agree on all rows
pub from-alike : (w : ℕ) (f g : ℕ → Vector → Vector) (k : ℕ) (l : List Float) (n : ℕ) → ((i : ℕ) → i < n → (v : Vector) → f i v ≡ g i v) → rows_from w f k l n ≡ rows_from w g k l n
unfolding rows_from
from-alike w f g k l zero h = refl
from-alike w f g k l (suc n) h = (λ j. row_changed w (λ v. h n (omega arith) v j) (k + n) (from-alike w f g k l n (λ i b. h i (omega arith)) j))

-- sixteen directions in their rows: divided by their lengths, and turned before
pub block-units : (w k : ℕ) (l left d b n q : List Float) → b ≡ squares_of d → all_normal b ≡ true → n ≡ map (sqrt_of binary32) b
    → Packed 16 (λ i. over (row 3 d i) (get_or n i nan)) q → left ≡ rows_from w (λ i. begun (row 3 q i)) k l 16 → left ≡ rows_from w (λ i. unit_over (row 3 d i)) k l 16
unfolding unit_over
block-units w k l left d b n q s t r p e =
    e
    ∙ from-alike w _ _ k l 16
    (λ i h v.
    let m = number_at d n (lengths-taken d b n s r) i h in
    let u = root-at d b s t i h in
    ap (λ (x : Vector). begun x v) (p.each i h ∙ ap (over (row 3 d i)) m) ∙ ap (λ (o : Option Vector). begun (or_else o (take 3 v)) v) (has-length (row 3 d i) (norm (row 3 d i)) refl u.0 u.1))

pub turned-parts : (f : ℕ → Vector) (m v d : List Float) → Packed 16 f v → Packed 16 (λ i. turned m (row 3 v i)) d → Packed 16 (λ i. turned m (f i)) d
turned-parts f m v d p q = record { each = λ i b. q.each i b ∙ ap (turned m) (p.each i b) }

pub block-turned : (w : ℕ) (m : List Float) (k : ℕ) (l left d : List Float) → 3 ≤ w → Packed 16 (λ i. turned m (part l ((k + i) * w) 3)) d → left ≡ rows_from w (λ i. unit_over (row 3 d i)) k l 16 → left ≡ rows_from w (λ _. xyz_turned m) k l 16
block-turned w m k l left d h p e =
    e
    ∙ from-lent w (λ _. xyz_turned m) (λ i x. xyz-length w m x h) k l (λ i. unit_over (row 3 d i)) 16
    (λ i b. unit-turned w m (k + i) l (row 3 d i) h (p.each i b))

pub rows-joined : (w : ℕ) (f : ℕ → Vector → Vector) (l : List Float) (k n : ℕ) → rows_from w (λ i. f (k + i)) k (first_rows w f l k) n ≡ first_rows w f l (k + n)
unfolding rows_from first_rows
rows-joined w f l k zero = ap (first_rows w f l) (sym (add-zero k))
rows-joined w f l k (suc n) =
    let e : suc (k + n) ≡ k + suc n = omega arith in
    ap (row_changed w (f (k + n)) (k + n)) (rows-joined w f l k n) ∙ ap (first_rows w f l) e

pub next-from : (w : ℕ) (f : ℕ → Vector → Vector) (k : ℕ) (l here left : List Float) (i : ℕ) → left ≡ row_changed w (f i) (k + i) here → here ≡ rows_from w f k l i → left ≡ rows_from w f k l (i + 1)
unfolding rows_from
next-from w f k l here left i e h = e ∙ ap (row_changed w (f i) (k + i)) h ∙ ap (rows_from w f k l) (sym (add-one i))

pub next-block : (w : ℕ) (f : ℕ → Vector → Vector) (l here left : List Float) (b : ℕ) → left ≡ rows_from w (λ i. f (b * 16 + i)) (b * 16) here 16 → here ≡ first_rows w f l (b * 16) → left ≡ first_rows w f l ((b + 1) * 16)
next-block w f l here left b e h =
    let n : b * 16 + 16 ≡ (b + 1) * 16 = omega arith in
    e ∙ ap (λ (s : List Float). rows_from w (λ i. f (b * 16 + i)) (b * 16) s 16) h ∙ rows-joined w f l (b * 16) 16 ∙ ap (first_rows w f l) n

-- whole blocks, then the rest
pub blocks-and-rest : (w : ℕ) (m l here left : List Float) → 3 ≤ w → length here ≡ length l → here ≡ first_rows w (λ _. xyz_turned m) l (length l / w / 16 * 16)
    → left ≡ rows_from w (λ _. xyz_turned m) (length here / w / 16 * 16) here (length here / w - length here / w / 16 * 16) → left ≡ over_rows w (map (xyz_turned m) (rows_in w l)) l
blocks-and-rest w m l here left h n e r =
    let c = length l / w in
    let f = xyz_turned m in
    let s : c / 16 * 16 + (c - c / 16 * 16) ≡ c = omega (arith, div-mul-le_self c 16) in
    r
    ∙ ap (λ (x : ℕ). rows_from w (λ _. f) (x / w / 16 * 16) here (x / w - x / w / 16 * 16)) n
    ∙ ap (λ (x : List Float). rows_from w (λ _. f) (c / 16 * 16) x (c - c / 16 * 16)) e
    ∙ rows-joined w (λ _. f) l (c / 16 * 16) (c - c / 16 * 16)
    ∙ ap (first_rows w (λ _. f) l) s
    ∙ each-done w f l (λ i b. xyz-length w m (row w l i) h (row-length w l i b))
