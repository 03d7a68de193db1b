-- A line of items that is put together in an array, and vertices put line by line. Assumes nothing.
use mathlib.Core.Path.{◌≡◌, refl, sym, ap, ◌∙◌}
use mathlib.Core.List.{List, [], ◌∷◌, ◌++◌}
use Prim.Native.Nat.{ℕ, ◌-◌, ◌*◌, ◌≤◌}
use native.Mathlib.Omega.{arith}
use lib.Ieee.{Float, binary32, to_bits}
use lib.ListN.{length, get_or, take, drop, replicate, length-append, length-drop}
use lib.Seq.{take_all}
use Rattle.grammar.specs.Digits.{numbers, floats, digits_of}
use Rattle.spelling.specs.Pushed.{Out, out_at, pushes}
use Rattle.spelling.proofs.DigitLaws.{last-length, digits-few}
use Rattle.spelling.proofs.Pushing.{Filled, filled, put-append, pushes-append, going-length}
use Rattle.printing.specs.Lines.{bits_text, vertex_text, vertices_text, number_text}

-- ---- a line

-- what is behind the first n
rest_all : {A : Type 0} (n : ℕ) (l : List A) {m : ℕ} → m ≡ length l - n → take m (drop n l) ≡ drop n l
rest_all n l {m} e = take_all m (drop n l) (omega (arith, e, length-drop n l))

pub line-put : (items : List ℕ) (lent : Out) {m : ℕ} {mid left : Out} → m ≡ length items - 1
    → mid ≡ pushes (take m (drop 1 items)) lent → left ≡ pushes (10 ∷ []) mid
    → left ≡ pushes (drop 1 items ++ 10 ∷ []) lent
line-put items lent e p q =
    put-append (drop 1 items) (10 ∷ []) lent (p ∙ ap (λ (l : List ℕ). pushes l lent) (rest_all 1 items e)) q

pub put-length : (bs : List ℕ) (lent : Out) {left : Out} → left ≡ pushes bs lent
    → length left.bytes ≡ length lent.bytes
unfolding pushes
put-length bs lent {left} e = going-length [] bs left lent e

-- ---- a vertex

-- the items of a line: a space before each
abbrev item_of : List ℕ → List ℕ
item_of ds = 32 ∷ ds

abbrev pub three_items : Float → Float → Float → List ℕ
three_items x y z = item_of (bits_text x) ++ item_of (bits_text y) ++ item_of (bits_text z)

-- the item of a float with these bits
abbrev bits : ℕ → List ℕ
bits n = item_of (digits_of floats n)

pub vertex-filled : (x y z : Float) {a b c p q r : ℕ} {one two three : List ℕ}
    → p ≡ to_bits binary32 x → q ≡ to_bits binary32 y → r ≡ to_bits binary32 z
    → out_at one a ≡ pushes (bits p) (out_at (replicate 32 0) 0)
    → out_at two b ≡ pushes (bits q) (out_at one a)
    → out_at three c ≡ pushes (bits r) (out_at two b)
    → Filled (three_items x y z) three c
vertex-filled x y z {c = c} {p = p} {q = q} {r = r} {three = three} i j k f g h =
    let zeros = out_at (replicate 32 0) 0 in
    let all = put-append (bits p ++ bits q) (bits r) zeros (put-append (bits p) (bits q) zeros f g) h in
    let is : bits p ++ bits q ++ bits r ≡ three_items x y z = λ t. bits (i t) ++ bits (j t) ++ bits (k t) in
    filled 32 (three_items x y z) three c (omega arith)
    (omega (
      arith,
      last-length 16 8 (to_bits binary32 x),
      last-length 16 8 (to_bits binary32 y),
      last-length 16 8 (to_bits binary32 z),
      length-append (item_of (bits_text x) ++ item_of (bits_text y)) (item_of (bits_text z)),
      length-append (item_of (bits_text x)) (item_of (bits_text y)),
    )) (omega arith) (all ∙ ap (λ (bs : List ℕ). pushes bs zeros) is)

-- ---- vertices

pub vertex-next : (d : Float) (ps : List Float) (mid : Out) {m : ℕ} {left all : Out} → 3 ≤ length ps
    → m ≡ length ps - 3
    → left ≡ pushes (vertex_text (get_or ps 0 d) (get_or ps 1 d) (get_or ps 2 d)) mid
    → pushes (vertices_text ps) mid ≡ all → pushes (vertices_text (take m (drop 3 ps))) left ≡ all
unfolding vertices_text
vertex-next d (x ∷ y ∷ z ∷ ps) mid {m} {left} h n p e =
    ap (λ (l : List Float). pushes (vertices_text l) left) (rest_all 3 (x ∷ y ∷ z ∷ ps) n)
    ∙ ap (pushes (vertices_text ps)) p ∙ sym (pushes-append (vertex_text x y z) (vertices_text ps) mid) ∙ e
vertex-next d (x ∷ y ∷ []) mid h n p e = absurd (omega arith)
vertex-next d (x ∷ []) mid h n p e = absurd (omega arith)
vertex-next d [] mid h n p e = absurd (omega arith)

short_none : (ps : List Float) → length ps ≤ 2 → vertices_text ps ≡ []
unfolding vertices_text
short_none [] h = refl
short_none (x ∷ []) h = refl
short_none (x ∷ y ∷ []) h = refl
short_none (x ∷ y ∷ z ∷ ps) h = absurd (omega arith)

pub vertices-done : (ps : List Float) (lent left : Out) → length ps ≤ 2 → pushes (vertices_text ps) left ≡ lent
    → left ≡ lent
unfolding pushes
vertices-done ps lent left h e = sym (ap (λ (bs : List ℕ). pushes bs left) (short_none ps h)) ∙ e

-- ---- how many bytes

pub number-few : (n : ℕ) → length (number_text n) ≤ 11
number-few n =
    omega (arith, length-append (digits_of numbers n) (10 ∷ []), digits-few numbers n)

-- nine a float
pub vertices-few : (ps : List Float) → length (vertices_text ps) ≤ 9 * length ps
unfolding vertices_text
vertices-few [] = omega arith
vertices-few (x ∷ []) = omega arith
vertices-few (x ∷ y ∷ []) = omega arith
vertices-few (x ∷ y ∷ z ∷ ps) =
    let xy = bits_text x ++ item_of (bits_text y) in
    let xyz = xy ++ item_of (bits_text z) in
    omega (
      arith,
      vertices-few ps,
      length-append (vertex_text x y z) (vertices_text ps),
      length-append xyz (10 ∷ []),
      length-append xy (item_of (bits_text z)),
      length-append (bits_text x) (item_of (bits_text y)),
      last-length 16 8 (to_bits binary32 x),
      last-length 16 8 (to_bits binary32 y),
      last-length 16 8 (to_bits binary32 z),
    )
