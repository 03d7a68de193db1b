-- Vectors that lie one after the other. Assumes nothing.
use mathlib.Core.Path.{◌≡◌, sym, ap, ◌∙◌}
use mathlib.Core.Bool.{true}
use mathlib.Core.List.{List, ◌++◌, map, append_assoc}
use Prim.Native.Nat.{ℕ, ◌+◌, ◌*◌, ◌≤◌, ◌<◌}
use native.Mathlib.Omega.{arith}
use borrow.Author.Count.{below_none, below_more}
use lib.Ieee.{Float, nan, binary32, lt}
use lib.Ieee.Scale.{finite}
use lib.ListN.{length, get_or, set, take, drop, take-append-drop, length-drop, length-set}
use lib.Seq.{paste, ext_get_or, take_all, take_at, drop_at, drop-drop, drop-paste, take-append-le, drop-append-le, length-take-le}
use Rattle.float.specs.F32.{zero32}
use Rattle.float.specs.Sqrt.{sqrt_of}
use Rattle.square_root.specs.Normal.{is_normal, all_normal}
use Rattle.square_root.proofs.Normals.{normal-root, each-normal}
use Rattle.square_root.proofs.Lanes.{set_next}
use Rattle.model.specs.Lists.{part, row}
use Rattle.model.specs.Vector.{Vector, dot, norm}
use Rattle.model.proofs.ListLaws.{length-tabulate, get_d_tabulate}
use Rattle.model.proofs.Rowwise.{map-tabulate}
use Rattle.transform.specs.Blocks.{Packed, squares_of, lengths_of}

-- ---- a part that is pasted, and those before it
front : (p q : List Float) (i n : ℕ) → i + n ≤ length p → part (p ++ q) i n ≡ part p i n
front p q i n h = ap (take n) (drop-append-le i p q (omega arith)) ∙ take-append-le n (drop i p) q (omega (arith, length-drop i p))

module _ (d : List Float) (at : ℕ) (x : Vector) (w : ℕ) (within : at ≤ length d) where
  pub part-before : (i n : ℕ) → i + n ≤ at → part (paste d at x w) i n ≡ part d i n
  part-before i n h =
      let b : i + n ≤ length (take at d) = omega (arith, length-take-le at d within) in
      ap (λ (l : List Float). part l i n) (append_assoc (take at d) (take w x) (drop (at + w) d))
      ∙ front (take at d) (take w x ++ drop (at + w) d) i n b
      ∙ sym (front (take at d) (drop at d) i n b)
      ∙ ap (λ (l : List Float). part l i n) (take-append-drop at d)

  pub part-here : length x ≡ w → part (paste d at x w) at w ≡ x
  part-here e =
      ap (λ (l : List Float). part l at w) (append_assoc (take at d) (take w x) (drop (at + w) d))
      ∙ ap (take w) (drop_at (take at d) (take w x ++ drop (at + w) d) at (length-take-le at d within))
      ∙ take_at (take w x) (drop (at + w) d) w (length-take-le w x (omega arith))
      ∙ take_all w x (omega arith)

-- ---- one vector more
pub packed_none : (f : ℕ → Vector) (d : List Float) → Packed 0 f d
packed_none f d = record { each = below_none (λ i. row 3 d i ≡ f i) }

pub packed_more : (n : ℕ) (f : ℕ → Vector) (d left : List Float) (x : Vector) → n * 3 ≤ length d → length x ≡ 3 → Packed n f d → left ≡ paste d (n * 3) x 3 → x ≡ f n → Packed (n + 1) f left
packed_more n f d left x h e p q v = record {
  each =
      below_more (λ i. row 3 left i ≡ f i) n
      (λ i b. ap (λ (l : List Float). row 3 l i) q ∙ part-before d (n * 3) x 3 h (i * 3) 3 (omega arith) ∙ p.each i b)
      (ap (λ (l : List Float). row 3 l n) q ∙ part-here d (n * 3) x 3 h e ∙ v);
}

-- the vectors behind it stay
pub rest-after : (n : ℕ) (d₀ d left : List Float) (x : Vector) → n * 3 + 3 ≤ length d → length x ≡ 3 → drop (n * 3) d ≡ drop (n * 3) d₀ → left ≡ paste d (n * 3) x 3 → drop ((n + 1) * 3) left ≡ drop ((n + 1) * 3) d₀
rest-after n d₀ d left x h e s q =
    let z : (n + 1) * 3 ≡ n * 3 + 3 = omega arith in
    (λ j. drop (z j) (q j))
    ∙ drop-paste d (n * 3) x 3 (omega arith) (omega arith)
    ∙ sym (drop-drop 3 (n * 3) d)
    ∙ ap (drop 3) s
    ∙ drop-drop 3 (n * 3) d₀
    ∙ ap (λ (y : ℕ). drop y d₀) (sym z)

pub all-packed : (n : ℕ) (f : ℕ → Vector) (d : List Float) → 16 ≤ n → Packed n f d → Packed 16 f d
all-packed n f d h p = record { each = λ i b. p.each i (omega arith) }

-- ---- their lengths
module _ (d : List Float) where
  pub squares-count : length (squares_of d) ≡ 16
  unfolding squares_of
  squares-count = length-tabulate 16 _

  pub square-at : (i : ℕ) → i < 16 → get_or (squares_of d) i nan ≡ dot (row 3 d i) (row 3 d i)
  unfolding squares_of
  square-at i h = get_d_tabulate 16 _ i nan h

  length_at : (i : ℕ) → i < 16 → get_or (lengths_of d) i nan ≡ norm (row 3 d i)
  unfolding lengths_of
  length_at i h = get_d_tabulate 16 _ i nan h

  roots-of : map (sqrt_of binary32) (squares_of d) ≡ lengths_of d
  unfolding squares_of lengths_of norm
  roots-of = map-tabulate 16 (sqrt_of binary32) (λ i. dot (row 3 d i) (row 3 d i))

  pub lengths-taken : (b n : List Float) → b ≡ squares_of d → n ≡ map (sqrt_of binary32) b → n ≡ lengths_of d
  lengths-taken b n s r = r ∙ ap (map (sqrt_of binary32)) s ∙ roots-of

  pub number_at : (n : List Float) → n ≡ lengths_of d → (i : ℕ) → i < 16 → get_or n i nan ≡ norm (row 3 d i)
  number_at n e i h = ap (λ (l : List Float). get_or l i nan) e ∙ length_at i h

  -- where the squares are normal
  pub root-at : (b : List Float) → b ≡ squares_of d → all_normal b ≡ true → (i : ℕ) → i < 16 → (finite (norm (row 3 d i)) ≡ true) × (lt zero32 (norm (row 3 d i)) ≡ true)
  unfolding norm
  root-at b e t i h =
      let v = row 3 d i in
      let s : get_or b i nan ≡ dot v v = ap (λ (l : List Float). get_or l i nan) e ∙ square-at i h in
      let n : length b ≡ 16 = ap length e ∙ squares-count in
      normal-root (dot v v) (ap is_normal (sym s) ∙ each-normal b t i (omega arith))

-- ---- vectors that are written with the squares of their lengths
abbrev pub Measured : ℕ → (ℕ → Vector) → List Float → List Float → Type 0
Measured n f d out = (length out ≡ 16) × Packed n f d × ((i : ℕ) → i < n → get_or out i nan ≡ dot (f i) (f i))

pub measured-more : (n : ℕ) (f : ℕ → Vector) (d left out : List Float) (x : Vector) (y : Float) → n < 16 → n * 3 ≤ length d → length x ≡ 3 → Measured n f d out → left ≡ paste d (n * 3) x 3 → x ≡ f n → y ≡ dot x x → Measured (n + 1) f left (set out n y)
measured-more n f d left out x y b h e m q v s = (
  length-set out n y ∙ m.0,
  packed_more n f d left x h e m.1 q v,
  set_next (λ i z. z ≡ dot (f i) (f i)) out n y nan (omega (arith, m.0)) m.2 (s ∙ (λ j. dot (v j) (v j))),
)

pub measured-all : (n : ℕ) (f : ℕ → Vector) (d out : List Float) → 16 ≤ n → Measured n f d out → Packed 16 f d × (out ≡ squares_of d)
measured-all n f d out h m =
    let p = all-packed n f d h m.1 in (
      p,
      ext_get_or nan out (squares_of d) (m.0 ∙ sym (squares-count d))
          (λ i g.
          let b : i < 16 = omega (arith, m.0) in
          let e = p.each i b in
          m.2 i (omega arith) ∙ sym (λ j. dot (e j) (e j)) ∙ sym (square-at d i b)),
    )
