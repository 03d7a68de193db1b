-- Fields in numbers: one read or set, of some the first that is there, and how many are. Assumes nothing.
use mathlib.Core.Path.{◌≡◌, refl}
use mathlib.Core.List.{List, [], ◌∷◌}
use Prim.Native.Nat.{ℕ, suc, ◌+◌, ◌-◌, ◌≤◌, ◌<◌}
use native.Mathlib.Nat.{zero-add, add-zero, sub-zero}
use native.Mathlib.Omega.{arith}
use borrow.Author.Tests.{eq-eqb, ne_eqb}
use lib.Dec.{eqb}
use lib.ListN.{length}
use lib.Seq.{sets, set_out}
use Rattle.model.specs.Lists.{pick}
use Rattle.scene_marks.specs.declared.Mark.{Mark}
use Rattle.scene_marks.specs.Marks.{mark_at, chosen, present_from}

-- ---- words past the end
pub sets-out : (l : List ℕ) (k : ℕ) (xs : List ℕ) → length l ≤ k → l ≡ sets l k xs
sets-out l k [] h = refl
sets-out l k (x ∷ xs) h = rw (set_out l k x) (sets-out l (suc k) xs (omega arith))

-- ---- the first that is there
chosen-turn : (marks : List Mark) (a n i : ℕ) {m : Mark} → i < n → m ≡ mark_at marks (a + i) → chosen marks (a + i) (n - i)
    ≡ pick (eqb m.there 0) (suc (chosen marks (a + (i + 1)) (n - (i + 1)))) 0
unfolding chosen
chosen-turn marks a n i h e =
    let t : n - i ≡ suc (n - (i + 1)) = omega arith in
    let u : a + i + 1 ≡ a + (i + 1) = omega arith in
    rw (t, u, e)

-- what is still to be looked at makes up what was to be looked at
pub record Choosing (marks : List Mark) (a n i : ℕ) : Type 0 where
  same : i + chosen marks (a + i) (n - i) ≡ chosen marks a n
  pub few : i ≤ n

module _ {marks : List Mark} {a n : ℕ} where
  pub choosing-starts : Choosing marks a n 0
  choosing-starts = record { same = simp (zero-add, add-zero, sub-zero); few = omega arith }

  module _ {i : ℕ} (g : Choosing marks a n i) where
    pub choosing-on : {m : Mark} → i < n → m ≡ mark_at marks (a + i) → m.there ≡ 0 → Choosing marks a n (i + 1)
    choosing-on h e z =
        let turn = simp (eq-eqb _ 0 z) at (chosen-turn marks a n i h e) in
        record { same = omega arith; few = omega arith }

    pub choosing-found : {m : Mark} → i < n → m ≡ mark_at marks (a + i) → (m.there ≡ 0 → ⊥) → i ≡ chosen marks a n
    choosing-found h e d = let turn = simp (ne_eqb _ 0 d) at (chosen-turn marks a n i h e) in omega arith

    pub choosing-ends : n ≤ i → n ≡ chosen marks a n
    unfolding chosen
    choosing-ends h = let none : n - i ≡ 0 = omega arith in omega (arith, g.few, rw none at g.same)

-- ---- how many are there
present-turn : (marks : List Mark) (j n i : ℕ) {m : Mark} → i < n → m ≡ mark_at marks (j + i)
    → present_from (n - i) (j + i) marks
    ≡ pick (eqb m.there 0) 0 1 + present_from (n - (i + 1)) (j + (i + 1)) marks
unfolding present_from
present-turn marks j n i h e =
    let t : n - i ≡ suc (n - (i + 1)) = omega arith in
    let u : j + i + 1 ≡ j + (i + 1) = omega arith in
    rw (t, u, e)

-- what is still to be counted makes up what was to be counted
pub record Counting (marks : List Mark) (j n count i : ℕ) : Type 0 where
  same : count + present_from (n - i) (j + i) marks ≡ present_from n j marks
  pub few : count ≤ i
  pub inside : i ≤ n

module _ {marks : List Mark} {j n : ℕ} where
  pub counting-starts : Counting marks j n 0 0
  counting-starts =
      record { same = simp (zero-add, add-zero, sub-zero); few = omega arith; inside = omega arith }

  module _ {count i : ℕ} (g : Counting marks j n count i) where
    pub counting-on : {m : Mark} {d : ℕ} → i < n → m ≡ mark_at marks (j + i) → m.there ≡ 0 → d ≡ count
        → Counting marks j n d (i + 1)
    counting-on h e z q =
        let turn = simp (eq-eqb _ 0 z) at (present-turn marks j n i h e) in
        record { same = omega arith; few = omega arith; inside = omega arith }

    pub counting_more : {m : Mark} {d : ℕ} → i < n → m ≡ mark_at marks (j + i) → (m.there ≡ 0 → ⊥) → d ≡ count + 1
        → Counting marks j n d (i + 1)
    counting_more h e f q =
        let turn = simp (ne_eqb _ 0 f) at (present-turn marks j n i h e) in
        record { same = omega arith; few = omega arith; inside = omega arith }

    pub counting-ends : n ≤ i → count ≡ present_from n j marks
    unfolding present_from
    counting-ends h = let none : n - i ≡ 0 = omega arith in omega (arith, rw none at g.same)
