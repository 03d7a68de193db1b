-- A `match` on a number that is a table: what an arm answers, and what the last one does. Assumes nothing.
use mathlib.Core.Path.{◌≡◌, refl, sym, ap, ◌∙◌}
use mathlib.Core.Bool.{Bool, true, false}
use mathlib.Core.List.{List}
use Prim.Native.Nat.{ℕ, zero, suc, ◌<◌, ◌/◌, ◌%◌}
use native.Mathlib.Omega.{arith}
use borrow.Author.Tests.{ltb-true, ltb-false}
use lib.Dec.{ltb}
use lib.ListN.{length, get_or, get_or-eq_default}
use Rattle.model.specs.Lists.{pick, tabulate}
use Rattle.model.proofs.ListLaws.{get_d_tabulate}
use Rattle.scene_schema.specs.Numbers.{slot_counts}

-- what is computed to be the same at each number below n
pub at_each : {A : Type 0} (n : ℕ) (f g : ℕ → A) → tabulate n f ≡ tabulate n g → (i : ℕ) → i < n → f i ≡ g i
at_each n f g e i h =
    sym (get_d_tabulate n f i (f i) h) ∙ ap (λ (l : List _). get_or l i (f i)) e ∙ get_d_tabulate n g i (f i) h

abbrev AndNot : Bool → Type 0 → Type 0 → Type 0
AndNot true P Q = P × (Q → ⊥)
AndNot false P Q = P

-- x is none of the keys below n, as the last arm knows it
abbrev pub NoKey : (ℕ → Bool) → ℕ → ℕ → Type 0
NoKey key zero x = Unit {0}
NoKey key (suc n) x = AndNot (key n) (NoKey key n x) (x ≡ n)

no_key : (key : ℕ → Bool) (n x : ℕ) → NoKey key n x → x < n → key x ≡ false
no_key key zero x w h = absurd (omega arith)
no_key key (suc n) x w h = go (key n) refl w (ltb x n) refl (no_key key n x)
  where
    go : (b : Bool) → key n ≡ b → AndNot b (NoKey key n x) (x ≡ n) → (c : Bool) → ltb x n ≡ c
        → (NoKey key n x → x < n → key x ≡ false) → key x ≡ false
    go true e w true l below = below w.0 (ltb-true x n l)
    go true e w false l below = absurd (w.1 (omega (arith, ltb-false x n l)))
    go false e w true l below = below w (ltb-true x n l)
    go false e w false l below = let z : x ≡ n = omega (arith, ltb-false x n l) in ap key z ∙ e

module _ {A : Type 0} (l : List A) (d : A) where
  -- what the arm of i answers at g
  pub arm : {g i : ℕ} → g ≡ i → get_or l i d ≡ get_or l g d
  arm e = ap (λ (k : ℕ). get_or l k d) (sym e)

  -- what the last arm answers at x, where the table has its default at all but the keys
  pub last_arm : (key : ℕ → Bool)
      → tabulate (length l) (λ i. pick (key i) d (get_or l i d)) ≡ tabulate (length l) (λ i. d)
      → (x : ℕ) → NoKey key (length l) x → d ≡ get_or l x d
  last_arm key e x w = go (ltb x (length l)) refl
    where
      go : (b : Bool) → ltb x (length l) ≡ b → d ≡ get_or l x d
      go true h =
          let below = ltb-true x (length l) h in
          sym (at_each (length l) (λ i. pick (key i) d (get_or l i d)) (λ i. d) e x below)
          ∙ ap (λ (b : Bool). pick b d (get_or l x d)) (no_key key (length l) x w below)
      go false h = sym (get_or-eq_default l d (ltb-false x (length l) h))

-- the numbers of the schema's slots
abbrev pub is_slot : ℕ → Bool
is_slot g = ltb (g % 16) (get_or slot_counts (g / 16) 0)
