-- The world of a node comes from the local matrices on its placing path alone.
-- Assumes nothing.
use mathlib.Core.Path.{◌≡◌, refl, sym, ap, ◌∙◌, subst}
use mathlib.Core.List.{List, [], ◌∷◌, Memᴰ}
use mathlib.Core.Option.{Option, none, some}
use Prim.Native.Nat.{ℕ, zero, suc, ◌≤◌, ◌<◌, suc-le-suc}
use native.Mathlib.Omega.{arith}
use lib.ListN.{length, get_or, set, length-set}
use Rattle.model.specs.Lists.{foldl, or_else, and_then}
use Rattle.model.specs.Matrix.{Matrix, identity, mul}
use Rattle.model.specs.Placing.{Place, unplaced, root, below, Entry}
use Rattle.model.specs.World.{above, place_one, worlds_from}
use Rattle.model.specs.Skin.{products}
use Rattle.model.specs.Agree.{OnPath, itself, up, Each}

-- a store in two lists that agree at i
set-agree : {A : Type 0} (l m : List A) (x i : ℕ) (v w d : A) → length l ≡ length m → get_or l i d ≡ get_or m i d → (i ≡ x → x < length l → v ≡ w)
    → get_or (set l x v) i d ≡ get_or (set m x w) i d
set-agree [] [] x i v w d n h f = h
set-agree [] (y ∷ m) x i v w d n h f = absurd (omega arith)
set-agree (y ∷ l) [] x i v w d n h f = absurd (omega arith)
set-agree (y ∷ l) (z ∷ m) zero zero v w d n h f = f refl (omega arith)
set-agree (y ∷ l) (z ∷ m) zero (suc i) v w d n h f = h
set-agree (y ∷ l) (z ∷ m) (suc x) zero v w d n h f = h
set-agree (y ∷ l) (z ∷ m) (suc x) (suc i) v w d n h f = set-agree l m x i v w d (omega arith) h (λ e b. f (ap suc e) (suc-le-suc b))

above-agree : (w₁ w₂ : List (Option Matrix)) (q : Place) → ((p : ℕ) → q ≡ below p → get_or w₁ p none ≡ get_or w₂ p none) → above w₁ q ≡ above w₂ q
above-agree w₁ w₂ unplaced h = refl
above-agree w₁ w₂ root h = refl
above-agree w₁ w₂ (below p) h = ap (λ (o : Option Matrix). or_else o identity) (h p refl)

module _ (l₁ l₂ : ℕ → Matrix) (n : ℕ) (es : List Entry) (i : ℕ) (same : (a : ℕ) → a < n → OnPath es i a → l₁ a ≡ l₂ a) where
  pub worlds-agree : (ds : List Entry) → ((e : Entry) → Memᴰ e ds → Memᴰ e es) → (w₁ w₂ : List (Option Matrix)) → length w₁ ≡ n → length w₂ ≡ n
      → ((a : ℕ) → OnPath es i a → get_or w₁ a none ≡ get_or w₂ a none)
      → (a : ℕ) → OnPath es i a → get_or (worlds_from l₁ w₁ ds) a none ≡ get_or (worlds_from l₂ w₂ ds) a none
  unfolding foldl
  worlds-agree [] sub w₁ w₂ n₁ n₂ h a p = h a p
  worlds-agree (e ∷ ds) sub w₁ w₂ n₁ n₂ h a p =
      worlds-agree ds (λ d m. sub d (Memᴰ.tail m)) (place_one l₁ w₁ e) (place_one l₂ w₂ e) (length-set w₁ e.node _ ∙ n₁) (length-set w₂ e.node _ ∙ n₂) step a p
    where
      value : OnPath es i e.node → e.node < n → mul (above w₁ e.place) (l₁ e.node) ≡ mul (above w₂ e.place) (l₂ e.node)
      value q b =
          let u : above w₁ e.place ≡ above w₂ e.place
          = above-agree w₁ w₂ e.place (λ p t. h p (up q (sub _ (Memᴰ.head (λ j. record { node = e.node; place = sym t j }))))) in
          λ j. mul (u j) (same e.node b q j)

      step : (c : ℕ) → OnPath es i c → get_or (place_one l₁ w₁ e) c none ≡ get_or (place_one l₂ w₂ e) c none
      step c q =
          set-agree w₁ w₂ e.node c _ _ none (n₁ ∙ sym n₂) (h c q)
          (λ t b. ap {B = Option Matrix} some (value (subst (OnPath es i) t q) (omega arith)))

pub products-agree : (w₁ w₂ : ℕ → Option Matrix) (js : List ℕ) (bs : List Matrix) → Each (λ (j : ℕ). w₁ j ≡ w₂ j) js → products w₁ js bs ≡ products w₂ js bs
unfolding products
products-agree w₁ w₂ [] bs h = refl
products-agree w₁ w₂ (j ∷ js) [] h = refl
products-agree w₁ w₂ (j ∷ js) (b ∷ bs) h =
    let r = products-agree w₁ w₂ js bs h.1 in
    λ k. and_then (h.0 k) (λ (w : Matrix). and_then (r k) (λ (ms : List Matrix). some (mul w b ∷ ms)))
