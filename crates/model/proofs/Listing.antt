-- Two scenes with the same listing have the same order of placing, and as many entries are taken from both.
-- Assumes nothing.
use mathlib.Core.Path.{◌≡◌, refl, sym, ap, ◌∙◌, fun_ext}
use mathlib.Core.List.{List, [], ◌∷◌}
use Prim.Native.Nat.{ℕ, zero, suc, ◌+◌, ◌≤◌, ◌<◌, suc-le-suc}
use native.Mathlib.Decide.{dec_lt}
use native.Mathlib.Omega.{arith}
use lib.ListN.{length, get_or, replicate, get_or-eq_default}
use Rattle.model.specs.Lists.{sum_of}
use Rattle.model.specs.Scene.{Scene, Node, blank, node_count, children_at}
use Rattle.model.specs.Placing.{unplaced, start, placed_of, trace, child_entries, order, taken_from, taken}
use Rattle.model.specs.Agree.{SameListing}

entries-agree : (ns₁ ns₂ : List Node) → length ns₁ ≡ length ns₂ → ((i : ℕ) → i < length ns₁ → (get_or ns₁ i blank).children ≡ (get_or ns₂ i blank).children)
    → sum_of (λ (n : Node). length n.children) ns₁ ≡ sum_of (λ (n : Node). length n.children) ns₂
unfolding sum_of
entries-agree [] [] n h = refl
entries-agree [] (y ∷ ys) n h = absurd (omega arith)
entries-agree (x ∷ xs) [] n h = absurd (omega arith)
entries-agree (x ∷ xs) (y ∷ ys) n h =
    let e : length x.children ≡ length y.children = ap length (h zero (omega arith)) in
    let r = entries-agree xs ys (omega arith) (λ i b. h (suc i) (suc-le-suc b)) in
    λ j. e j + r j

module _ (s₁ s₂ : Scene) (h : SameListing s₁ s₂) where
  children-agree : children_at s₁ ≡ children_at s₂
  children-agree = fun_ext λ i. go i (dec_lt i (node_count s₁))
    where
      go : (i : ℕ) → Dec (i < node_count s₁) → children_at s₁ i ≡ children_at s₂ i
      go i (yes b) = h.lists i b
      go i (no b) =
          let f : node_count s₁ ≤ i = omega arith in
          ap (λ (n : Node). n.children) (get_or-eq_default s₁.nodes blank f ∙ sym (get_or-eq_default s₂.nodes blank (omega (arith, h.count))))

  start-agree : start s₁ ≡ start s₂
  start-agree = λ j. replicate (h.count j) unplaced

  pub order-agree : order s₁ ≡ order s₂
  unfolding order
  order-agree = λ j. placed_of (trace (start-agree j) (h.roots j) (children-agree j) (entries-agree s₁.nodes s₂.nodes h.count h.lists j))

  pub taken-agree : taken s₁ ≡ taken s₂
  unfolding taken
  taken-agree = λ j. taken_from (h.count j) (h.roots j) (children-agree j) (order-agree j)
