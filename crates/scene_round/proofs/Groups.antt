-- Of a group of slots of which just one is there, the number that is told is that of the one. Assumes nothing.
use mathlib.Core.Path.{◌≡◌, refl, sym, ap, subst, ◌∙◌}
use mathlib.Core.Bool.{Bool, true, false, ◌||◌, not}
use mathlib.Core.List.{List}
use Prim.Native.Nat.{ℕ, zero, suc, ◌+◌, ◌*◌, ◌≤◌, ◌<◌}
use native.Mathlib.Omega.{arith}
use lib.Dec.{T, eqb, eqb→eq, eqb-suc-zero, eqb-zero-suc, eqb-suc-suc}
use lib.ListN.{get_or}
use Rattle.model.specs.Lists.{pick}
use Rattle.grammar.proofs.Words.{both}
use Rattle.scene_schema.specs.Numbers.{slot_rules, no_rule}
use Rattle.scene_marks.specs.declared.Mark.{Mark}
use Rattle.scene_marks.specs.Marks.{mark_at, chosen, present_from, group_at, groups_from}

pub group-at : (n k j : ℕ) (marks : List Mark) → T (groups_from n k j marks) → (o i : ℕ) → i ≡ j + o → o < n
    → T (group_at k i marks)
unfolding groups_from
group-at zero k j marks t o i e h = absurd (omega arith)
group-at (suc n) k j marks t zero i e h =
    let here : j ≡ i = omega arith in
    subst (λ (x : ℕ). T (group_at k x marks)) here
    (both (group_at k j marks) (groups_from n k (j + 1) marks) t).0
group-at (suc n) k j marks t (suc o) i e h =
    group-at n k (j + 1) marks (both (group_at k j marks) (groups_from n k (j + 1) marks) t).1 o i (omega arith)
    (omega arith)

-- just one is there
pub group-one : (k j n : ℕ) (marks : List Mark) → (get_or slot_rules (16 * k + j) no_rule).one_of ≡ suc n
    → T (group_at k j marks) → present_from (suc n) j marks ≡ 1
group-one k j n marks e t =
    let b = eqb (present_from (suc n) j marks) 1 in
    eqb→eq (present_from (suc n) j marks) 1
    (subst (λ (a : Bool). T (a || b)) (eqb-suc-zero n)
    (subst (λ (g : ℕ). T (eqb g 0 || eqb (present_from g j marks) 1)) e t))

module _ (marks : List Mark) where
  -- slot j is not there
  abbrev pub absent : ℕ → Bool
  absent j = eqb (mark_at marks j).there 0

  none-there : (n j o i : ℕ) → present_from n j marks ≡ 0 → i ≡ j + o → o < n → absent i ≡ true
  unfolding present_from
  none-there zero j o i z e h = absurd (omega arith)
  none-there (suc n) j o i z e h = go (absent j) refl z o e h (none-there n (j + 1))
    where
      go : (b : Bool) → absent j ≡ b → pick b 0 1 + present_from n (j + 1) marks ≡ 0 → (o : ℕ) → i ≡ j + o → o < suc n
          → ((o i : ℕ) → present_from n (j + 1) marks ≡ 0 → i ≡ j + 1 + o → o < n → absent i ≡ true)
          → absent i ≡ true
      go false a z o e h rest = absurd (omega arith)
      go true a z zero e h rest = let here : i ≡ j = omega arith in ap absent here ∙ a
      go true a z (suc o) e h rest = rest o i (omega arith) (omega arith) (omega arith)

  pub chosen-few : (j n : ℕ) → chosen marks j n ≤ n
  unfolding chosen
  chosen-few j zero = omega arith
  chosen-few j (suc n) = go (absent j) (chosen-few (j + 1) n)
    where
      go : (b : Bool) {m : ℕ} → m ≤ n → pick b (suc m) 0 ≤ suc n
      go true h = omega arith
      go false h = omega arith

  pub chosen-one : (n j o i : ℕ) → present_from (suc n) j marks ≡ 1 → i ≡ j + o → o ≤ n
      → absent i ≡ not (eqb (chosen marks j n) o)
  unfolding present_from chosen
  chosen-one zero j o i z e h = go (absent j) refl z
    where
      go : (b : Bool) → absent j ≡ b → pick b 0 1 + 0 ≡ 1 → absent i ≡ not (eqb 0 o)
      go true a z = absurd (omega arith)
      go false a z =
          let here : i ≡ j = omega arith in
          let first : 0 ≡ o = omega arith in
          ap absent here ∙ a ∙ ap (λ (n : ℕ). not (eqb 0 n)) first
  chosen-one (suc n) j o i z e h = go (absent j) refl z o e h (chosen-one n (j + 1)) (none-there (suc n) (j + 1))
    where
      go : (b : Bool) → absent j ≡ b → pick b 0 1 + present_from (suc n) (j + 1) marks ≡ 1
          → (o : ℕ) → i ≡ j + o → o ≤ suc n
          → ((o i : ℕ) → present_from (suc n) (j + 1) marks ≡ 1 → i ≡ j + 1 + o → o ≤ n
          → absent i ≡ not (eqb (chosen marks (j + 1) n) o))
          → ((o i : ℕ) → present_from (suc n) (j + 1) marks ≡ 0 → i ≡ j + 1 + o → o < suc n → absent i ≡ true)
          → absent i ≡ not (eqb (pick b (suc (chosen marks (j + 1) n)) 0) o)
      go true a z zero e h rest over =
          let here : i ≡ j = omega arith in
          ap absent here ∙ a ∙ ap not (sym (eqb-suc-zero (chosen marks (j + 1) n)))
      go true a z (suc o) e h rest over =
          rest o i (omega arith) (omega arith) (omega arith)
          ∙ ap not (sym (eqb-suc-suc (chosen marks (j + 1) n) o))
      go false a z zero e h rest over = let here : i ≡ j = omega arith in ap absent here ∙ a
      go false a z (suc o) e h rest over =
          over o i (omega arith) (omega arith) (omega arith) ∙ ap not (sym (eqb-zero-suc o))
