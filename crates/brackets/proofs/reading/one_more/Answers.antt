use mathlib.Core.Path.{◌≡◌, refl, sym, ap}
use Prim.Native.Nat.{ℕ, zero, suc, ◌+◌, ◌≤◌}
use native.Mathlib.Omega.{arith}
use borrow.Author.Tests.{eq-eqb, ne_eqb}
use Rattle.grammar.specs.Digits.{sort_for}
use Rattle.brackets.specs.declared.Told.{Told}
use Rattle.brackets.specs.Read.{one_more}
use Rattle.brackets.proofs.reading.one_more.Goals as goal

pub returns-then-t-gt1 : goal.returns-then-t-gt1
returns-then-t-gt1 c =
    let a = c.args in
    let more = c.if-t-gt1.true in
    let to : Told = one_more (sort_for a.float) a.t a.x in
    let first : a.t.first ≡ to.first = simp (ne_eqb a.t.count 0 (λ z. omega arith)) in
    let second : a.t.second ≡ to.second = simp (ne_eqb a.t.count 1 (λ z. omega arith)) in
    λ j. record { count = to.count; first = first j; second = second j; sorted = c.sorted_on-sorted.ensures j }

pub returns-then-t-eq1 : goal.returns-then-t-eq1
returns-then-t-eq1 c =
    let a = c.args in
    let one : a.t.count ≡ 1 = c.if-t-eq1.true in
    let to : Told = one_more (sort_for a.float) a.t a.x in
    let count : 2 ≡ to.count = ap (λ (n : ℕ). n + 1) (sym one) in
    let first : a.t.first ≡ to.first = simp (ne_eqb a.t.count 0 (λ z. omega arith)) in
    let second : a.x ≡ to.second = simp (eq-eqb a.t.count 1 one) in
    λ j. record { count = count j; first = first j; second = second j; sorted = c.sorted_on-sorted.ensures j }

none_yet : (n : ℕ) → n ≤ 1 → (n ≡ 1 → ⊥) → n ≡ 0
none_yet zero h d = refl
none_yet (suc zero) h d = absurd (d refl)
none_yet (suc (suc n)) h d = absurd (omega arith)

pub returns : goal.returns
returns c =
    let a = c.args in
    let none : a.t.count ≡ 0 = none_yet a.t.count c.if-t-gt1.false c.if-t-eq1.false in
    let to : Told = one_more (sort_for a.float) a.t a.x in
    let count : 1 ≡ to.count = ap (λ (n : ℕ). n + 1) (sym none) in
    let first : a.x ≡ to.first = simp (eq-eqb a.t.count 0 none) in
    let second : a.t.second ≡ to.second = simp (ne_eqb a.t.count 1 c.if-t-eq1.false) in
    λ j. record { count = count j; first = first j; second = second j; sorted = c.sorted_on-sorted.ensures j }
