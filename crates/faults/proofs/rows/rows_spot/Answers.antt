use mathlib.Core.Path.{◌≡◌, refl, ap, ◌∙◌}
use mathlib.Core.List.{List}
use Prim.Native.Nat.{ℕ, ◌+◌, min}
use borrow.Author.Rules.{rules}
use native.Mathlib.Numerals.{add-one}
use native.Mathlib.Omega.{arith}
use Rattle.refusals.specs.Drawn.{number_of}
use Rattle.tracks.specs.declared.Part.{Part}
use Rattle.row_checks.specs.declared.Sizes.{Sizes}
use Rattle.checks.specs.declared.Table.{Table}
use Rattle.checks.specs.Drawn.{entry_cap, sum_below}
use Rattle.checks.proofs.Lowest.{sum_more}
use Rattle.faults.specs.declared.Fault.{Fault}
use Rattle.faults.specs.Faults.{table_index, entry_count, word_spots, row_spots, spots_below, first_with}
use Rattle.faults.proofs.Finding.{found-more, row-capped}
use Rattle.faults.proofs.rows.rows_spot.Invariants.{spots_at}
use Rattle.faults.proofs.rows.rows_spot.Goals as goal

-- found by the capped sum
by-sum : (words : List ℕ) (s : Sizes) (t : Part) (k : Table) (n i entries : ℕ) (r : Fault)
    → entries ≡ min (sum_below (i + 1) (entry_count words t k)) entry_cap
    → r ≡ first_with n (row_spots words s t k entries i) → r ≡ first_with n (spots_at words s t k i)
by-sum words s t k n i entries r e f =
    let sum = sum_below (i + 1) (entry_count words t k) in
    f
    ∙ ap (λ (m : ℕ). first_with n (row_spots words s t k m i)) e
    ∙ ap (λ l. first_with n (word_spots (table_index k) i l)) (row-capped words s t k i sum)
    ∙ ap (λ (m : ℕ). first_with n (row_spots words s t k (sum_below m (entry_count words t k)) i)) (add-one i)

pub loop-i-init : goal.loop-i-init
unfolding sum_below spots_below first_with
loop-i-init c = (refl, search rules, refl, refl)

pub loop-i-preserved : goal.loop-i-preserved
loop-i-preserved c =
    let a = c.args in
    let sum = sum_more (entry_count a.words.now a.t a.k) _ _ _ _ c.loop-i.invariant.2
    c.entry_count.ensures c.capped-entries.ensures in (
      refl,
      omega arith,
      sum,
      found-more a.n (spots_at a.words.now a.s a.t a.k) c.loop-i.i _ _ _ c.loop-i.invariant.3
          (by-sum a.words.now a.s a.t a.k (number_of a.n) c.loop-i.i _ _ sum c.row_spot.ensures)
          c.or-found.ensures,
    )

pub returns : goal.returns
returns c =
    let l = c.loop-i in
    let a = c.args in
    let all : l.i ≡ a.t.count = omega (arith, l.invariant.0, l.invariant.1, c.loop-i-test.false) in
    l.invariant.3
    ∙ ap (λ (m : ℕ). first_with (number_of a.n) (spots_below m (spots_at a.words.now a.s a.t a.k))) all
