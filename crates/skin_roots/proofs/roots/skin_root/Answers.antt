use mathlib.Core.Path.{◌≡◌, refl, sym, ap, ◌∙◌, subst}
use Prim.Native.Nat.{ℕ}
use native.Mathlib.Omega.{arith}
use lib.ListN.{length, replicate, length-replicate}
use lib.Seq.{length-take-le}
use Rattle.std.proofs.Common.{Result}
use Rattle.refusals.specs.declared.Refusal.{Refusal}
use Rattle.refusals.proofs.Told.{not-none, passed-on}
use Rattle.tables.specs.Tags.{option_of}
use Rattle.tables.specs.Decoded.{lent_of}
use Rattle.checks.specs.Drawn.{tables_number}
use Rattle.skin_roots.specs.Roots.{answer_of, RootAnswered}
use Rattle.skin_roots.proofs.Rooting.{codes-are, few, drawn, ready, refused, found, not_found}
use Rattle.skin_roots.proofs.roots.skin_root.Goals as goal

zeros : length {A = ℕ} (replicate 1024 0) ≡ 1024
zeros = length-replicate {A = ℕ} 1024 0

pub returns-in_err-parents : goal.returns-in_err-parents
returns-in_err-parents c =
    let a = c.args in
    let l = lent_of a.lent in
    let e = c.in_err-parents.field-0.0 in
    subst (λ (r : Result ℕ Refusal). RootAnswered l a.skin (answer_of r)) (sym (passed-on _ e c.from_residual.ensures.1))
    (refused l a.skin _ (drawn l _ _ _ c.in_err-parents.ensures zeros) (not-none e))

pub slice_bounds-marks-end : goal.slice_bounds-marks-end
slice_bounds-marks-end c =
    let a = c.args in
    let l = lent_of a.lent in
    let z : tables_number l ≡ 0 = sym (drawn l _ _ _ c.in_ok-parents.ensures zeros) in
    omega (arith, few l z, c.parents.auto.out)

pub slice_bounds-root_of-end : goal.slice_bounds-root_of-end
slice_bounds-root_of-end c =
    let a = c.args in
    let l = lent_of a.lent in
    let z : tables_number l ≡ 0 = sym (drawn l _ _ _ c.in_ok-parents.ensures zeros) in
    sym (length-take-le _ _ (omega (arith, few l z, c.parents.auto.out)))

pub root_of-requires : goal.root_of-requires
root_of-requires c =
    let a = c.args in
    let l = lent_of a.lent in
    let z : tables_number l ≡ 0 = sym (drawn l _ _ _ c.in_ok-parents.ensures zeros) in
    ready l _ z (codes-are l _ _ _ c.in_ok-parents.ensures refl)

pub returns-in-Some : goal.returns-in-Some
returns-in-Some c =
    let a = c.args in
    let l = lent_of a.lent in
    let z : tables_number l ≡ 0 = sym (drawn l _ _ _ c.in_ok-parents.ensures zeros) in
    found l a.skin z _ (sym (ap option_of c.in-Some.is) ∙ c.root_of.ensures.root _ _ _ (codes-are l _ _ _ c.in_ok-parents.ensures refl))

pub returns-in-None : goal.returns-in-None
returns-in-None c =
    let a = c.args in
    let l = lent_of a.lent in
    let z : tables_number l ≡ 0 = sym (drawn l _ _ _ c.in_ok-parents.ensures zeros) in
    not_found l a.skin z (sym (ap option_of c.in-None.is) ∙ c.root_of.ensures.root _ _ _ (codes-are l _ _ _ c.in_ok-parents.ensures refl))
