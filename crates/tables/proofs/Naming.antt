-- Tags and marks that are told by comparing numbers. Assumes nothing.
use mathlib.Core.Path.{◌≡◌, refl, sym, ap}
use mathlib.Core.Bool.{not}
use Prim.Native.Nat.{ℕ, zero, suc}
use borrow.Author.Tests.{ne_eqb}
use native.Mathlib.Omega.{arith}
use lib.Dec.{eqb}
use Rattle.std.specs.Prelude as rust
use Rattle.std.specs.Option as rust-option
use Rattle.model.specs.Lists.{pick, is_some}
use Rattle.tables.specs.Tags.{is_marked, option_of}

pub marked : (n : ℕ) → not (eqb n 0) ≡ is_marked n
marked zero = refl
marked (suc n) = ap not (ne_eqb (suc n) 0 (λ e. omega (arith, e)))

-- the choice by a mark that is not 0
pub is-there : {A : Type 0} (n : ℕ) (a b : A) → (n ≡ 0 → ⊥) → a ≡ pick (is_marked n) a b
is-there zero a b h = absurd (h refl)
is-there (suc n) a b h = refl

pub not_there : {A : Type 0} (n : ℕ) (a b : A) → n ≡ 0 → b ≡ pick (is_marked n) a b
not_there n a b e = ap (λ (m : ℕ). pick (is_marked m) a b) (sym e)

-- an option of the code and what it says have a value together
pub some-alike : {A : Type 0} (o : rust.Option A) → rust-option.is_some o ≡ is_some (option_of o)
some-alike (rust.Some x) = refl
some-alike rust.None = refl
