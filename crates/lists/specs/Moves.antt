-- Where reading fields goes. Definitions only.
use Rattle.std.specs.Prelude.{◌≡◌, ℕ}
use Rattle.lists.specs.declared.fields.Fields.{Fields}

-- to a place of the same fields
pub record MovesTo (old new : Fields) (place : ℕ) : Type 0 where
  pub all : new.all.now ≡ old.all.now
  pub at : new.at ≡ place
