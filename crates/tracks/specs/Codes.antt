-- What the numbers of a kind and of an interpolation name (docs/TABLES.md). A number that names nothing is over size
-- (2), so what it reads as does not matter. Definitions only.
use Rattle.std.specs.Prelude.{ℕ, zero, suc}
use Rattle.tracks.specs.declared.Interpolation.{Interpolation}
use Rattle.tracks.specs.declared.Interpolation.TheVariants as interpolation
use Rattle.tracks.specs.declared.Kind.{Kind}
use Rattle.tracks.specs.declared.Kind.TheVariants as kind

abbrev pub kind_for : ℕ → Kind
kind_for zero = kind.Vec3
kind_for (suc zero) = kind.Quat
kind_for (suc (suc n)) = kind.Scalar

abbrev pub interpolation_for : ℕ → Interpolation
interpolation_for zero = interpolation.Step
interpolation_for (suc zero) = interpolation.Linear
interpolation_for (suc (suc n)) = interpolation.CubicSpline
