-- What the values of the code say, in the model's terms. Definitions only.
use Rattle.model.specs.Scene as scene
use Rattle.tracks.specs.declared.Interpolation.{Interpolation}
use Rattle.tracks.specs.declared.Interpolation.TheVariants as interpolation
use Rattle.tracks.specs.declared.Kind.{Kind}
use Rattle.tracks.specs.declared.Kind.TheVariants as kind

abbrev pub interpolation_of : Interpolation → scene.Interpolation
interpolation_of interpolation.Step = scene.step
interpolation_of interpolation.Linear = scene.linear
interpolation_of interpolation.CubicSpline = scene.cubic_spline

abbrev pub kind_of : Kind → scene.Kind
kind_of kind.Vec3 = scene.vec3s
kind_of kind.Quat = scene.quats
kind_of kind.Scalar = scene.scalars
