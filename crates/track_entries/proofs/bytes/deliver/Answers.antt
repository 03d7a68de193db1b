use mathlib.Core.Path.{sym, ap}
use Rattle.std.proofs.Common.{Ok}
use borrow.Author.Rules.{rules}
use lib.Seq.{length-take-le}
use Rattle.track_entries.proofs.Delivering.{wrote-vec3, wrote-quat}
use Rattle.track_entries.proofs.Delivering.{weights-inside, wrote-weights}
use Rattle.track_entries.proofs.bytes.deliver.Goals as goal

pub slice_bounds-write-end-in-Scalar : goal.slice_bounds-write-end-in-Scalar
slice_bounds-write-end-in-Scalar c =
    sym (length-take-le _ _ (weights-inside _ _ _ (ap Ok c.in-Scalar.is) c.requires.0))

pub returns-in-Vec3 : goal.returns-in-Vec3
returns-in-Vec3 c =
    wrote-vec3 _ _ _ _ _ _ _ (ap Ok c.in-Vec3.is) (search rules)
    c.write.ensures

pub returns-in-Quat : goal.returns-in-Quat
returns-in-Quat c =
    wrote-quat _ _ _ _ _ _ _ (ap Ok c.in-Quat.is) (search rules)
    c.write-in-Quat.ensures

pub returns-in-Scalar : goal.returns-in-Scalar
returns-in-Scalar c =
    wrote-weights _ _ _ _ _ _ _ (ap Ok c.in-Scalar.is)
    c.requires c.write-count.ensures
