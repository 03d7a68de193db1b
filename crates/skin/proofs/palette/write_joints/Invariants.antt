use mathlib.Core.Path.{◌≡◌}
use lib.ListN.{length}
use Rattle.skin.specs.Palette.{palette_in}
use Rattle.skin.proofs.Rows.{Written}
use Rattle.skin.proofs.palette.write_joints.Given as goal

abbrev pub invariant-loop-t : goal.invariant-loop-t
invariant-loop-t l = Written (palette_in l.joints l.binds l.worlds) l.initial.out l.out l.t × (length l.out ≡ length l.initial.out)
