use mathlib.Core.Path.{sym, ap}
use mathlib.Core.List.{List, [], map}
use mathlib.Core.Option.{Option, some}
use native.Mathlib.Omega.{arith}
use lib.Ieee.{Float}
use lib.ListN.{length-replicate}
use lib.Seq.{length-take-le}
use Rattle.float.specs.F32.{zero32}
use Rattle.model.specs.Matrix.{Matrix}
use Rattle.model.specs.Bake.{baked_primitive, output_of}
use Rattle.checks.specs.Drawn.{lent_as}
use Rattle.shapes.specs.Rest.{primitives_in}
use Rattle.bake_writing.proofs.Skinning.{put-alike, few-matrices, read_again}
use Rattle.bake_writing.proofs.palettes.put_skinned.Goals as goal

pub overflow_mul-n : goal.overflow_mul-n
overflow_mul-n c =
    let a = c.args in
    let few = few-matrices (lent_as a.lent.words.now a.lent.floats.now [] [] a.lent.header) a.skin a.placed.places.now a.placed.worlds.now c.requires.2 in
    omega (arith, few, c.joints_of-n.ensures [] [] a.placed.worlds.now)

pub slice_bounds-palette-end : goal.slice_bounds-palette-end
slice_bounds-palette-end c =
    let a = c.args in
    let few = few-matrices (lent_as a.lent.words.now a.lent.floats.now [] [] a.lent.header) a.skin a.placed.places.now a.placed.worlds.now c.requires.2 in
    omega (arith, few, c.joints_of-n.ensures [] [] a.placed.worlds.now, c.write_palette.auto.out)

pub slice_bounds-write_mesh-end : goal.slice_bounds-write_mesh-end
slice_bounds-write_mesh-end c =
    let a = c.args in
    let few = few-matrices (lent_as a.lent.words.now a.lent.floats.now [] [] a.lent.header) a.skin a.placed.places.now a.placed.worlds.now c.requires.2 in
    sym (length-take-le _ _ (omega (arith, few, c.joints_of-n.ensures [] [] a.placed.worlds.now, c.write_palette.auto.out)))

pub returns-clause-put : goal.returns-clause-put
returns-clause-put c = λ own mesh p e.
    let a = c.args in
    let put : Option (List Matrix) → _ = λ q. output_of (map (baked_primitive a.world.m q a.weights.now) (primitives_in (lent_as a.lent.words.now a.lent.floats.now [] [] a.lent.header) a.part)) in
    put-alike put _ _ _ _ _ _ _ (some p)
    (ap some
    (read_again (lent_as a.lent.words.now a.lent.floats.now own mesh a.lent.header) a.skin a.placed.places.now a.placed.worlds.now c.requires.2 p e _ _ (length-replicate {A = Float} 4096 zero32) (c.write_palette.ensures.slice own mesh) _
    (c.joints_of-n.ensures own mesh a.placed.worlds.now)))
    c.write_mesh.ensures.put
