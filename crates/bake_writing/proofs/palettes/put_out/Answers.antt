use mathlib.Core.Path.{sym, ◌∙◌}
use mathlib.Core.List.{List, [], map}
use mathlib.Core.Option.{Option}
use lib.Ieee.{Float}
use Rattle.model.specs.Matrix.{Matrix}
use Rattle.model.specs.Bake.{Output, baked_primitive, output_of}
use Rattle.tracks.specs.declared.Part.{Part}
use Rattle.tables.specs.Decoded.{Lent, lent_of}
use Rattle.checks.specs.Drawn.{lent_as}
use Rattle.shapes.specs.Rest.{primitives_in}
use Rattle.bake_writing.proofs.Skinning.{put-with}
use Rattle.bake_writing.proofs.palettes.put_out.Goals as goal

abbrev put : Lent → Part → Matrix → List Float → Option (List Matrix) → Output
put l part world weights p =
    output_of (map (baked_primitive world p weights) (primitives_in (lent_as l.words l.floats [] [] l.header) part))

pub returns-then-is_marked-clause-put : goal.returns-then-is_marked-clause-put
returns-then-is_marked-clause-put c = λ own mesh p e.
    let a = c.args in
    put-with (put (lent_of a.lent) a.part a.world.m a.weights.now) _ _ _ _ _ _ (lent_as a.lent.words.now a.lent.floats.now own mesh a.lent.header)
    a.skin a.placed.places.now a.placed.worlds.now p e (sym c.is_marked.ensures ∙ c.if-is_marked.true)
    (c.put_skinned.ensures.put own mesh)
