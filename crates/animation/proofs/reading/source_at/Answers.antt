use mathlib.Core.Path.{ap, ◌∙◌}
use mathlib.Core.List.{List}
use Prim.Native.Nat.{◌-◌}
use native.Mathlib.Omega.{arith}
use lib.Ieee.{Float}
use lib.ListN.{length}
use Rattle.model.specs.Sampling.{in_line}
use Rattle.model.proofs.Sampled.{laid_out}
use Rattle.animation.specs.declared.Place.TheVariants as place
use Rattle.tracks.specs.Tracks.{track_in}
use Rattle.animation.proofs.Places.{lies, in-range, at_first, on-key, at_last, amid}
use Rattle.animation.proofs.reading.source_at.Goals as goal

pub locate-requires : goal.locate-requires
locate-requires c =
    let floats = c.args.floats.now in
    let t = c.args.t in
    (ap in_line c.keys_of-keys.ensures ∙ c.requires.3, c.requires.1, omega (arith, ap length c.keys_of-keys.ensures, laid_out (track_in floats t) c.requires.2))

pub blend_between-blend-requires : goal.blend_between-blend-requires
blend_between-blend-requires c =
    let floats = c.args.floats.now in
    let t = c.args.t in (
      c.requires.0,
      in-range (track_in floats t) c.args.time c.requires.2 _ c.keys_of-keys.ensures _ _
          c.locate.ensures c.in-Between.is,
    )

pub overflow_sub-result : goal.overflow_sub-result
overflow_sub-result c =
    let floats = c.args.floats.now in
    let t = c.args.t in
    omega (arith, ap length c.keys_of-keys.ensures, laid_out (track_in floats t) c.requires.2)

pub returns-in-Before : goal.returns-in-Before
returns-in-Before c =
    let tr = track_in c.args.floats.now c.args.t in
    at_first tr c.args.time c.requires.2 (lies tr c.args.time c.requires.2 _ c.keys_of-keys.ensures _
    place.Before c.locate.ensures c.in-Before.is)

pub returns-in-On : goal.returns-in-On
returns-in-On c =
    let tr = track_in c.args.floats.now c.args.t in
    on-key tr c.args.time c.requires.2 _
    (lies tr c.args.time c.requires.2 _ c.keys_of-keys.ensures _ _ c.locate.ensures c.in-On.is)
    (in-range tr c.args.time c.requires.2 _ c.keys_of-keys.ensures _ _ c.locate.ensures c.in-On.is)

pub returns-in-Between : goal.returns-in-Between
returns-in-Between c =
    let tr = track_in c.args.floats.now c.args.t in
    amid tr c.args.time c.requires.2 _ c.blend_between-blend.result
    (lies tr c.args.time c.requires.2 _ c.keys_of-keys.ensures _ _ c.locate.ensures c.in-Between.is)
    c.blend_between-blend.ensures

pub returns-in-After : goal.returns-in-After
returns-in-After c =
    let tr = track_in c.args.floats.now c.args.t in
    at_last tr c.args.time c.requires.2 _
    (lies tr c.args.time c.requires.2 _ c.keys_of-keys.ensures _ place.After c.locate.ensures c.in-After.is)
    (ap (λ (l : List Float). length l - 1) c.keys_of-keys.ensures)
