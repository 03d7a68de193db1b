use mathlib.Core.Path.{◌≡◌, sym, ap, subst}
use mathlib.Core.List.{List}
use Prim.Native.Nat.{suc, ◌≤◌, ◌<◌}
use native.Mathlib.Omega.{arith}
use lib.Ieee.{Float}
use lib.ListN.{length}
use Rattle.tracks.specs.Values.{interpolation_of}
use Rattle.tracks.specs.Tracks.{track_in}
use Rattle.tracks.proofs.Drawn.{clear, keys_length}
use Rattle.animation.proofs.Places.{held, lined, splined}
use Rattle.animation.proofs.reading.blend_between.Lts
use Rattle.animation.proofs.reading.blend_between.Reads
use Rattle.animation.proofs.reading.blend_between.Tie
use Rattle.animation.proofs.reading.blend_between.Goals as goal

abbrev Start : Type 0
Start = Lts.Start Tie.the-claims Reads.Pre Reads.Post

-- both keys are among those that are read, which are few
among : (s : Start) (keys : List Float) → keys ≡ (track_in s.args.floats.now s.args.t).keys → (suc s.args.k < length keys) × (length keys ≤ 65535)
among s keys e =
    let floats = s.args.floats.now in
    let c = clear floats s.args.t s.requires.0 in
    let few : length (track_in floats s.args.t).keys ≤ 65535 = omega (arith, keys_length floats s.args.t c.inside, c.few) in
    (subst (λ (l : List Float). suc s.args.k < length l) (sym e) s.requires.1, subst (λ (l : List Float). length l ≤ 65535) (sym e) few)

pub offset_bounds-keys-k : goal.offset_bounds-keys-k
offset_bounds-keys-k c = omega (arith, among c.before.before.before _ c.keys_of-keys.ensures)

pub bounds-keys-k : goal.bounds-keys-k
bounds-keys-k c = omega (arith, among c.before.before.before.before _ c.keys_of-keys.ensures)

pub overflow_add-d : goal.overflow_add-d
overflow_add-d c = omega (arith, among c.before.before.before.before _ c.keys_of-keys.ensures)

pub offset_bounds-keys-k-2 : goal.offset_bounds-keys-k-2
offset_bounds-keys-k-2 c = omega (arith, among c.before.before.before.before _ c.keys_of-keys.ensures)

pub bounds-keys-k-2 : goal.bounds-keys-k-2
bounds-keys-k-2 c = omega (arith, among c.before.before.before.before.before _ c.keys_of-keys.ensures)

pub returns-in-Step : goal.returns-in-Step
returns-in-Step c =
    held (track_in c.args.floats.now c.args.t) c.args.k c.args.time c.requires.1 _ c.keys_of-keys.ensures
    (ap interpolation_of c.in-Step.is)

pub returns-in-Linear : goal.returns-in-Linear
returns-in-Linear c =
    lined (track_in c.args.floats.now c.args.t) c.args.k c.args.time c.requires.1 _ c.keys_of-keys.ensures
    (ap interpolation_of c.in-Linear.is)

pub returns-in-CubicSpline : goal.returns-in-CubicSpline
returns-in-CubicSpline c =
    splined (track_in c.args.floats.now c.args.t) c.args.k c.args.time c.requires.1 _ c.keys_of-keys.ensures
    (ap interpolation_of c.in-CubicSpline.is)
