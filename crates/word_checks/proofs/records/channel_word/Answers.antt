use mathlib.Core.Path.{refl, ap, ◌∙◌}
use Prim.Native.Nat.{ℕ}
use Rattle.model.specs.Sampling.{width}
use Rattle.tracks.specs.declared.Track.{Track}
use Rattle.tracks.specs.Values.{kind_of}
use Rattle.row_checks.specs.Places.{fits_in}
use Rattle.word_checks.proofs.Firsts.{before-all, before-over, before-leaves, none_left}
use Rattle.refusals.specs.Drawn.{number_of}
use Rattle.word_checks.specs.Words.{frames_within, channel_asked}
use Rattle.word_checks.proofs.records.channel_word.Goals as goal

pub returns : goal.returns
unfolding channel_asked
returns c =
    let a = c.args in
    let track = c.track_of-track.ensures in
    let none = none_left (number_of a.n) _ in
    let within = c.frames_within.ensures ∙ ap frames_within track in
    let frames = before-over _ _ _ _ _ none _ _ _ within c.over_word-from_frames.ensures in
    let wide = c.width.ensures.0 ∙ ap (λ (t : Track). width (kind_of t.kind)) track in
    let fits = c.fits-fits.ensures ∙ ap (λ (w : ℕ). fits_in a.r.values w a.s.floats) wide in
    let values = before-leaves _ _ _ _ _ frames _ _ _ fits c.leaves_word-from_values.ensures in
    let keys = before-all _ _ _ _ _ values _ c.part_word-from_keys.ensures in
    let interpolation = before-over _ _ _ _ _ keys _ _ _ refl c.over_word-from_interpolation.ensures in
    let kind = before-over _ _ _ _ _ interpolation _ _ _ refl c.over_word-from_kind.ensures in
    before-over _ _ _ _ _ kind _ _ _ refl c.over_word.ensures
