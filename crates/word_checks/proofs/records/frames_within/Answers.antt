use mathlib.Core.Path.{◌≡◌, refl, sym, ap, ◌∙◌}
use mathlib.Core.Bool.{Bool, true}
use Prim.Native.Nat.{ℕ}
use borrow.Author.Tests.{lt-ltb, le-ltb}
use lib.Dec.{ltb, leb}
use Rattle.model.specs.Lists.{pick}
use Rattle.model.specs.Limits.{key_limit, weight_limit}
use Rattle.model.specs.Sampling.{factor}
use Rattle.model.specs.Refusals.{is_scalars}
use Rattle.tracks.specs.declared.Track.{Track}
use Rattle.tracks.specs.Values.{interpolation_of, kind_of}
use Rattle.tracks.specs.Tracks.{even_stride}
use Rattle.word_checks.specs.Words.{frames_within}
use Rattle.word_checks.proofs.records.frames_within.Goals as goal

abbrev stride_of : Track → ℕ
stride_of t = even_stride t.keys.count t.values.count (factor (interpolation_of t.interpolation))

-- by the tests of the code
by-tests : (t : Track) (a b : Bool) → ltb key_limit t.keys.count ≡ a → is_scalars (kind_of t.kind) ≡ b
    → frames_within t ≡ pick a true (pick b (leb (stride_of t) weight_limit) true)
unfolding frames_within
by-tests t a b p q = λ j. pick (p j) true (pick (q j) (leb (stride_of t) weight_limit) true)

pub returns-then-t-gt-KEY_LIMIT : goal.returns-then-t-gt-KEY_LIMIT
returns-then-t-gt-KEY_LIMIT c =
    let t = c.args.t in
    sym (by-tests t _ _ (lt-ltb key_limit t.keys.count c.if-t-gt-KEY_LIMIT.true) refl)

pub returns-then-is_scalar : goal.returns-then-is_scalar
returns-then-is_scalar c =
    let t = c.args.t in
    let scalar = sym c.is_scalar.ensures ∙ c.if-is_scalar.true in
    ap (λ (n : ℕ). leb n weight_limit) c.track_stride.ensures
    ∙ sym (by-tests t _ _ (le-ltb key_limit t.keys.count c.if-t-gt-KEY_LIMIT.false) scalar)

pub returns : goal.returns
returns c =
    let t = c.args.t in
    let scalar = sym c.is_scalar.ensures ∙ c.if-is_scalar.false in
    sym (by-tests t _ _ (le-ltb key_limit t.keys.count c.if-t-gt-KEY_LIMIT.false) scalar)
