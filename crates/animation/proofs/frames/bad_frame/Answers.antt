use mathlib.Core.Path.{◌≡◌, refl, sym, ◌∙◌}
use mathlib.Core.Bool.{Bool, true, false, not, ◌&&◌, ◌||◌}
use borrow.Author.Tests.{lt-ltb, le-ltb}
use lib.Dec.{ltb}
use Rattle.model.specs.Refusals.{is_scalars, is_cubic}
use Rattle.tracks.specs.Values.{interpolation_of, kind_of}
use Rattle.animation.proofs.frames.bad_frame.Goals as goal

pub returns-then-rows : goal.returns-then-rows
returns-then-rows c =
    let a = c.args in
    let s = sym c.is_scalar.ensures ∙ c.if-is_scalar.true in
    let l = lt-ltb a.k a.keys c.if-k-keys.true in
    λ j. not (sym s j) || not (sym l j) || (sym c.if-rows.true j && not (c.is_cubic.ensures j))

pub returns-then-k-keys : goal.returns-then-k-keys
returns-then-k-keys c =
    let a = c.args in
    let s = sym c.is_scalar.ensures ∙ c.if-is_scalar.true in
    let l = lt-ltb a.k a.keys c.if-k-keys.true in
    λ j. not (sym s j) || not (sym l j) || (sym c.if-rows.false j && not (is_cubic (interpolation_of a.interpolation)))

either : (p q : Bool) → true ≡ (p || true || q)
either true q = refl
either false q = refl

pub returns-else-k-keys : goal.returns-else-k-keys
returns-else-k-keys c =
    let a = c.args in
    let l = le-ltb a.k a.keys c.if-k-keys.false in
    let rest = a.rows && not (is_cubic (interpolation_of a.interpolation)) in
    let s = not (is_scalars (kind_of a.kind)) in
    either s rest ∙ (λ j. s || not (sym l j) || rest)

pub returns-else-is_scalar : goal.returns-else-is_scalar
returns-else-is_scalar c =
    let a = c.args in
    let s = sym c.is_scalar.ensures ∙ c.if-is_scalar.false in
    λ j. not (sym s j) || not (ltb a.k a.keys) || (a.rows && not (is_cubic (interpolation_of a.interpolation)))
