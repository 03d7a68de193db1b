use mathlib.Core.Path.{◌≡◌, sym, ap, ◌∙◌}
use Prim.Native.Nat.{ℕ}
use Rattle.model.specs.Lists.{pick}
use Rattle.wire.specs.Bytes.{words_in}
use Rattle.worlds.specs.Rooms.{short_for, short_in}
use Rattle.byte_checks.proofs.calls.check_room.Goals as goal

pub returns-then-is_short_for : goal.returns-then-is_short_for
returns-then-is_short_for c =
    let a = c.args in
    let short : c.is_short_for.result ≡ short_in (words_in a.words.now) a.graph a.space.walk a.space.poses a.space.worlds
    = c.is_short_for.ensures
    ∙ ap (λ (n : ℕ). short_for n a.graph a.space.walk a.space.poses a.space.worlds) c.listed_entries-children.ensures in
    sym (λ j. pick ((sym short ∙ c.if-is_short_for.true) j) 6 0)

pub returns : goal.returns
returns c =
    let a = c.args in
    let short : c.is_short_for.result ≡ short_in (words_in a.words.now) a.graph a.space.walk a.space.poses a.space.worlds
    = c.is_short_for.ensures
    ∙ ap (λ (n : ℕ). short_for n a.graph a.space.walk a.space.poses a.space.worlds) c.listed_entries-children.ensures in
    sym (λ j. pick ((sym short ∙ c.if-is_short_for.false) j) 6 0)
