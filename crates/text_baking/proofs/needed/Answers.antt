use mathlib.Core.Path.{refl}
use borrow.Author.Tests.{lt-ltb, le-ltb}
use Rattle.text_baking.proofs.needed.Goals as goal

pub returns-then-text-gt-TEXT_LIMIT : goal.returns-then-text-gt-TEXT_LIMIT
returns-then-text-gt-TEXT_LIMIT c = rw (lt-ltb _ _ c.if-text-gt-TEXT_LIMIT.true) refl

pub returns : goal.returns
returns c = rw (le-ltb _ _ c.if-text-gt-TEXT_LIMIT.false) c.text_room.ensures
