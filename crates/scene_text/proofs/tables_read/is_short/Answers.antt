use mathlib.Core.Path.{sym}
use native.Mathlib.Omega.{arith}
use borrow.Author.Tests.{lt-ltb}
use Rattle.scene_text.specs.Scanned.{room_in}
use Rattle.scene_text.proofs.WordLaws.{few-short}
use Rattle.scene_text.proofs.tables_read.is_short.Goals as goal

pub returns-then-needed-gt4294967295 : goal.returns-then-needed-gt4294967295
returns-then-needed-gt4294967295 c = let a = c.args in sym (lt-ltb (room_in a.len) a.needed (omega arith))

pub returns : goal.returns
returns c = let a = c.args in few-short a.len a.needed c.if-needed-gt4294967295.false
