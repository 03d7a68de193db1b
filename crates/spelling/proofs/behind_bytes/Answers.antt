use mathlib.Core.Path.{sym}
use native.Mathlib.Omega.{arith}
use borrow.Author.Rules.{rules}
use Rattle.spelling.proofs.Pushing.{behind-none, behind-some}
use Rattle.spelling.proofs.behind_bytes.Goals as goal

pub returns-then-is_empty : goal.returns-then-is_empty
returns-then-is_empty c = sym (behind-none c.args.bytes.now c.args.at (search rules))

pub returns : goal.returns
returns c =
    let bytes = c.args.bytes.now in
    omega (arith, behind-some bytes c.args.at (search rules), c.saturating_add.ensures, c.min.ensures)
