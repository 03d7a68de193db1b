use mathlib.Core.Path.{sym, ◌∙◌}
use native.Mathlib.Omega.{arith}
use lib.Ieee.{nan}
use Rattle.model.specs.Vector.{dot}
use Rattle.scene.proofs.Arrays.{next, full}
use Rattle.transform.specs.Blocks.{squares_of}
use Rattle.transform.proofs.Packing.{squares-count, square-at}
use borrow.Author.Rules.{rules}
use Rattle.transform.proofs.packed.squares.Goals as goal

pub loop-i-preserved : goal.loop-i-preserved
loop-i-preserved c =
    let d = c.args.d.now in
    let l = c.loop-i in
    let e = c.load3.ensures in (
      search rules,
      search rules,
      next (squares_of d) l.out l.i _ nan (omega arith) (omega (arith, squares-count d)) l.invariant.2 (c.square.ensures ∙ (λ j. dot (e j) (e j)) ∙ sym (square-at d l.i (omega arith))),
    )

pub returns : goal.returns
returns c =
    let d = c.args.d.now in
    let l = c.loop-i in
    full (squares_of d) l.out l.i (omega arith) (omega (arith, squares-count d)) l.invariant.2
