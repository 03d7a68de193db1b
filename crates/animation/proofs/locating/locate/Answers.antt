use mathlib.Core.Path.{sym}
use borrow.Author.Rules.{rules}
use Rattle.model.proofs.Located.{located-before, located_after}
use Rattle.animation.proofs.Halving.{on-key, first-to-last, between-neighbours}
use Rattle.animation.proofs.locating.locate.Goals as goal

pub returns-then-t-first : goal.returns-then-t-first
returns-then-t-first c = sym (search (rules, located-before))

pub returns-then-t-first-2 : goal.returns-then-t-first-2
returns-then-t-first-2 c = sym (search (rules, on-key))

pub returns-then-keys-hi : goal.returns-then-keys-hi
returns-then-keys-hi c = sym (search (rules, located_after))

pub loop-lo-init : goal.loop-lo-init
loop-lo-init c = search (rules, first-to-last)

pub returns-then-t-keys : goal.returns-then-t-keys
returns-then-t-keys c = sym (search (rules, on-key))

pub returns : goal.returns
returns c = sym (search (rules, between-neighbours))
