use borrow.Author.Rules.{rules}
use Rattle.tracks.proofs.Ascent.{no_key, first_key, next-key, last-key}
use Rattle.tracks.proofs.keys.keys_in_line.Goals as goal

pub returns-then-keys-eq0 : goal.returns-then-keys-eq0
returns-then-keys-eq0 c = search (rules, no_key)

pub loop-i-init : goal.loop-i-init
loop-i-init c = first_key _ _ (search rules) c.is_finite-rising.ensures

pub loop-i-preserved : goal.loop-i-preserved
loop-i-preserved c = search (rules, next-key)

pub returns : goal.returns
returns c = search (rules, last-key)
