use Rattle.std.proofs.Common.{◌≡◌, true, sym, ◌∙◌, eq-eqb}
use Rattle.square_root.specs.Normal.{all_normal}
use Rattle.square_root.proofs.block.sqrt_block.Goals as goal

-- the count is 0
all-normal : (c : goal.Then-n-eq0) → all_normal c.args.b.of ≡ true
all-normal c = sym c.count_outside-n.ensures ∙ eq-eqb c.count_outside-n.result 0 c.if-n-eq0.true

pub guesses-q-requires : goal.guesses-q-requires
guesses-q-requires c = all-normal c

pub near_roots-d-requires : goal.near_roots-d-requires
near_roots-d-requires c = (all-normal c.before, c.guesses-q.ensures)

pub roots_by-s-requires : goal.roots_by-s-requires
roots_by-s-requires c = (all-normal c.before.before.before, c.near_roots-d.ensures c.if-d-ge9223372036854775808.true)

pub returns-then-d-ge9223372036854775808 : goal.returns-then-d-ge9223372036854775808
returns-then-d-ge9223372036854775808 c = (c.roots_by-s.ensures, sym (all-normal c.before.before.before.before))
