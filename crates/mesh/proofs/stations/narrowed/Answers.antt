use Rattle.mesh.specs.Stations.{narrowed_in}
use Rattle.mesh.proofs.stations.narrowed.Goals as goal

pub returns-then-w-low : goal.returns-then-w-low
unfolding narrowed_in
returns-then-w-low c = simp (c.if-s-low.true, c.if-w-low.true)

pub returns-then-s-low : goal.returns-then-s-low
unfolding narrowed_in
returns-then-s-low c = simp (c.if-s-low.true, c.if-w-low.false)

pub returns-then-w-s : goal.returns-then-w-s
unfolding narrowed_in
returns-then-w-s c = simp (c.if-s-low.false, c.if-s-high.true, c.if-w-s.true)

pub returns-then-s-high : goal.returns-then-s-high
unfolding narrowed_in
returns-then-s-high c = simp (c.if-s-low.false, c.if-s-high.true, c.if-w-s.false)

pub returns-then-w-high : goal.returns-then-w-high
unfolding narrowed_in
returns-then-w-high c = simp (c.if-s-low.false, c.if-s-high.false, c.if-w-high.true)

pub returns : goal.returns
unfolding narrowed_in
returns c = simp (c.if-s-low.false, c.if-s-high.false, c.if-w-high.false)
