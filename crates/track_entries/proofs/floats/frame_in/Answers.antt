use Rattle.track_entries.proofs.floats.frame_in.Goals as goal

pub returns-then-rows : goal.returns-then-rows
returns-then-rows c = cc

pub returns : goal.returns
returns c = cc
