use mathlib.Core.Path.{sym}
use lib.Seq.{length-take-le}
use Rattle.byte_placing.proofs.PlacedLaws.{front-written}
use Rattle.byte_placing.proofs.write_back.Goals as goal

pub slice_bounds-write-end : goal.slice_bounds-write-end
slice_bounds-write-end c = sym (length-take-le _ _ c.requires.n_in_bounds.0)

pub slice_bounds-write-end-2 : goal.slice_bounds-write-end-2
slice_bounds-write-end-2 c = sym (length-take-le _ _ c.requires.n_in_bounds.1)

pub returns : goal.returns
returns c =
    record {
      places = front-written _ _ _ _ _ c.requires.n_in_bounds.0 c.requires.n_in_bounds_2.0 c.write.ensures;
      worlds = front-written _ _ _ _ _ c.requires.n_in_bounds.1 c.requires.n_in_bounds_2.1 c.write-2.ensures;
    }
