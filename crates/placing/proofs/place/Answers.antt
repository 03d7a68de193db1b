use mathlib.Core.Path.{sym}
use borrow.Author.Rules.{rules}
use lib.Seq.{length-take-le}
use Rattle.placing.proofs.Stepping.{node-count}
use Rattle.placing.proofs.Meaning.{of_part}
use Rattle.placing.proofs.place.Goals as goal

pub slice_bounds-lend-end-2 : goal.slice_bounds-lend-end-2
slice_bounds-lend-end-2 c = sym (length-take-le _ _ c.requires.count_in_bounds)

pub lend-requires : goal.lend-requires
lend-requires c =
    record {
      count_value = sym (length-take-le _ _ c.requires.count_in_bounds);
      count_le_node_limit = (c.requires.count_le_node_limit, search rules);
      graph_in_bounds = c.requires.graph_in_bounds;
    }

pub returns : goal.returns
returns c =
    of_part _ c.args.places.now _ (node-count _ _) c.requires.count_in_bounds _ _ _ _ _ c.lend.ensures
