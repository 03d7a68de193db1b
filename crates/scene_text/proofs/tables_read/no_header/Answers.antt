use lib.Dec.{lit≤}
use Rattle.scene_text.specs.Scanned.{words_of_counts}
use Rattle.scene_text.proofs.tables_read.no_header.Goals as goal

pub header_from-requires : goal.header_from-requires
unfolding words_of_counts
header_from-requires c = lit≤ tt

pub returns : goal.returns
returns c = c.header_from.ensures
