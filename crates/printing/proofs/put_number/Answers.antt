use mathlib.Core.Path.{sym}
use mathlib.Core.List.{◌∷◌}
use lib.Seq.{length-take-le}
use Rattle.grammar.specs.Digits.{numbers, digits_of}
use Rattle.spelling.proofs.Pushing.{Filled, item-put}
use Rattle.printing.proofs.LineLaws.{put-length}
use Rattle.printing.proofs.put_number.Lts
use Rattle.printing.proofs.put_number.Reads
use Rattle.printing.proofs.put_number.Tie
use Rattle.printing.proofs.put_number.Goals as goal

abbrev After-put_item-end : Type 0
After-put_item-end = Lts.After-put_item Tie.the-claims Reads.Pre Reads.Post

items : (c : After-put_item-end)
    → Filled (32 ∷ digits_of numbers c.args.n) c.put_item-end.new.out c.put_item-end.result
items c = item-put numbers _ _ _ c.put_item-end.ensures

pub slice_bounds-items-end : goal.slice_bounds-items-end
slice_bounds-items-end c = (items c.before.before).inside

pub slice_bounds-put_line-end : goal.slice_bounds-put_line-end
slice_bounds-put_line-end c = sym (length-take-le _ _ (items c.before.before.before).inside)

pub returns : goal.returns
returns c =
    rw (items c.before.before.before.before.before.before.before).taken at c.put_line.ensures

pub shape_of-out : goal.shape_of-out
shape_of-out c = put-length _ _ (returns c)
