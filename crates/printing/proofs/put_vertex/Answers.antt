use mathlib.Core.Path.{sym}
use lib.Seq.{length-take-le}
use Rattle.spelling.proofs.Pushing.{Filled}
use Rattle.printing.proofs.LineLaws.{three_items, vertex-filled, put-length}
use Rattle.printing.proofs.put_vertex.Lts
use Rattle.printing.proofs.put_vertex.Reads
use Rattle.printing.proofs.put_vertex.Tie
use Rattle.printing.proofs.put_vertex.Goals as goal

abbrev After-put_item-c : Type 0
After-put_item-c = Lts.After-put_item3 Tie.the-claims Reads.Pre Reads.Post

abbrev After-put_item-b : Type 0
After-put_item-b = Lts.After-put_item2 Tie.the-claims Reads.Pre Reads.Post

abbrev After-put_item-a : Type 0
After-put_item-a = Lts.After-put_item Tie.the-claims Reads.Pre Reads.Post

abbrev Start : Type 0
Start = Lts.Start Tie.the-claims Reads.Pre Reads.Post

abbrev second : After-put_item-c → After-put_item-b
second c = c.before.before.before.before

abbrev first : After-put_item-c → After-put_item-a
first c = (second c).before.before.before.before

abbrev start : After-put_item-c → Start
start c = (first c).before.before.before.before

items : (c : After-put_item-c)
    → let a = (start c).args in
    Filled (three_items a.x a.y a.z) c.put_item-c.new.out c.put_item-c.result
items c =
    vertex-filled _ _ _ c.to_bits.ensures c.to_bits-2.ensures
    c.to_bits-3.ensures c.put_item-a.ensures c.put_item-b.ensures
    c.put_item-c.ensures

pub slice_bounds-items-end : goal.slice_bounds-items-end
slice_bounds-items-end c = (items c.before.before).inside

pub slice_bounds-put_line-end : goal.slice_bounds-put_line-end
slice_bounds-put_line-end c = sym (length-take-le _ _ (items c.before.before.before).inside)

pub returns : goal.returns
returns c =
    rw (items c.before.before.before.before.before.before.before).taken at c.put_line.ensures

pub shape_of-out : goal.shape_of-out
shape_of-out c = put-length _ _ (returns c)
