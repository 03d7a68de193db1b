use Rattle.spelling.proofs.put_item.Goals as goal

pub returns-then-float : goal.returns-then-float
returns-then-float c =
    rw c.if-float.true c.put_digits.ensures

pub returns : goal.returns
returns c =
    rw (c.if-float.false, ← c.places.ensures.0) c.put_digits-2.ensures
