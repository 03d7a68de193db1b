use Rattle.tables.proofs.places.Place.slot.Goals as goal

pub returns : goal.returns
returns c = λ j. record {
  mark = c.word.ensures j;
  part = c.part.ensures j;
}
