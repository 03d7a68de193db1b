use Rattle.tables.proofs.places.Place.reference.Goals as goal

pub returns : goal.returns
returns c = λ j. record {
  mark = c.word.ensures j;
  id = c.word-2.ensures j;
}
