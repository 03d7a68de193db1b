use Rattle.tables.proofs.places.Place.part.Goals as goal

pub returns : goal.returns
returns c = λ j. record {
  at = (c.word.ensures) j;
  count = (c.word-2.ensures) j;
}
