use borrow.Author.Tests.{eq-eqb}
use Rattle.digits.proofs.EightLaws.{same_bytes}
use Rattle.digits.proofs.eights.eight_digits.Goals as goal

pub returns-then-letters_for-w : goal.returns-then-letters_for-w
returns-then-letters_for-w c =
    let bytes = c.one_number-w.ensures in
    let digits = c.digits_in-d.ensures.0 _ bytes in
    record {
      value = c.number_of.ensures _ digits;
      written = same_bytes (c.letters_for.ensures _ digits) bytes (eq-eqb _ _ c.if-letters_for-w.true);
    }
