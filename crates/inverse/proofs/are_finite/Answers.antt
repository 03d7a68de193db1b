use borrow.Author.Rules.{rules}
use Rattle.std.proofs.Common.{◌≡◌, true, false}
use Rattle.std.specs.Float.Ieee.Scale.{finite}
use Rattle.std.proofs.lemmas.Iterator.{cases_from_all, YieldsList-from_slice}
use Rattle.inverse.proofs.Tested.{decided}
use Rattle.inverse.proofs.are_finite.Goals as goal

pub returns : goal.returns
returns c =
    decided finite _ _
    (cases_from_all _ _ _ (λ x. finite x ≡ true) (λ x. finite x ≡ false) c.all.ensures.ran (YieldsList-from_slice c.args.s.now cc)
    (λ x q k. search rules) (λ x q k. search rules))
