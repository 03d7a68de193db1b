use mathlib.Core.Path.{ap, ◌∙◌}
use mathlib.Core.List.{List, append-nil}
use Prim.Native.Nat.{ℕ, ◌*◌}
use native.Mathlib.Omega.{arith}
use lib.ListN.{length}
use lib.Seq.{paste}
use Rattle.placing.specs.Walk.{listing_in}
use Rattle.placing.specs.WalkRoom.{listed_as, stack_of, words_for}
use Rattle.placing.proofs.start.Goals as goal

pub push-requires : goal.push-requires
push-requires c = omega (arith, ap length c.words_in.ensures, c.requires)

pub returns-clause-started : goal.returns-clause-started
unfolding listing_in stack_of
returns-clause-started c =
    let p = c.push.ensures in
    let r = c.words_in.ensures in
    record {
      places = c.fill.ensures.after (λ _ e. e);
      higher = omega (arith, p.higher, ap length r);
      walk = p.walk ∙ ap (λ (l : List ℕ). paste c.args.walk.now.stack.now 0 (words_for 1 l) (2 * length l)) r;
      stack = p.stack ∙ append-nil _ ∙ ap (λ (l : List ℕ). listed_as 1 l) r;
    }
