use mathlib.Core.List.{[]}
use mathlib.Core.Path.{◌≡◌, sym, ap, ◌∙◌}
use Rattle.std.proofs.Common.{rules, Err}
use Rattle.refusals.specs.Drawn.{number_drawn}
use Rattle.faults.proofs.Finding.{itself, later, drawn-same}
use Rattle.faults.specs.Faults.{roots_spots, first_with}
use Rattle.faults.proofs.spots.roots_spot.Goals as goal

pub returns-then-eq : goal.returns-then-eq
unfolding roots_spots
returns-then-eq c =
    let out : c.check_roots.result ≡ Err c.args.n = search rules in
    itself c.args.n _ _ _ (sym c.check_roots.ensures ∙ ap number_drawn out)

pub returns : goal.returns
unfolding roots_spots first_with
returns c =
    let other : (c.check_roots.result ≡ Err c.args.n → ⊥) = search rules in
    later c.args.n 1 _ [] (λ e. other (drawn-same _ _ (c.check_roots.ensures ∙ e)))
