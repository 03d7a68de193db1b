use Rattle.std.proofs.Common.{rules, ℕ, ap, ◌∙◌}
use borrow.Author.Tests.{tests}
use Rattle.std.proofs.lemmas.Iterator.{YieldsList-from_zip, YieldsList-from_slice}
use Rattle.std.proofs.lemmas.Iterator.Consumers.{fold_from_yields_List}
use Rattle.std.specs.Prelude.{Float}
use Rattle.float.specs.F32.{f32}
use Rattle.comparing.specs.Compared.{agreeing, agreeing_all}
use Rattle.comparing.specs.declared.Agreement.{Agreement}
use Rattle.comparing.proofs.Agreeing.{agreeing_by_pairs}
use Rattle.comparing.proofs.compare.Goals as goal

pub returns : goal.returns
returns c =
    let a = c.args in
    let start = c.with_lengths-start.result in
    fold_from_yields_List {s = c.zip.result} _ (λ (b : Agreement) (p : Float × ℕ). agreeing b p.0 (f32 p.1) a.most) start c.fold.result
    c.fold.ensures.ran
    (YieldsList-from_zip (YieldsList-from_slice a.found.now (cc)) (YieldsList-from_slice a.expected.now (cc)))
    (λ b x d q k. search (rules, tests))
    ∙ agreeing_by_pairs start a.found.now a.expected.now a.most
    ∙ ap (λ (g : Agreement). agreeing_all g a.found.now a.expected.now a.most) c.with_lengths-start.ensures
