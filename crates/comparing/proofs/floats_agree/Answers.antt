use Rattle.std.proofs.Common.{rules, ℕ, ◌∙◌}
use borrow.Author.Tests.{tests}
use Rattle.std.proofs.lemmas.Iterator.{YieldsList-from_zip, YieldsList-from_slice}
use Rattle.std.proofs.lemmas.Iterator.Search.{all_from_yields_List}
use Rattle.std.specs.Prelude.{Float}
use Rattle.float.specs.F32.{f32}
use Rattle.comparing.specs.Near.{same_bits}
use Rattle.comparing.proofs.Agreeing.{alike_by_pairs}
use Rattle.comparing.proofs.floats_agree.Goals as goal

pub returns-then-found-expected : goal.returns-then-found-expected
returns-then-found-expected c =
    let a = c.args in
    all_from_yields_List {s = c.zip.result} (λ (p : Float × ℕ). same_bits p.0 (f32 p.1)) c.all.new.self _ c.all.result c.all.ensures.ran
    (YieldsList-from_zip (YieldsList-from_slice a.found.now (cc)) (YieldsList-from_slice a.expected.now (cc)))
    (λ x b q k. search (rules, tests))
    ∙ alike_by_pairs (λ x w. same_bits x (f32 w)) a.found.now a.expected.now c.if-found-expected.true
