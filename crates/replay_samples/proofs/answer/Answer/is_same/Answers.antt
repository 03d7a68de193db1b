use Rattle.std.proofs.Common.{rules, ◌≡◌, sym, ◌∙◌, true, ◌&&◌, eq-eqb}
use borrow.Author.Tests.{tests, eqb-true}
use lib.Dec.{eqb}
use Rattle.std.proofs.lemmas.Iterator.{YieldsList-from_zip, YieldsList-from_slice}
use Rattle.std.proofs.lemmas.Iterator.Search.{all_from_yields_List}
use Rattle.std.specs.Prelude.{Float}
use Rattle.std.specs.List.{list_all, zip}
use Rattle.comparing.specs.Near.{near_by}
use Rattle.replay_samples.proofs.answer.Answer.is_same.Goals as goal
use Rattle.replay_samples.proofs.answer.Answer.is_same.Goals.{then-self-other, else-self-other}

pub returns-then-self-other-2 : goal.returns-then-self-other-2
returns-then-self-other-2 c =
    let a = c.args in
    let x = a.self.now in
    let y = a.other.now in
    let near : c.all.result ≡ list_all (λ (p : Float × Float). near_by p.0 p.1 a.most) (zip x.values y.values) =
    all_from_yields_List {s = c.zip.result} (λ (p : Float × Float). near_by p.0 p.1 a.most) c.all.new.self _ c.all.result c.all.ensures.ran
    (YieldsList-from_zip (YieldsList-from_slice x.values (cc)) (YieldsList-from_slice y.values (cc)))
    (λ p b q k. search (rules, tests)) in
    elim c.if-self-other.branch [
      | then-self-other w ↦
          let numbers : eqb x.number y.number ≡ true = eq-eqb _ _ w.if-self-other.true in
          let counts : eqb x.count y.count ≡ true = sym w.value-is ∙ c.if-self-other-2.true in
          near
          ∙ sym (λ j. numbers j && counts j && list_all (λ (p : Float × Float). near_by p.0 p.1 a.most) (zip x.values y.values))
      | else-self-other w ↦ absurd (w.if-self-other.false (eqb-true _ _ (sym w.value-is ∙ c.if-self-other-2.true)))
    ]
