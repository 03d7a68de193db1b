use Rattle.std.proofs.Common.{rules, ◌≡◌, ◌∙◌}
use Rattle.std.specs.Prelude.{None}
use Rattle.model.specs.Lists.{part}
use Rattle.lists.specs.Digits.{word_of}
use Rattle.replay.specs.Lines.{line_of}
use Rattle.replay.proofs.line.Line.parse.Goals as goal

pub returns-in_err-double : goal.returns-in_err-double
returns-in_err-double c =
    let line = c.args.text.now in
    let none : c.from_residual.result ≡ None = search rules in
    none
    ∙ (λ j.
    line_of line (c.in_err-double.ensures j) (word_of (part line 2 8)) (word_of (part line 10 8)) (word_of (part line 19 8)))

pub returns-in_err-first : goal.returns-in_err-first
returns-in_err-first c =
    let line = c.args.text.now in
    let none : c.from_residual-in_err-first.result ≡ None = search rules in
    none
    ∙ (λ j.
    line_of line (c.in_ok-double.ensures j) (c.in_err-first.ensures j) (word_of (part line 10 8)) (word_of (part line 19 8)))

pub returns-in_err-second : goal.returns-in_err-second
returns-in_err-second c =
    let line = c.args.text.now in
    let none : c.from_residual-in_err-second.result ≡ None = search rules in
    none
    ∙ (λ j.
    line_of line (c.in_ok-double.ensures j) (c.in_ok-first.ensures j) (c.in_err-second.ensures j) (word_of (part line 19 8)))

pub returns-in_err-answer : goal.returns-in_err-answer
returns-in_err-answer c =
    let line = c.args.text.now in
    let none : c.from_residual-in_err-answer.result ≡ None = search rules in
    none
    ∙ (λ j.
    line_of line (c.in_ok-double.ensures j) (c.in_ok-first.ensures j) (c.in_ok-second.ensures j) (c.in_err-answer.ensures j))
