use mathlib.Core.Path.{◌≡◌, ap, ◌∙◌}
use Prim.Native.Nat.{ℕ, ◌+◌, ◌*◌, ◌-◌, ◌≤◌}
use native.Mathlib.Omega.{arith}
use lib.ListN.{length, take, drop}
use Rattle.wire.specs.Bytes.{words_in}
use Rattle.byte_checks.proofs.OneRecord.{inside, words_of}
use Rattle.byte_checks.proofs.records.record_bytes.Goals as goal

pub overflow_mul-start : goal.overflow_mul-start
overflow_mul-start c =
    let a = c.args in
    let lies : (a.t.at + a.i * c.record_words-stride.result) * 4 + c.record_words-stride.result * 4 ≤ length a.words.now
    = inside a.words.now a.t a.k a.i c.requires _ c.record_words-stride.ensures in
    omega (arith, lies)

pub overflow_add-start : goal.overflow_add-start
overflow_add-start c =
    let a = c.args in
    let lies : (a.t.at + a.i * c.record_words-stride.result) * 4 + c.record_words-stride.result * 4 ≤ length a.words.now
    = inside a.words.now a.t a.k a.i c.requires _ c.record_words-stride.ensures in
    omega (arith, lies)

pub overflow_mul-start-2 : goal.overflow_mul-start-2
overflow_mul-start-2 c =
    let a = c.args in
    let lies : (a.t.at + a.i * c.record_words-stride.result) * 4 + c.record_words-stride.result * 4 ≤ length a.words.now
    = inside a.words.now a.t a.k a.i c.requires _ c.record_words-stride.ensures in
    omega (arith, lies)

pub overflow_mul-end : goal.overflow_mul-end
overflow_mul-end c =
    let a = c.args in
    let lies : (a.t.at + a.i * c.record_words-stride.result) * 4 + c.record_words-stride.result * 4 ≤ length a.words.now
    = inside a.words.now a.t a.k a.i c.requires _ c.record_words-stride.ensures in
    omega (arith, lies)

pub overflow_add-end : goal.overflow_add-end
overflow_add-end c =
    let a = c.args in
    let lies : (a.t.at + a.i * c.record_words-stride.result) * 4 + c.record_words-stride.result * 4 ≤ length a.words.now
    = inside a.words.now a.t a.k a.i c.requires _ c.record_words-stride.ensures in
    omega (arith, lies)

pub slice_bounds-result-end : goal.slice_bounds-result-end
slice_bounds-result-end c =
    let a = c.args in
    let lies : (a.t.at + a.i * c.record_words-stride.result) * 4 + c.record_words-stride.result * 4 ≤ length a.words.now
    = inside a.words.now a.t a.k a.i c.requires _ c.record_words-stride.ensures in
    omega (arith, lies)

pub returns : goal.returns
returns c =
    let a = c.args in
    let start = (a.t.at + a.i * c.record_words-stride.result) * 4 in
    let long = c.record_words-stride.result * 4 in
    let e : start + long - start ≡ long = omega arith in
    ap (λ (n : ℕ). words_in (take n (drop start a.words.now))) e
    ∙ words_of a.words.now a.t a.k a.i c.requires _ c.record_words-stride.ensures
