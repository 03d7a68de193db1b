-- The sum, with what is still to come, makes up all words.
use mathlib.Core.Path.{◌≡◌, refl, sym, ap, ◌∙◌}
use Prim.Native.Nat.{ℕ, ◌+◌, ◌*◌, min}
use native.Mathlib.Omega.{arith}
use lib.ListN.{get_or, drop}
use Rattle.scene_marks.specs.Marks.{stride_of}
use Rattle.spelling.specs.Pushed.{farthest}
use Rattle.scene_text.specs.Scanned.{words_of_counts, words_for}
use Rattle.scene_text.proofs.WordLaws.{kind-words, stops, no-kind-left}
use Rattle.scene_text.proofs.tables_read.words_for.Goals as goal

pub loop-k-preserved : goal.loop-k-preserved
loop-k-preserved c =
    let counts = c.args.counts in
    let k = c.loop-k.k in
    let sum = c.loop-k.sum in
    let more = words_of_counts (k + 1) (drop (k + 1) counts) in
    let n = get_or counts k 0 in
    let step : c.more_words-sum.result ≡ min (sum + n * stride_of k) farthest
    = c.more_words-sum.ensures.0 ∙ ap (λ (s : ℕ). min (sum + n * s) farthest) c.stride.ensures in
    let all = ap (λ (w : ℕ). min (sum + w) farthest) (sym (kind-words k counts (omega arith)))
    ∙ c.loop-k.invariant.0 in (
      stops sum (n * stride_of k) more c.more_words-sum.result (words_for c.args.ids counts) step all,
      (c.more_words-sum.ensures.1, omega arith),
    )

pub returns : goal.returns
returns c =
    let counts = c.args.counts in
    let none = no-kind-left c.loop-k.k counts (omega arith) in
    (omega (arith, c.loop-k.invariant.0), c.loop-k.invariant.1.0)

pub loop-k-init : goal.loop-k-init
loop-k-init c = (refl, (c.requires, omega arith))

pub offset_bounds-counts-k : goal.offset_bounds-counts-k
offset_bounds-counts-k c = omega arith

pub bounds-counts-k : goal.bounds-counts-k
bounds-counts-k c = omega arith

pub more_words-sum-requires : goal.more_words-sum-requires
more_words-sum-requires c = omega arith
