-- The ids from i on are pushed.
use mathlib.Core.Path.{◌≡◌, refl, sym, ap, ◌∙◌}
use mathlib.Core.List.{List, ◌∷◌, ◌++◌}
use Prim.Native.Nat.{ℕ, ◌+◌, ◌-◌, ◌*◌}
use native.Mathlib.Omega.{arith}
use lib.ListN.{length, get_or, drop, length-set}
use lib.Seq.{paste, paste-zero}
use Rattle.placing.specs.WalkRoom.{Item, listed_as, stack_of, words_for}
use Rattle.placing.proofs.Stack.{pushed, listed-none, listed_more, words_more}
use Rattle.placing.proofs.push.Goals as goal

pub loop-i-init : goal.loop-i-init
loop-i-init c =
    let s = c.args in
    let l = s.list.now in
    let z : 0 ≡ length l - length l = omega arith in (
      omega arith,
      refl,
      ap (λ (x : List Item). x ++ stack_of s.walk.now s.top) (sym (listed-none s.code l)),
      refl,
      paste-zero s.walk.now (2 * s.top) (words_for s.code (drop (length l) l))
          ∙ ap (λ (k : ℕ). paste s.walk.now (2 * s.top) (words_for s.code (drop (length l) l)) (2 * k)) z,
    )

pub bounds-walk-at-in-loop-i : goal.bounds-walk-at-in-loop-i
bounds-walk-at-in-loop-i c = simp length-set (omega arith)

pub loop-i-preserved : goal.loop-i-preserved
loop-i-preserved c =
    let s = c.args in
    let l = c.loop-i in
    let n = length s.list.now in
    let more : n - l.i + 1 ≡ n - (l.i - 1) = omega arith in (
      omega arith,
      omega arith,
      pushed l.walk l.at _ s.code (omega arith)
          ∙ ap (λ (x : List Item). record { id = get_or s.list.now (l.i - 1) 0; code = s.code } ∷ x) l.invariant.2
          ∙ ap (λ (x : List Item). x ++ stack_of s.walk.now s.top) (sym (listed_more s.code s.list.now (l.i - 1) l.i (omega arith) (omega arith))),
      simp length-set l.invariant.3,
      words_more s.walk.now l.walk s.list.now s.code s.top l.at (n - l.i) (l.i - 1) l.i
          l.invariant.4 (omega arith) (omega arith) (omega arith) (omega arith)
          ∙ ap (λ (k : ℕ). paste s.walk.now (2 * s.top) (words_for s.code (drop (l.i - 1) s.list.now)) (2 * k)) more,
    )

pub returns : goal.returns
returns c =
    let s = c.args in
    let l = c.loop-i in
    let z : l.i ≡ 0 = omega arith in
    let n : length s.list.now - l.i ≡ length s.list.now = omega arith in
    record {
      higher = omega arith;
      walk = l.invariant.4
          ∙ (λ j. paste s.walk.now (2 * s.top) (words_for s.code (drop (z j) s.list.now)) (2 * n j));
      stack = l.invariant.2 ∙ ap (λ (k : ℕ). listed_as s.code (drop k s.list.now) ++ stack_of s.walk.now s.top) z;
    }
