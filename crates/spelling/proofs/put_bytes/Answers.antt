use mathlib.Core.Path.{refl, sym, ap, ◌∙◌}
use mathlib.Core.List.{List, [], ◌∷◌, ◌++◌}
use Prim.Native.Nat.{ℕ, ◌+◌, ◌-◌}
use native.Mathlib.Omega.{arith}
use borrow.Author.Rules.{rules}
use lib.ListN.{length, take, drop}
use lib.Seq.{drop-drop}
use Rattle.std.proofs.lemmas.List.Edits.{paste_all}
use Rattle.spelling.specs.Pushed.{out_at}
use Rattle.spelling.proofs.Pushing.{put-run, put-past, Parts, going-length, going_more, going_done}
use Rattle.spelling.proofs.put_bytes.Invariants.{text}
use Rattle.spelling.proofs.put_bytes.Goals as goal

parts : Parts text (λ (b : ℕ). b ∷ [])
parts = record { none = refl; more = λ x xs. refl }

pub loop-b-init : goal.loop-b-init
loop-b-init c = refl

pub loop-b-preserved : goal.loop-b-preserved
loop-b-preserved c =
    going_more parts _ _ _ _ _ _ c.loop-b.invariant c.loop-b-test.true refl c.put-k.ensures

pub shape_of-out : goal.shape_of-out
shape_of-out c = going-length _ _ _ _ c.loop-b.invariant

pub returns : goal.returns
returns c = going_done parts _ _ _ _ c.loop-b.invariant c.loop-b-test.false

pub returns-then-out-at : goal.returns-then-out-at
returns-then-out-at c =
    let a = c.args in
    sym (put-past a.bytes.now a.out.now a.at c.if-out-at.true (omega arith)
    ∙ ap (out_at a.out.now) (sym c.behind_bytes.ensures))

pub returns-then-n-out : goal.returns-then-n-out
returns-then-n-out c =
    let lent = c.args.out.now in
    let at = c.args.at in
    let bs = c.args.bytes.now in
    let n = length bs in
    put-run lent at n bs (search rules) (omega arith) refl
    (c.store_bytes.ensures ∙ paste_all lent at bs n refl
    ∙ ap (λ (l : List ℕ). take at lent ++ (bs ++ l)) (sym (drop-drop n at lent)))
