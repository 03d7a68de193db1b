-- What the writer answers: the place that a text leaves is its length, and a text that has room is written as it
-- stands. Assumes nothing.
use mathlib.Core.Path.{◌≡◌, refl, sym, ap, ◌∙◌}
use mathlib.Core.List.{List, [], ◌∷◌}
use Prim.Native.Nat.{ℕ, suc, ◌+◌, ◌≤◌, ◌<◌, min}
use native.Mathlib.Omega.{arith}
use borrow.Author.Tests.{lt-ltb, le-ltb, ne_eqb}
use lib.Dec.{eqb}
use lib.ListN.{length}
use lib.Seq.{sets}
use Rattle.std.proofs.Common.{Result, Ok, Err}
use Rattle.std.specs.Result.{IsErrAnd}
use Rattle.borrowed.specs.Slices.{Words}
use Rattle.model.specs.Lists.{pick}
use Rattle.model.specs.Refusals.{number, short_output, first_of}
use Rattle.model.proofs.Numbers.{lowest-some}
use Rattle.refusals.specs.Drawn.{number_of}
use Rattle.refusals.specs.declared.Refusal.{Refusal}
use Rattle.refusals.proofs.Told.{not-none, passed-on}
use Rattle.tables.specs.Decoded.{Lent}
use Rattle.checks.specs.Drawn.{tables_number}
use Rattle.spelling.specs.Pushed.{Out, out_at, farthest, push, pushes}
use Rattle.spelling.proofs.Pushing.{put-sets}
use Rattle.scene_writing.specs.declared.Written.{Written}
use Rattle.scene_writing.specs.Writing.{written_as, told_by, write_number, SceneWritten, length_for}

-- ---- the place that a text leaves
place-left : (bs : List ℕ) (o : Out) → o.at ≤ farthest → (pushes bs o).at ≡ min (o.at + length bs) farthest
unfolding pushes
place-left [] o h = omega arith
place-left (b ∷ bs) o h =
    let next = min (suc o.at) farthest in
    let e : min (next + length bs) farthest ≡ min (o.at + suc (length bs)) farthest = omega arith in
    place-left bs (push b o) (omega arith) ∙ e

measured : (text bytes : List ℕ) {left : Out} → left ≡ pushes text (out_at bytes 0)
    → left.at ≡ min (length text) farthest
measured text bytes e =
    let zero-on : 0 + length text ≡ length text = omega arith in
    ap (λ (o : Out). o.at) e ∙ rw zero-on at (place-left text (out_at bytes 0) (omega arith))

-- ---- a text that has room
whole : (text lent : List ℕ) {left : Out} → length lent < farthest → length text ≤ length lent
    → left ≡ pushes text (out_at lent 0) → left ≡ out_at (sets lent 0 text) (length text)
unfolding pushes
whole [] lent h r e = e
whole (b ∷ bs) lent h r e =
    let text = b ∷ bs in
    e ∙ sym (put-sets lent 0 text (length text) (omega arith) refl (omega arith) refl (omega arith))

-- ---- what is answered
pub length-refused : (l : Lent) (text : List ℕ) (r : Result ℕ Refusal) (e : Refusal) → IsErrAnd r (λ y. y ≡ e)
    → number_of e ≡ tables_number l → told_by r ≡ length_for l text
length-refused l text r e p h =
    let no = sym (ne_eqb (tables_number l) 0 (λ z. not-none e (h ∙ z))) in
    ap told_by (passed-on r e p) ∙ (λ i. written_as (h i) (pick (no i) (min (length text) farthest) 0))

pub length-told : (l : Lent) (text bytes : List ℕ) {left : Out} → 0 ≡ tables_number l
    → left ≡ pushes text (out_at bytes 0) → told_by (Ok left.at) ≡ length_for l text
length-told l text bytes z p =
    ap (written_as 0) (measured text bytes p)
    ∙ (λ i. written_as (z i) (pick (eqb (z i) 0) (min (length text) farthest) 0))

module _ (l : Lent) (text : List ℕ) (out : Words) where
  abbrev lent : List ℕ
  lent = out.entry.now

  answered : {r : Written} (n : ℕ) → n ≡ write_number l text (length lent)
      → r ≡ written_as n (pick (eqb n 0) (length text) 0)
      → out.exit.now ≡ pick (eqb n 0) (sets lent 0 text) lent → SceneWritten l text out r
  answered n f a o = record {
    answer = a ∙ ap (λ (n : ℕ). written_as n (pick (eqb n 0) (length text) 0)) f;
    output = o ∙ ap (λ (n : ℕ). pick (eqb n 0) (sets lent 0 text) lent) f;
  }

  pub write-refused : (r : Result ℕ Refusal) (e : Refusal) → IsErrAnd r (λ y. y ≡ e)
      → told_by (Err e) ≡ length_for l text → out.exit.now ≡ lent → SceneWritten l text out (told_by r)
  write-refused r e p told o =
      let g = tables_number l in
      let some : g ≡ 0 → ⊥ = λ z. not-none e (ap (λ (w : Written). w.number) told ∙ z) in
      let none = ne_eqb g 0 some in
      answered g (lowest-some g _ some) (ap told_by (passed-on r e p) ∙ rw none (rw none at told)) (rw none o)

  module _ {n : ℕ} (told : told_by (Ok n) ≡ length_for l text) where
    drawn : 0 ≡ tables_number l
    drawn = ap (λ (w : Written). w.number) told

    needed : n ≡ min (length text) farthest
    needed = rw (← drawn) at (ap (λ (w : Written). w.length) told)

    pub write-short : length lent < n → out.exit.now ≡ lent → SceneWritten l text out (written_as (number short_output) 0)
    unfolding first_of
    write-short h o =
        let short : length lent < length text = omega (arith, needed) in
        answered 10 (rw (← drawn, lt-ltb (length lent) (length text) short) refl) refl o

    pub write-whole : {next : ℕ} → n ≤ length lent → length lent < farthest
        → out_at out.exit.now next ≡ pushes text (out_at lent 0) → SceneWritten l text out (written_as 0 next)
    unfolding first_of
    write-whole h b p =
        let fits : length text ≤ length lent = omega (arith, needed) in
        let put = whole text lent b fits p in
        answered 0 (rw (← drawn, le-ltb (length lent) (length text) fits) refl)
        (ap (λ (o : Out). written_as 0 o.at) put) (ap (λ (o : Out). o.bytes) put)
