-- What is put of a field: a text in place of one that is the same, a field that is there, and one that is not; that the
-- words of a list fit 32 bits. Assumes nothing.
use mathlib.Core.Path.{◌≡◌, sym, ap, ◌∙◌}
use mathlib.Core.Bool.{Bool, true, false}
use mathlib.Core.List.{List, []}
use mathlib.Core.Option.{some}
use Prim.Native.Nat.{ℕ, ◌+◌, ◌*◌, ◌<◌}
use native.Mathlib.Omega.{arith}
use lib.Dec.{eqb}
use lib.ListN.{length, get_or}
use mir.Syntax.{w32}
use mir.Val.{Fits}
use Rattle.tracks.specs.declared.Part.{Part}
use Rattle.tables.specs.Records.{word_of, part_of}
use Rattle.grammar.specs.Digits.{Sort}
use Rattle.spelling.specs.Pushed.{Out, pushes}
use Rattle.spelling.proofs.Pushing.{going-length}
use Rattle.scene_spelling.specs.Written.{there}
use Rattle.scene_spelling.specs.Texts.{slot_text}

pub put_same : {bs cs : List ℕ} (o : Out) {left : Out} → bs ≡ cs → left ≡ pushes bs o → left ≡ pushes cs o
put_same o e p = p ∙ ap (λ (bs : List ℕ). pushes bs o) e

pub put-length : (bs : List ℕ) (o : Out) {left : Out} → left ≡ pushes bs o
    → length left.bytes ≡ length o.bytes
unfolding pushes
put-length bs o {left} e = going-length [] bs left o e

module _ (g : ℕ) (s : Sort) {b : Bool} where
  pub put-there : {xs ys : List ℕ} (o : Out) {left : Out} → b ≡ true → xs ≡ ys
      → left ≡ pushes (slot_text g s (some xs)) o → left ≡ pushes (slot_text g s (there b ys)) o
  put-there o e f = put_same o (λ i. slot_text g s (there (sym e i) (f i)))

  pub put-absent : (xs : List ℕ) (o : Out) → b ≡ false → o ≡ pushes (slot_text g s (there b xs)) o
  unfolding pushes
  put-absent xs o e = λ i. pushes (slot_text g s (there (sym e i) xs)) o

pub tag_is : {tag n : ℕ} (m : ℕ) → tag ≡ n → eqb tag m ≡ eqb n m
tag_is m e = ap (λ (t : ℕ). eqb t m) e

pub part-fits : (words : List ℕ) (t : Part) (stride i k : ℕ) {p : Part} → p ≡ part_of words t stride i k
    → ((j : ℕ) → Fits w32 (get_or words j 0)) → (p.at < 0x1_0000_0000) × (p.count < 0x1_0000_0000)
unfolding word_of
part-fits words t stride i k e fits =
    let at = t.at + i * stride in
    let h = fits (at + k) in
    let l = fits (at + (k + 1)) in
    rw e (omega arith)
