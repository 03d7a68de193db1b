-- The tables of a scene by their numbers, their records put one by one, and the text of a scene as that of its tables.
-- Assumes nothing.
use mathlib.Core.Path.{◌≡◌, refl, sym, ap, ◌∙◌}
use mathlib.Core.Bool.{true}
use mathlib.Core.List.{List, [], ◌++◌, append-nil}
use Prim.Native.Nat.{ℕ, zero, suc, ◌+◌, ◌-◌, ◌≤◌, ◌<◌}
use native.Mathlib.Numerals.{add-one}
use native.Mathlib.Omega.{arith}
use lib.Ieee.{Float}
use Rattle.model.specs.Lists.{tabulate}
use Rattle.model.proofs.ListLaws.{length-tabulate, get_d_tabulate}
use Rattle.tracks.specs.declared.Part.{Part}
use Rattle.tables.specs.Decoded.{Lent}
use Rattle.grammar.specs.Forms.{Kind, form_text, forms_text, document_text}
use Rattle.spelling.specs.Pushed.{Out, pushes}
use Rattle.spelling.proofs.Pushing.{Parts, Going, going_more, going_done, put-append}
use Rattle.scene_schema.specs.Schema.{kinds, kind_at}
use Rattle.scene_schema.proofs.Tables.{NoKey}
use Rattle.scene_spelling.specs.Written.{scene_form, document_of}
use Rattle.scene_spelling.proofs.FieldLaws.{put_same}
use Rattle.scene_writing.specs.Forms.{table_for, form_for, table_text, tables_text}
use Rattle.scene_writing.specs.Writing.{scene_text}

past-keys : (n k : ℕ) → NoKey (λ i. true) n k → n ≤ k
past-keys zero k w = omega arith
past-keys (suc n) k w = let h = past-keys n k w.0 in omega (arith, w.1)

-- none of the first seven: what the last arm of a match knows
pub last-table : (k : ℕ) → k < 8 → NoKey (λ i. true) 7 k → k ≡ 7
last-table k h w = let past = past-keys 7 k w in omega arith

-- ---- a record, and the records of a table
abbrev record_text : Lent → Part → ℕ → ℕ → List ℕ
record_text l t k i = form_text (kind_at (suc k)) (form_for l t k i)

pub put-arm : (l : Lent) (t : Part) {j k : ℕ} (i : ℕ) (o : Out) {left : Out} → k ≡ j
    → left ≡ pushes (record_text l t j i) o → left ≡ pushes (record_text l t k i) o
put-arm l t i o e = put_same o (ap (λ (k : ℕ). record_text l t k i) (sym e))

parts : (kind : Kind) → Parts (forms_text kind) (form_text kind)
unfolding forms_text
parts kind = record { none = refl; more = λ x xs. refl }

-- what is still to put of a table makes up what was to put
abbrev pub Putting : Lent → Part → ℕ → Out → Out → ℕ → Type 0
Putting l t k lent left i = Going (forms_text (kind_at (suc k))) (tabulate t.count (form_for l t k)) lent left i

module _ (l : Lent) (t : Part) (k i : ℕ) (lent : Out) {left : Out} where
  pub record-more : (mid : Out) → Putting l t k lent mid i → i < t.count → left ≡ pushes (record_text l t k i) mid
      → Putting l t k lent left (i + 1)
  record-more mid e h p =
      let forms = form_for l t k in
      let all = tabulate t.count forms in
      let kind = kind_at (suc k) in
      going_more (parts kind) all i [] (record_text l t k i) lent mid e
      (omega (arith, length-tabulate t.count forms))
      (ap (form_text kind) (sym (get_d_tabulate t.count forms i [] h))) p

  pub table_done : t ≡ table_for l.header k → Putting l t k lent left i → t.count ≤ i
      → left ≡ pushes (table_text l k) lent
  table_done f e h =
      let forms = form_for l t k in
      let kind = kind_at (suc k) in
      put_same lent (ap (λ (t : Part). forms_text kind (tabulate t.count (form_for l t k))) f)
      (going_done (parts kind) (tabulate t.count forms) i lent left e
      (omega (arith, length-tabulate t.count forms)))

-- ---- the tables
-- what the tables from k on make of the output is what all make of that lent
abbrev pub Tables : Lent → ℕ → Out → Out → Type 0
Tables l k lent left = pushes (tables_text l k (8 - k)) left ≡ pushes (tables_text l 0 8) lent

module _ (l : Lent) (k : ℕ) (lent : Out) {left : Out} where
  pub tables_more : (mid : Out) → Tables l k lent mid → k < 8 → left ≡ pushes (table_text l k) mid
      → Tables l (k + 1) lent left
  unfolding tables_text
  tables_more mid e h p =
      let one : 8 - k ≡ suc (8 - suc k) = omega arith in
      let rest = tables_text l (suc k) (8 - suc k) in
      rw (add-one k) (put-append (table_text l k) rest mid p refl ∙ rw one at e)

  pub tables-done : Tables l k lent left → 8 ≤ k → left ≡ pushes (tables_text l 0 8) lent
  unfolding tables_text pushes
  tables-done e h = let none : 8 - k ≡ 0 = omega arith in rw none at e

pub scene-text : (l : Lent) (node : ℕ) (time : Float)
    → form_text (kind_at 0) (scene_form l.words l.header.graph.roots node time) ++ tables_text l 0 8
    ≡ scene_text l node time
unfolding document_text forms_text document_of kinds tables_text
scene-text l node time =
    let scene = form_text (kind_at 0) (scene_form l.words l.header.graph.roots node time) in
    ap (λ (bs : List ℕ). bs ++ tables_text l 0 8) (sym (append-nil scene))
