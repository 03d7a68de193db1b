-- What is read of a text is a reading, and where nothing is read there is none. Assumes nothing.
use mathlib.Core.Path.{◌≡◌, sym, subst, ◌∙◌}
use mathlib.Core.Bool.{Bool, true, false}
use mathlib.Core.List.{List, [], ◌∷◌}
use mathlib.Core.Option.{none, some, some-injective, none-ne-some}
use Prim.Native.Nat.{ℕ, zero, suc, ◌%◌}
use native.Mathlib.Omega.{arith}
use lib.Dec.{T, eqb}
use lib.ListN.{length, get_or, drop}
use Rattle.model.specs.Lists.{pick}
use Rattle.grammar.specs.Digits.{base_of}
use Rattle.grammar.specs.Forms.{Slot, Kind, Field, Form, Document, document_text}
use Rattle.grammar.specs.Forms.{Small, SmallField, FitsSlots, FitsKind, FitsKinds}
use Rattle.grammar.specs.Shape.{holds, Reads}
use Rattle.grammar.specs.Parsed.{code_of, Got, got, onto, word_in, name_in, items_in, field_in, fields_in, forms_in}
use Rattle.grammar.specs.Parsed.{document_in, parsed, same, is_text, reading_of, readable}
use Rattle.grammar.proofs.Words.{both}
use Rattle.grammar.proofs.Back.{same-eq, reading-found}

picked : {A : Type 0} (P : A → Type 0) (b : Bool) (x y : A) → P x → P y → P (pick b x y)
picked P true x y p q = p
picked P false x y p q = q

items-small : (n base : ℕ) (s : List ℕ) → Small (items_in n base s).made
unfolding items_in
items-small zero base s = tt
items-small (suc n) base s =
    let w = word_in base 0 (drop 1 s) in
    picked (λ (g : Got (List ℕ)). Small g.made) (eqb (get_or s 0 0) 32)
    (onto (w.made % 0x1_0000_0000) (items_in n base w.rest)) (got [] (drop 1 s))
    (omega arith, items-small n base w.rest) tt

field-small : (n : ℕ) (t : Slot) (s : List ℕ) → SmallField (field_in n t s).made
unfolding field_in
field-small n t s =
    let w = name_in (drop 1 s) in
    let g = items_in n (base_of t.sort) w.rest in
    picked (λ (v : Got Field). SmallField v.made) (eqb w.made (code_of t.name))
    (got (some g.made) g.rest) (got none s)
    (items-small n (base_of t.sort) w.rest) tt

fields_fit : (n : ℕ) (ts : List Slot) (s : List ℕ) → FitsSlots ts (fields_in n ts s).made
unfolding fields_in
fields_fit n [] s = tt
fields_fit n (t ∷ ts) s = (field-small n t s, fields_fit n ts (field_in n t s).rest)

forms-fit : (n m : ℕ) (k : Kind) (s : List ℕ) → FitsKind k (forms_in n m k s).made
unfolding forms_in
forms-fit n zero k s = tt
forms-fit n (suc m) k s =
    let w = name_in s in
    let f = fields_in n k.slots w.rest in
    picked (λ (v : Got (List Form)). FitsKind k v.made) (eqb w.made (code_of k.title))
    (onto f.made (forms_in n m k f.rest)) (got [] s)
    (fields_fit n k.slots w.rest, forms-fit n m k f.rest) tt

-- what is made of any text is a document of the schema
pub made-fits : (n : ℕ) (ks : List Kind) (s : List ℕ) → FitsKinds ks (document_in n ks s).made
unfolding document_in
made-fits n [] s = tt
made-fits n (k ∷ ks) s = (forms-fit n n k s, made-fits n ks (forms_in n n k s).rest)

module _ (ks : List Kind) (text : List ℕ) where
  is-reading : T (is_text ks text (parsed ks text)) → Reads ks text (parsed ks text)
  is-reading h =
      let q = both (same (document_text ks (parsed ks text)) text) (holds ks (parsed ks text)) h in
      record { fits = made-fits (length text) ks text; shaped = q.1; spelled = same-eq _ text q.0 }

  -- what is read is a reading
  pub found-reads : (d : Document) → reading_of ks text ≡ some d → Reads ks text d
  unfolding reading_of
  found-reads d = go (is_text ks text (parsed ks text)) is-reading
    where
      go : (b : Bool) → (T b → Reads ks text (parsed ks text)) → pick b (some (parsed ks text)) none ≡ some d
          → Reads ks text d
      go true h e = subst (Reads ks text) (some-injective _ d e) (h tt)
      go false h e = absurd (none-ne-some d e)

  -- where nothing is read there is no reading
  pub none_reads : T (readable ks) → reading_of ks text ≡ none → (d : Document) → Reads ks text d → ⊥
  none_reads u e d r = none-ne-some d (sym e ∙ reading-found ks u text d r)
