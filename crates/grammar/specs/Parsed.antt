-- What is made of any text, whether it has a reading or not: a name is told by its code, and brackets, spaces and line
-- ends are passed over unseen. A text is read by taking what is made of it and looking whether its text is this one.
-- Definitions only.
use Rattle.std.specs.Prelude.{Bool, true, false, ◌&&◌, not, List, [], ◌∷◌, ℕ, zero, suc, ◌+◌, ◌*◌, ◌/◌, ◌%◌, ltb, leb, eqb, length, get_or, drop}
use Rattle.std.proofs.Math.Option.{Option, none, some}
use Rattle.model.specs.Lists.{pick}
use Rattle.grammar.specs.Digits.{base_of}
use Rattle.grammar.specs.Forms.{Slot, Kind, Field, Form, Document, document_text}
use Rattle.grammar.specs.Shape.{holds}

-- ---- digits

-- of 0 to 9 and of a to f their value, of any other byte some number below 16
abbrev pub digit_of : ℕ → ℕ
digit_of b = (b % 16 + 9 * (b / 64)) % 16

abbrev pub onward : ℕ → ℕ → ℕ → ℕ
onward base v b = v % 0x1_0000_0000 * base + digit_of b

-- what digits spell, behind those that spell v
unfoldable pub value_of : ℕ → ℕ → List ℕ → ℕ
value_of base v [] = v
value_of base v (b ∷ bs) = value_of base (onward base v b) bs

-- what a name is told by
abbrev pub code_of : List ℕ → ℕ
code_of name = value_of 16 0 name

-- ---- what is made of the beginning of a text, and the rest

pub record Got (A : Type 0) : Type 0 where
  pub made : A
  pub rest : List ℕ

abbrev pub got : {A : Type 0} → A → List ℕ → Got A
got a s = record { made = a; rest = s }

abbrev pub onto : {A : Type 0} → A → Got (List A) → Got (List A)
onto a g = got (a ∷ g.made) g.rest

-- bytes below 48 end a word
unfoldable pub word_in : ℕ → ℕ → List ℕ → Got ℕ
word_in base v [] = got v []
word_in base v (b ∷ s) = pick (ltb b 48) (got v (b ∷ s)) (word_in base (onward base v b) s)

-- the word behind a bracket, 0 where there is none
unfoldable pub name_in : List ℕ → Got ℕ
name_in s = pick (eqb (get_or s 0 0) 40) (word_in 16 0 (drop 1 s)) (got 0 s)

-- at most so many items
unfoldable pub items_in : ℕ → ℕ → List ℕ → Got (List ℕ)
items_in zero base s = got [] s
items_in (suc n) base s =
    let w = word_in base 0 (drop 1 s) in
    pick (eqb (get_or s 0 0) 32) (onto (w.made % 0x1_0000_0000) (items_in n base w.rest)) (got [] (drop 1 s))

unfoldable pub field_in : ℕ → Slot → List ℕ → Got Field
field_in n t s =
    let w = name_in (drop 1 s) in
    let g = items_in n (base_of t.sort) w.rest in
    pick (eqb w.made (code_of t.name)) (got (some g.made) g.rest) (got none s)

unfoldable pub fields_in : ℕ → List Slot → List ℕ → Got Form
fields_in n [] s = got [] (drop 2 s)
fields_in n (t ∷ ts) s = let f = field_in n t s in onto f.made (fields_in n ts f.rest)

-- at most so many forms
unfoldable pub forms_in : ℕ → ℕ → Kind → List ℕ → Got (List Form)
forms_in n zero k s = got [] s
forms_in n (suc m) k s =
    let w = name_in s in
    let f = fields_in n k.slots w.rest in
    pick (eqb w.made (code_of k.title)) (onto f.made (forms_in n m k f.rest)) (got [] s)

unfoldable pub document_in : ℕ → List Kind → List ℕ → Got Document
document_in n [] s = got [] s
document_in n (k ∷ ks) s = let f = forms_in n n k s in onto f.made (document_in n ks f.rest)

-- a list of items or forms is shorter than the text that it stands in
abbrev pub parsed : List Kind → List ℕ → Document
parsed ks text = (document_in (length text) ks text).made

-- ---- the reading of a text, if there is one

unfoldable pub same : List ℕ → List ℕ → Bool
same [] [] = true
same [] (y ∷ ys) = false
same (x ∷ xs) [] = false
same (x ∷ xs) (y ∷ ys) = eqb x y && same xs ys

abbrev pub is_text : List Kind → List ℕ → Document → Bool
is_text ks text d = same (document_text ks d) text && holds ks d

unfoldable pub reading_of : List Kind → List ℕ → Option Document
reading_of ks text = pick (is_text ks text (parsed ks text)) (some (parsed ks text)) none

-- ---- schemas that can be read: names are of letters, and no two that could be confused have the same code

unfoldable pub lettered : List ℕ → Bool
lettered [] = true
lettered (b ∷ bs) = leb 48 b && lettered bs

unfoldable pub apart : ℕ → List Slot → Bool
apart c [] = not (eqb 0 c)
apart c (t ∷ ts) = not (eqb (code_of t.name) c) && apart c ts

unfoldable pub distinct : List Slot → Bool
distinct [] = true
distinct (t ∷ ts) = (lettered t.name && apart (code_of t.name) ts) && distinct ts

unfoldable pub kinds_apart : ℕ → List Kind → Bool
kinds_apart c [] = not (eqb 0 c)
kinds_apart c (k ∷ ks) = not (eqb (code_of k.title) c) && kinds_apart c ks

unfoldable pub readable : List Kind → Bool
readable [] = true
readable (k ∷ ks) =
    ((lettered k.title && distinct k.slots) && kinds_apart (code_of k.title) ks) && readable ks
