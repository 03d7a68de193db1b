-- What is made of the text of a document is the document; so a text has at most one reading. Assumes nothing.
use mathlib.Core.Path.{◌≡◌, refl, sym, ap, subst, ◌∙◌}
use mathlib.Core.Bool.{Bool, true, false, ◌&&◌, not}
use mathlib.Core.List.{List, [], ◌∷◌, ◌++◌, append_assoc}
use mathlib.Core.Option.{none, some}
use Prim.Native.Nat.{ℕ, zero, suc, ◌%◌, ◌≤◌, ◌<◌}
use native.Mathlib.Nat.{mod-eq_of_lt}
use native.Mathlib.Omega.{arith}
use borrow.Author.Tests.{eq-eqb}
use lib.Dec.{T, eqb, eqb_refl, eqb→eq}
use lib.ListN.{length, drop, length-append}
use Rattle.model.specs.Lists.{pick}
use Rattle.grammar.specs.Digits.{Sort, base_of, digits_of, items_text}
use Rattle.grammar.specs.Forms.{Slot, Kind, Field, Form, Document, Small, FitsSlots, FitsKind, FitsKinds}
use Rattle.grammar.specs.Forms.{field_text, fields_text, form_text, forms_text, document_text}
use Rattle.grammar.specs.Shape.{holds, Reads}
use Rattle.grammar.specs.Parsed.{code_of, Got, got, onto, word_in, name_in, items_in, field_in, fields_in, forms_in}
use Rattle.grammar.specs.Parsed.{document_in, parsed, same, is_text, reading_of, lettered, apart, distinct}
use Rattle.grammar.specs.Parsed.{kinds_apart, readable}
use Rattle.grammar.proofs.Words.{both, and-of, digits-spell, Stops, word_read}

-- ---- lengths: a list of items or forms is no longer than its text

pub items-short : (s : Sort) (xs : List ℕ) → length xs ≤ length (items_text s xs)
unfolding items_text
items-short s [] = omega arith
items-short s (x ∷ xs) = simp length-append (omega (arith, items-short s xs))

pub field-short : (t : Slot) (xs : List ℕ) → length xs < length (field_text t (some xs))
field-short t xs = simp length-append (omega (arith, items-short t.sort xs))

pub form-short : (k : Kind) (f : Form) → length (fields_text k.slots f) < length (form_text k f)
form-short k f = simp length-append (omega arith)

pub forms-short : (k : Kind) (fs : List Form) → length fs ≤ length (forms_text k fs)
unfolding forms_text
forms-short k [] = omega arith
forms-short k (f ∷ fs) = simp length-append (omega (arith, forms-short k fs, form-short k f))

-- ---- what a readable schema tells, slot by slot and kind by kind

fails : (b : Bool) → T (not b) → b ≡ false
fails true h = absurd h
fails false h = refl

differ-and : (c n : ℕ) (b : Bool) → T (not (eqb n c) && b) → (eqb n c ≡ false) × T b
differ-and c n b h = let q = both (not (eqb n c)) b h in (fails (eqb n c) q.0, q.1)

apart_next : (c : ℕ) (t : Slot) (ts : List Slot) → T (apart c (t ∷ ts))
    → (eqb (code_of t.name) c ≡ false) × T (apart c ts)
unfolding apart
apart_next c t ts h = differ-and c (code_of t.name) (apart c ts) h

kinds-next : (c : ℕ) (k : Kind) (ks : List Kind) → T (kinds_apart c (k ∷ ks))
    → (eqb (code_of k.title) c ≡ false) × T (kinds_apart c ks)
unfolding kinds_apart
kinds-next c k ks h = differ-and c (code_of k.title) (kinds_apart c ks) h

record NextSlot (t : Slot) (ts : List Slot) : Type 0 where
  letters : T (lettered t.name)
  alone : T (apart (code_of t.name) ts)
  others : T (distinct ts)

next-slot : (t : Slot) (ts : List Slot) → T (distinct (t ∷ ts)) → NextSlot t ts
unfolding distinct
next-slot t ts h =
    let q = both (lettered t.name && apart (code_of t.name) ts) (distinct ts) h in
    let r = both (lettered t.name) (apart (code_of t.name) ts) q.0 in
    record { letters = r.0; alone = r.1; others = q.1 }

record NextKind (k : Kind) (ks : List Kind) : Type 0 where
  letters : T (lettered k.title)
  slots : T (distinct k.slots)
  alone : T (kinds_apart (code_of k.title) ks)
  others : T (readable ks)

next-kind : (k : Kind) (ks : List Kind) → T (readable (k ∷ ks)) → NextKind k ks
unfolding readable
next-kind k ks h =
    let own = lettered k.title && distinct k.slots in
    let q = both (own && kinds_apart (code_of k.title) ks) (readable ks) h in
    let r = both own (kinds_apart (code_of k.title) ks) q.0 in
    let p = both (lettered k.title) (distinct k.slots) r.0 in
    record { letters = p.0; slots = p.1; alone = r.1; others = q.1 }

-- ---- items

stops-items : (s : Sort) (xs r : List ℕ) → Stops (items_text s xs ++ 41 ∷ r)
unfolding items_text
stops-items s [] r = tt
stops-items s (x ∷ xs) r = tt

items-read : (n : ℕ) (s : Sort) (xs r : List ℕ) → length xs < n → Small xs
    → items_in n (base_of s) (items_text s xs ++ 41 ∷ r) ≡ got xs r
unfolding items_in items_text
items-read zero s xs r h l = absurd (omega arith)
items-read (suc n) s [] r h l = refl
items-read (suc n) s (x ∷ xs) r h l =
    let d = digits-spell s x l.0 in
    let after = items_text s xs ++ 41 ∷ r in
    ap (λ (w : Got ℕ). onto (w.made % 0x1_0000_0000) (items_in n (base_of s) w.rest))
    (ap (word_in (base_of s) 0) (append_assoc (digits_of s x) (items_text s xs) (41 ∷ r))
    ∙ word_read (base_of s) (digits_of s x) after d.letters (stops-items s xs r)
    ∙ ap (λ (v : ℕ). got v after) d.value)
    ∙ (λ j. onto (mod-eq_of_lt l.0 j) (items-read n s xs r (omega arith) l.1 j))

-- ---- fields

name-read : (name r : List ℕ) → T (lettered name) → Stops r → name_in (40 ∷ name ++ r) ≡ got (code_of name) r
unfolding name_in
name-read name r p h = word_read 16 name r p h

-- what follows the name of a field
abbrev behind : Slot → List ℕ → List ℕ → List ℕ
behind t xs r = items_text t.sort xs ++ 41 ∷ r

named : (t : Slot) (xs r : List ℕ) → T (lettered t.name)
    → name_in (drop 1 (field_text t (some xs) ++ r)) ≡ got (code_of t.name) (behind t xs r)
named t xs r p =
    let e : field_text t (some xs) ++ r ≡ 32 ∷ 40 ∷ t.name ++ behind t xs r = simp append_assoc in
    ap (λ (l : List ℕ). name_in (drop 1 l)) e ∙ name-read t.name (behind t xs r) p (stops-items t.sort xs r)

-- what is made of a field, from its name
abbrev field_from : ℕ → Slot → List ℕ → Got ℕ → Bool → Got Field
field_from n t s w b =
    let g = items_in n (base_of t.sort) w.rest in
    pick b (got (some g.made) g.rest) (got none s)

field-read : (n : ℕ) (t : Slot) (xs r : List ℕ) → T (lettered t.name) → length xs < n → Small xs
    → field_in n t (field_text t (some xs) ++ r) ≡ got (some xs) r
unfolding field_in
field-read n t xs r p h l =
    let c = code_of t.name in
    let s = field_text t (some xs) ++ r in
    ap (λ (w : Got ℕ). field_from n t s w (eqb w.made c)) (named t xs r p)
    ∙ ap (field_from n t s (got c (behind t xs r))) (eq-eqb c c refl)
    ∙ ap (λ (g : Got (List ℕ)). got (some g.made) g.rest) (items-read n t.sort xs r h l)

field-absent : (n : ℕ) (t : Slot) (s : List ℕ) → eqb (name_in (drop 1 s)).made (code_of t.name) ≡ false
    → field_in n t s ≡ got none s
unfolding field_in
field-absent n t s e = ap (field_from n t s (name_in (drop 1 s))) e

-- the end of a form
abbrev close : List ℕ → List ℕ
close r = 41 ∷ 10 ∷ r

-- no field of another name comes first
first-name : (c : ℕ) (ts : List Slot) (fs : Form) (r : List ℕ) → T (distinct ts) → T (apart c ts) → FitsSlots ts fs
    → eqb (name_in (drop 1 (fields_text ts fs ++ close r))).made c ≡ false
unfolding fields_text apart name_in
first-name c [] [] r u a f = fails (eqb 0 c) a
first-name c [] (g ∷ fs) r u a f = absurd f
first-name c (t ∷ ts) [] r u a f = absurd f
first-name c (t ∷ ts) (none ∷ fs) r u a f =
    first-name c ts fs r (next-slot t ts u).others (apart_next c t ts a).1 f.1
first-name c (t ∷ ts) (some xs ∷ fs) r u a f =
    let rest = fields_text ts fs ++ close r in
    ap (λ (l : List ℕ). eqb (name_in (drop 1 l)).made c)
    (append_assoc (field_text t (some xs)) (fields_text ts fs) (close r))
    ∙ ap (λ (w : Got ℕ). eqb w.made c) (named t xs rest (next-slot t ts u).letters)
    ∙ (apart_next c t ts a).0

fields_read : (n : ℕ) (ts : List Slot) (fs : Form) (r : List ℕ) → T (distinct ts) → FitsSlots ts fs
    → length (fields_text ts fs) ≤ n → fields_in n ts (fields_text ts fs ++ close r) ≡ got fs r
unfolding fields_in fields_text
fields_read n [] [] r u f h = refl
fields_read n [] (g ∷ fs) r u f h = absurd f
fields_read n (t ∷ ts) [] r u f h = absurd f
fields_read n (t ∷ ts) (none ∷ fs) r u f h =
    let v = next-slot t ts u in
    let e = first-name (code_of t.name) ts fs r v.others v.alone f.1 in
    ap (λ (g : Got Field). onto g.made (fields_in n ts g.rest))
    (field-absent n t (fields_text ts fs ++ close r) e)
    ∙ ap (onto none) (fields_read n ts fs r v.others f.1 h)
fields_read n (t ∷ ts) (some xs ∷ fs) r u f h =
    let v = next-slot t ts u in
    let text = field_text t (some xs) in
    let sum = length-append text (fields_text ts fs) in
    let rest = fields_text ts fs ++ close r in
    ap (λ (l : List ℕ). fields_in n (t ∷ ts) l) (append_assoc text (fields_text ts fs) (close r))
    ∙ ap (λ (g : Got Field). onto g.made (fields_in n ts g.rest))
    (field-read n t xs rest v.letters (omega (arith, field-short t xs, sum)) f.0)
    ∙ ap (onto (some xs)) (fields_read n ts fs r v.others f.1 (omega (arith, sum)))

-- ---- forms

stops-fields : (ts : List Slot) (fs : Form) (r : List ℕ) → Stops (fields_text ts fs ++ close r)
unfolding fields_text
stops-fields [] fs r = tt
stops-fields (t ∷ ts) [] r = tt
stops-fields (t ∷ ts) (none ∷ fs) r = stops-fields ts fs r
stops-fields (t ∷ ts) (some xs ∷ fs) r = tt

titled : (k : Kind) (f : Form) (r : List ℕ) → T (lettered k.title)
    → name_in (form_text k f ++ r) ≡ got (code_of k.title) (fields_text k.slots f ++ close r)
titled k f r p =
    simp append_assoc (name-read k.title (fields_text k.slots f ++ close r) p (stops-fields k.slots f r))

module _ (n : ℕ) (k : Kind) (p : T (lettered k.title)) (u : T (distinct k.slots)) where
  -- what is made of the forms of a kind, from the title of the first
  abbrev forms_from : ℕ → List ℕ → Got ℕ → Bool → Got (List Form)
  forms_from m s w b =
      let f = fields_in n k.slots w.rest in
      pick b (onto f.made (forms_in n m k f.rest)) (got [] s)

  -- what follows the forms of a kind is none of them
  forms-read : (m : ℕ) (fs : List Form) (r : List ℕ) → FitsKind k fs → length (forms_text k fs) ≤ n → length fs ≤ m
      → eqb (name_in r).made (code_of k.title) ≡ false → forms_in n m k (forms_text k fs ++ r) ≡ got fs r
  unfolding forms_in forms_text
  forms-read zero [] r f h l e = refl
  forms-read zero (g ∷ fs) r f h l e = absurd (omega arith)
  forms-read (suc m) [] r f h l e = ap (forms_from m r (name_in r)) e
  forms-read (suc m) (g ∷ fs) r f h l e =
      let c = code_of k.title in
      let sum = length-append (form_text k g) (forms_text k fs) in
      let rest = forms_text k fs ++ r in
      let s = form_text k g ++ rest in
      ap (forms_in n (suc m) k) (append_assoc (form_text k g) (forms_text k fs) r)
      ∙ ap (λ (w : Got ℕ). forms_from m s w (eqb w.made c)) (titled k g rest p)
      ∙ ap (forms_from m s (got c (fields_text k.slots g ++ close rest))) (eq-eqb c c refl)
      ∙ ap (λ (q : Got Form). onto q.made (forms_in n m k q.rest))
      (fields_read n k.slots g rest u f.0 (omega (arith, sum, form-short k g)))
      ∙ ap (onto g) (forms-read m fs r f.1 (omega (arith, sum)) (omega arith) e)

-- ---- the document

-- no form of another title comes first
first-title : (c : ℕ) (ks : List Kind) (d : Document) → T (readable ks) → T (kinds_apart c ks) → FitsKinds ks d
    → eqb (name_in (document_text ks d)).made c ≡ false
unfolding document_text forms_text kinds_apart name_in
first-title c [] [] u a f = fails (eqb 0 c) a
first-title c [] (fs ∷ d) u a f = absurd f
first-title c (k ∷ ks) [] u a f = absurd f
first-title c (k ∷ ks) ([] ∷ d) u a f =
    first-title c ks d (next-kind k ks u).others (kinds-next c k ks a).1 f.1
first-title c (k ∷ ks) ((g ∷ fs) ∷ d) u a f =
    let rest = forms_text k fs ++ document_text ks d in
    ap (λ (l : List ℕ). eqb (name_in l).made c) (append_assoc (form_text k g) (forms_text k fs) (document_text ks d))
    ∙ ap (λ (w : Got ℕ). eqb w.made c) (titled k g rest (next-kind k ks u).letters)
    ∙ (kinds-next c k ks a).0

document-read : (n : ℕ) (ks : List Kind) (d : Document) → T (readable ks) → FitsKinds ks d
    → length (document_text ks d) ≤ n → document_in n ks (document_text ks d) ≡ got d []
unfolding document_in document_text
document-read n [] [] u f h = refl
document-read n [] (fs ∷ d) u f h = absurd f
document-read n (k ∷ ks) [] u f h = absurd f
document-read n (k ∷ ks) (fs ∷ d) u f h =
    let v = next-kind k ks u in
    let sum = length-append (forms_text k fs) (document_text ks d) in
    let few : length fs ≤ n = omega (arith, sum, forms-short k fs) in
    let e = first-title (code_of k.title) ks d v.others v.alone f.1 in
    ap (λ (g : Got (List Form)). onto g.made (document_in n ks g.rest))
    (forms-read n k v.letters v.slots n fs (document_text ks d) f.0 (omega (arith, sum)) few e)
    ∙ ap (onto fs) (document-read n ks d v.others f.1 (omega (arith, sum)))

-- ---- readings

pub same_refl : (s : List ℕ) → T (same s s)
unfolding same
same_refl [] = tt
same_refl (x ∷ s) = and-of (eqb x x) (same s s) (eqb_refl x) (same_refl s)

pub same-eq : (s t : List ℕ) → T (same s t) → s ≡ t
unfolding same
same-eq [] [] h = refl
same-eq [] (y ∷ t) h = absurd h
same-eq (x ∷ s) [] h = absurd h
same-eq (x ∷ s) (y ∷ t) h =
    let q = both (eqb x y) (same s t) h in
    λ j. eqb→eq x y q.0 j ∷ same-eq s t q.1 j

module _ (ks : List Kind) (u : T (readable ks)) where
  pub read_back : (d : Document) → FitsKinds ks d → parsed ks (document_text ks d) ≡ d
  read_back d f =
      ap (λ (g : Got Document). g.made) (document-read (length (document_text ks d)) ks d u f (omega arith))

  -- every reading is found
  pub reading-found : (text : List ℕ) (d : Document) → Reads ks text d → reading_of ks text ≡ some d
  unfolding reading_of
  reading-found text d r =
      let e : parsed ks text ≡ d = ap (parsed ks) (sym r.spelled) ∙ read_back d r.fits in
      let s = subst (λ (l : List ℕ). T (same l text)) (sym r.spelled) (same_refl text) in
      let t = and-of (same (document_text ks d) text) (holds ks d) s r.shaped in
      ap (λ (c : Document). pick (is_text ks text c) (some c) none) e ∙ go (is_text ks text d) t
    where
      go : (b : Bool) → T b → pick b (some d) none ≡ some d
      go true p = refl
      go false p = absurd p

  -- a text has at most one reading
  pub one-reading : (text : List ℕ) (d e : Document) → Reads ks text d → Reads ks text e → d ≡ e
  one-reading text d e p q =
      sym (read_back d p.fits) ∙ ap (parsed ks) (p.spelled ∙ sym q.spelled) ∙ read_back e q.fits
