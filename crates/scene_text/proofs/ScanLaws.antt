-- What one pass over a text tells of its reading. Assumes nothing.
use mathlib.Core.Path.{◌≡◌, refl, sym, ap, subst, ◌∙◌}
use mathlib.Core.Bool.{Bool, true, false, ◌&&◌, ◌||◌, not, true≢false}
use mathlib.Core.List.{List, [], ◌∷◌, map}
use Prim.Native.Nat.{ℕ, zero, suc, ◌+◌}
use native.Mathlib.Numerals.{add-one}
use native.Mathlib.Omega.{arith}
use borrow.Author.Tests.{eq-eqb, ne_eqb, ltb-true, ltb-false}
use lib.Dec.{T, eqb, ltb, eqb→eq}
use lib.ListN.{length, get_or, drop, drop_of_length-le}
use lib.Seq.{drop-cons}
use Rattle.borrowed.specs.Slices.{Change}
use Rattle.model.specs.Lists.{pick, every}
use Rattle.grammar.specs.Forms.{Kind, Document, document_text, FitsKinds}
use Rattle.grammar.specs.Common.{common}
use Rattle.grammar.specs.Parsed.{parsed, same, is_text}
use Rattle.grammar.proofs.Found.{made-fits}
use Rattle.grammar.proofs.Words.{both}
use Rattle.grammar.proofs.Prefix.{same-common}
use Rattle.grammar.proofs.BreakLaws.{all_hold, singles, holds-split}
use Rattle.brackets.specs.declared.Met.{Met}
use Rattle.brackets.specs.Met.{met_at, meets}
use Rattle.brackets.proofs.MeetingLaws.{departed}
use Rattle.scene_schema.specs.declared.Pool.TheVariants as pool
use Rattle.scene_schema.specs.Schema.{kinds}
use Rattle.scene_forms.specs.declared.Found.{Found}
use Rattle.scene_forms.specs.Filled.{Whole, counts_as}
use Rattle.scene_forms.specs.Laid.{items_from, reach_of, reaches_from}
use Rattle.scene_forms.specs.Said.{count_of, forms_of, leaves}
use Rattle.scene_forms.specs.Read.{Slices, DocumentRead, whole_at, start_at}
use Rattle.scene_forms.proofs.TextLaws.{document-met, document-reaches}
use Rattle.scene_forms.proofs.ShapeLaws.{document-shape}
use Rattle.scene_forms.proofs.TableLaws.{document-laid}
use Rattle.scene_text.specs.Scanned.{Scanned, is_reading, leaves_table}

-- ---- a text compared from a place on

-- the first byte departs
stopped : (text bs : List ℕ) (n c m : ℕ) → c ≡ 0 → meets text bs (met_at n false) ≡ met_at (n + c) (eqb c (suc m))
stopped text bs n c m z =
    let e : n ≡ n + c = omega arith in
    departed text bs n ∙ ap (λ (k : ℕ). met_at k false) e
    ∙ ap (met_at (n + c)) (sym (ne_eqb c (suc m) (λ y. omega (arith, z, y))))

suc-eqb : (m n : ℕ) → eqb m n ≡ eqb (suc m) (suc n)
suc-eqb m n = go (eqb m n) refl
  where
    go : (b : Bool) → eqb m n ≡ b → b ≡ eqb (suc m) (suc n)
    go true e = sym (eq-eqb (suc m) (suc n) (ap suc (eqb→eq m n (subst T (sym e) tt))))
    go false e = sym (ne_eqb (suc m) (suc n) (λ z. go-not e (omega (arith, z))))
      where
        go-not : eqb m n ≡ false → m ≡ n → ⊥
        go-not e z = let t : ◌≡◌ {A = Bool} true false = sym (eq-eqb m n z) ∙ e in true≢false t

pub meets-common : (text bs : List ℕ) (n : ℕ) → meets text bs (met_at n true)
    ≡ met_at (n + common bs (drop n text)) (eqb (common bs (drop n text)) (length bs))
unfolding meets common
meets-common text [] n = let e : n ≡ n + 0 = omega arith in ap (λ (k : ℕ). met_at k true) e
meets-common text (b ∷ bs) n = go (ltb n (length text)) refl (meets-common text bs)
  where
    go : (t : Bool) → ltb n (length text) ≡ t
        → ((k : ℕ) → meets text bs (met_at k true)
        ≡ met_at (k + common bs (drop k text)) (eqb (common bs (drop k text)) (length bs)))
        → meets text bs (pick (t && eqb (get_or text n 0) b) (met_at (n + 1) true) (met_at n false))
        ≡ met_at (n + common (b ∷ bs) (drop n text)) (eqb (common (b ∷ bs) (drop n text)) (suc (length bs)))
    go false h r =
        stopped text bs n _ (length bs) (ap (common (b ∷ bs)) (drop_of_length-le text (ltb-false n (length text) h)))
    go true h r = same_byte (eqb (get_or text n 0) b) refl
      where
        cons : drop n text ≡ get_or text n 0 ∷ drop (suc n) text
        cons = drop-cons text n 0 (ltb-true n (length text) h)

        same_byte : (t : Bool) → eqb (get_or text n 0) b ≡ t
            → meets text bs (pick t (met_at (n + 1) true) (met_at n false))
            ≡ met_at (n + common (b ∷ bs) (drop n text)) (eqb (common (b ∷ bs) (drop n text)) (suc (length bs)))
        same_byte true e =
            let x : b ≡ get_or text n 0 = sym (eqb→eq (get_or text n 0) b (subst T (sym e) tt)) in
            let one = add-one n in
            let k = common bs (drop (suc n) text) in
            let more : suc k ≡ common (b ∷ bs) (drop n text)
            = sym (ap (common (b ∷ bs)) cons
            ∙ ap (λ (t : Bool). pick t (suc k) 0) (eq-eqb b (get_or text n 0) x)) in
            let at : suc n + k ≡ n + suc k = omega arith in
            ap (λ (i : ℕ). meets text bs (met_at i true)) one ∙ r (suc n)
            ∙ (λ i. met_at (at i) (suc-eqb k (length bs) i))
            ∙ ap (λ (i : ℕ). met_at (n + i) (eqb i (suc (length bs)))) more
        same_byte false e =
            stopped text bs n _ (length bs)
            (ap (common (b ∷ bs)) cons ∙ ap (λ (t : Bool). pick t (suc (common bs (drop (suc n) text))) 0)
            (ne_eqb b (get_or text n 0) (λ z. true≢false (sym (eq-eqb (get_or text n 0) b (sym z)) ∙ e))))

-- ---- booleans

-- c is as long as s and as t, or as s, which is as long as t
both_long : (c m n : ℕ) → (eqb c m && eqb c n) ≡ (eqb c m && eqb m n)
both_long c m n = go (eqb c m) refl
  where
    go : (t : Bool) → eqb c m ≡ t → (t && eqb c n) ≡ (t && eqb m n)
    go true e = ap (λ (x : ℕ). eqb x n) (eqb→eq c m (subst T (sym e) tt))
    go false e = refl

and_assoc : (a b c : Bool) → ((a && b) && c) ≡ (a && (b && c))
and_assoc true b c = refl
and_assoc false b c = refl

-- ---- the first kind alone is single

none-single : (ks : List Kind) (d : Document) → T (every (λ k. not k.single) ks) → singles ks d ≡ true
unfolding singles every
none-single [] d h = refl
none-single (k ∷ ks) [] h = refl
none-single (k ∷ ks) (fs ∷ d) h =
    let q = both (not k.single) (every (λ k. not k.single) ks) h in
    (λ j. (T_true (not k.single) q.0 j || eqb (length fs) 1) && none-single ks d q.1 j)
  where
    T_true : (b : Bool) → T b → b ≡ true
    T_true true t = refl
    T_true false t = absurd t

one-scene : (d : Document) → FitsKinds kinds d → singles kinds d ≡ eqb (count_of d 0) 1
unfolding kinds singles every
one-scene [] h = absurd h
one-scene (fs ∷ d) h =
    ap (λ (b : Bool). eqb (length fs) 1 && b) (none-single (drop 1 kinds) d tt) ∙ and-true (eqb (length fs) 1)
  where
    and-true : (b : Bool) → (b && true) ≡ b
    and-true true = refl
    and-true false = refl

-- ---- what is told

pub count_at : (d : Document) (k : ℕ) → get_or (map length d) k 0 ≡ count_of d k
count_at [] k = refl
count_at (fs ∷ d) zero = refl
count_at (fs ∷ d) (suc k) = count_at d k

reach-at : (m : ℕ) (d : Document) (k : ℕ) → get_or (reaches_from m d) k 0 ≡ reach_of (m + k) (forms_of d k)
unfolding reaches_from reach_of
reach-at m [] k = refl
reach-at m (fs ∷ d) zero = let e : m ≡ m + 0 = omega arith in ap (λ (i : ℕ). reach_of i fs) e
reach-at m (fs ∷ d) (suc k) =
    let e : suc m + k ≡ m + suc k = omega arith in
    reach-at (suc m) d k ∙ ap (λ (i : ℕ). reach_of i (forms_of d k)) e

module _ {text : List ℕ} {rows : ℕ} {met : Met} {l : Change Slices} {f : Found}
    (r : DocumentRead text rows met l f) where
  abbrev start : Whole
  start = whole_at l.from [] (start_at rows met)

  fits : FitsKinds kinds (parsed kinds text)
  fits = made-fits (length text) kinds text

  pub told-met : f.place.met ≡ meets text (document_text kinds (parsed kinds text)) met
  told-met =
      ap (λ (w : Whole). w.read.filled.met) r.read ∙ document-met text 0 kinds (parsed kinds text) refl fits start

  pub told-shape : f.place.shape.ok ≡ all_hold kinds (parsed kinds text)
  told-shape =
      ap (λ (w : Whole). w.read.filled.shape.ok) r.read
      ∙ document-shape text 0 kinds (parsed kinds text) refl fits start

  pub told-reaches : f.reaches ≡ reaches_from 0 (parsed kinds text)
  told-reaches =
      ap (λ (w : Whole). w.reaches) r.read ∙ document-reaches text 0 kinds (parsed kinds text) refl fits start

  pub told-counts : f.place.counts ≡ counts_as (length (items_from pool.Ids 0 (parsed kinds text)))
      (length (items_from pool.Floats 0 (parsed kinds text))) (length (items_from pool.NodeWeights 0 (parsed kinds text)))
      (length (items_from pool.MeshWeights 0 (parsed kinds text)))
  told-counts =
      let d = parsed kinds text in
      let z : (n : ℕ) → 0 + n ≡ n = λ n. omega arith in
      ap (λ (w : Whole). w.read.filled.tables.counts) r.read ∙ (document-laid text 0 d start).counts
      ∙ (λ i. counts_as (z (length (items_from pool.Ids 0 d)) i) (z (length (items_from pool.Floats 0 d)) i)
      (z (length (items_from pool.NodeWeights 0 d)) i) (z (length (items_from pool.MeshWeights 0 d)) i))

  pub told-leaves : leaves_table f ≡ leaves (parsed kinds text)
  told-leaves =
      let d = parsed kinds text in
      let n : (k : ℕ) → get_or f.counts k 0 ≡ count_of d k
      = λ k. ap (λ (c : List ℕ). get_or c k 0) r.counted ∙ count_at d k in
      let m : (k : ℕ) → get_or f.reaches k 0 ≡ reach_of (0 + k) (forms_of d k)
      = λ k. ap (λ (c : List ℕ). get_or c k 0) told-reaches ∙ reach-at 0 d k in
      λ i. ltb (n 4 i) (m 3 i) || (ltb (n 5 i) (m 4 i) || ltb (n 6 i) (m 5 i))

module _ {text : List ℕ} {f : Found} (s : Scanned text f) where
  abbrev made : List ℕ
  made = document_text kinds (parsed kinds text)

  -- how far the text is that of what was made of it
  pub told-common : f.place.met ≡ met_at (common made text) (eqb (common made text) (length made))
  told-common =
      let z : 0 + common made text ≡ common made text = omega arith in
      told-met s.read ∙ meets-common text made 0
      ∙ ap (λ (n : ℕ). met_at n (eqb (common made text) (length made))) z

  -- and whether it is
  pub told_same : (f.place.met.ok && eqb f.place.met.at (length text)) ≡ same made text
  told_same =
      (λ i. (told-common i).ok && eqb (told-common i).at (length text))
      ∙ both_long (common made text) (length made) (length text)
      ∙ sym (same-common made text)

  -- a text has a reading where the pass that compares it says so
  pub reading-told : is_reading (length text) f ≡ is_text kinds text (parsed kinds text)
  reading-told =
      let d = parsed kinds text in
      let one : eqb (get_or f.counts 0 0) 1 ≡ singles kinds d
      = ap (λ (l : List ℕ). eqb (get_or l 0 0) 1) s.read.counted ∙ ap (λ (n : ℕ). eqb n 1) (count_at d 0)
      ∙ sym (one-scene d (fits s.read)) in
      sym (and_assoc f.place.met.ok (eqb f.place.met.at (length text))
      (f.place.shape.ok && eqb (get_or f.counts 0 0) 1))
      ∙ (λ i. told_same i && ((λ j. told-shape s.read j && one j) ∙ sym (holds-split kinds d)) i)
