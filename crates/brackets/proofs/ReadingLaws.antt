-- Places in a text, and the words, names and items that are read from there on. Assumes nothing.
use mathlib.Core.Path.{◌≡◌, refl, sym, ap, subst, ◌∙◌}
use mathlib.Core.Bool.{Bool, true, false}
use mathlib.Core.List.{List, [], ◌∷◌}
use Prim.Native.Nat.{ℕ, zero, suc, ◌+◌, ◌*◌, ◌-◌, ◌%◌, ◌≤◌, ◌<◌}
use native.Mathlib.Nat.{add-zero, mul-le-mul, mod-eq_of_lt}
use native.Mathlib.Numerals.{add-one}
use native.Mathlib.Omega.{arith}
use borrow.Author.Tests.{lt-ltb, le-ltb, ltb-true, ltb-false, eq-eqb, ne_eqb}
use lib.Dec.{T, ltb}
use lib.ListN.{length, get_or, drop, length-drop, drop_of_length-le, get_or-eq_default}
use lib.Seq.{drop-cons, drop-drop, get_or-drop, set_out, sets}
use Rattle.model.specs.Lists.{pick}
use Rattle.grammar.specs.Digits.{Sort, base_of, digits_of}
use Rattle.grammar.specs.Parsed.{Got, got, onto, digit_of, onward, word_in, name_in, items_in}
use Rattle.grammar.proofs.Words.{Stops, digits-spell, word_read}
use Rattle.digits.specs.Standing.{Stands, ItemStands}
use Rattle.digits.proofs.StandingLaws.{stands_one}
use Rattle.brackets.specs.declared.Item.{Item}
use Rattle.brackets.specs.declared.Met.{Met}
use Rattle.brackets.specs.declared.Spelling.{Spelling}
use Rattle.brackets.specs.Met.{meets}
use Rattle.brackets.specs.Read.{Passed, WordRead, ItemRead}

-- ---- places
pub stay : (text : List ℕ) (at : ℕ) → Passed text at at (drop at text)
stay text at = record { left = refl; forth = omega arith; inside = λ h. h }

pub further : {text : List ℕ} {at i next : ℕ} {r s : List ℕ} → Passed text at i r → Passed text i next s
    → Passed text at next s
further p q = record {
  left = q.left;
  forth = omega arith;
  inside = λ h. q.inside (p.inside h);
}

module _ {text : List ℕ} {i : ℕ} where
  one_on : i < length text → Passed text i (i + 1) (drop (i + 1) text)
  one_on h = record { left = refl; forth = omega arith; inside = λ l. omega arith }

  pub behind-inside : i < length text → Passed text i (i + 1) (drop 1 (drop i text))
  behind-inside h = rw drop-drop (one_on h)

  pub behind-end : length text ≤ i → Passed text i i (drop 1 (drop i text))
  behind-end h =
      let e : drop i text ≡ [] = drop_of_length-le text h in
      record { left = e ∙ sym (ap (drop 1) e); forth = omega arith; inside = λ l. l }

pub byte-here : (text : List ℕ) (i : ℕ) → get_or text i 0 ≡ get_or (drop i text) 0 0
byte-here text i = simp (get_or-drop, add-zero)

-- a space stands in the text
pub in-text : (text : List ℕ) (i : ℕ) → get_or text i 0 ≡ 32 → i < length text
in-text text i e = go (ltb i (length text)) refl
  where
    go : (t : Bool) → ltb i (length text) ≡ t → i < length text
    go true h = ltb-true i (length text) h
    go false h = absurd (omega (arith, e, get_or-eq_default text 0 (ltb-false i (length text) h)))

-- ---- a word
module _ (base v : ℕ) (text : List ℕ) (i : ℕ) where
  word_on : i < length text → 48 ≤ get_or text i 0
      → word_in base v (drop i text) ≡ word_in base (onward base v (get_or text i 0)) (drop (i + 1) text)
  unfolding word_in
  word_on h l = rw (drop-cons text i 0 h, le-ltb (get_or text i 0) 48 l, add-one)

  pub word-ends : i < length text → get_or text i 0 < 48 → word_in base v (drop i text) ≡ got v (drop i text)
  unfolding word_in
  word-ends h l = rw (drop-cons text i 0 h, lt-ltb (get_or text i 0) 48 l)

  pub word_out : length text ≤ i → word_in base v (drop i text) ≡ got v (drop i text)
  unfolding word_in
  word_out h = rw (drop_of_length-le text h)

word-short : (base v : ℕ) (s : List ℕ) → length (word_in base v s).rest ≤ length s
unfolding word_in
word-short base v [] = omega arith
word-short base v (b ∷ s) = go (word-short base (onward base v b) s) (ltb b 48)
  where
    go : length (word_in base (onward base v b) s).rest ≤ length s → (t : Bool)
        → length (pick t (got v (b ∷ s)) (word_in base (onward base v b) s)).rest ≤ suc (length s)
    go h true = omega arith
    go h false = omega arith

-- a value stays small
pub grown : (v base : ℕ) → base ≤ 16 → v % 0x1_0000_0000 * base ≤ 0xf_ffff_fff0
grown v base h = let l : v % 0x1_0000_0000 ≤ 0xffff_ffff = omega arith in mul-le-mul l h

-- what is still to be read makes up what was to be read
pub record WordGoing (base : ℕ) (text : List ℕ) (at v i : ℕ) : Type 0 where
  same : word_in base v (drop i text) ≡ word_in base 0 (drop at text)
  passed : Passed text at i (drop i text)

pub word-start : (base : ℕ) (text : List ℕ) (at : ℕ) → WordGoing base text at 0 at
word-start base text at = record { same = refl; passed = stay text at }

module _ {base : ℕ} {text : List ℕ} {at v i : ℕ} (g : WordGoing base text at v i) where
  pub word_more : (b d : ℕ) → i < length text → 48 ≤ get_or text i 0 → b ≡ base → d ≡ digit_of (get_or text i 0)
      → WordGoing base text at (v % 0x1_0000_0000 * b + d) (i + 1)
  word_more b d h l e f = record {
    same =
        (λ j. word_in base (v % 0x1_0000_0000 * e j + f j) (drop (i + 1) text))
        ∙ sym (word_on base v text i h l) ∙ g.same;
    passed = further g.passed (one_on h);
  }

  pub word-done : word_in base v (drop i text) ≡ got v (drop i text)
      → WordRead text at (word_in base 0 (drop at text)) (record { value = v; next = i })
  word-done e =
      let f : got v (drop i text) ≡ word_in base 0 (drop at text) = sym e ∙ g.same in
      record {
        told = ap (λ (w : Got ℕ). w.made) f;
        passed = subst (Passed text at i) (ap (λ (w : Got ℕ). w.rest) f) g.passed;
      }

-- the same word from an earlier place on
word-as : {text : List ℕ} {at i : ℕ} {r : List ℕ} {v w : Got ℕ} {spelling : Spelling} → Passed text at i r → v ≡ w
    → WordRead text i w spelling → WordRead text at v spelling
word-as p e q = rw e (record { told = q.told; passed = further p q.passed })

-- ---- a name
module _ {text : List ℕ} {at : ℕ} where
  pub name-there : {i : ℕ} {w : Spelling} → get_or text at 0 ≡ 40 → Passed text at i (drop 1 (drop at text))
      → WordRead text i (word_in 16 0 (drop i text)) w → WordRead text at (name_in (drop at text)) w
  unfolding name_in
  name-there e p q = word-as p (rw (← byte-here text at, eq-eqb (get_or text at 0) 40 e, ← p.left)) q

  pub no_name : (get_or text at 0 ≡ 40 → ⊥)
      → WordRead text at (name_in (drop at text)) (record { value = 0; next = at })
  unfolding name_in
  no_name d =
      rw (← byte-here text at, ne_eqb (get_or text at 0) 40 d) (record { told = refl; passed = stay text at })

-- ---- cells without room
module _ {A : Type 0} where
  pub sets-out : (cells : List A) (k : ℕ) (xs : List A) → length cells ≤ k → sets cells k xs ≡ cells
  sets-out cells k [] h = refl
  sets-out cells k (x ∷ xs) h = rw (set_out cells k x) (sets-out cells (suc k) xs (omega arith))

  pub no_room : (cells : List A) (k : ℕ) (y : A) → length cells ≤ k → (xs : List A)
      → sets cells k xs ≡ sets cells k (y ∷ xs)
  no_room cells k y h xs = sets-out cells k xs h ∙ sym (sets-out cells k (y ∷ xs) h)

-- ---- an item
pub item-read : {s : Sort} {text : List ℕ} {at i : ℕ} {w : Spelling} {met m : Met}
    → Passed text at i (drop 1 (drop at text)) → WordRead text i (word_in (base_of s) 0 (drop i text)) w
    → m ≡ meets text (32 ∷ digits_of s (w.value % 0x1_0000_0000)) met
    → ItemRead s text at met (record { value = w.value % 0x1_0000_0000; next = w.next; met = m })
item-read {s} p q e =
    let word = word-as p (ap (word_in (base_of s) 0) (sym p.left)) q in
    record { told = ap (λ (v : ℕ). v % 0x1_0000_0000) word.told; passed = word.passed; compared = e }

-- an item behind a space as it is written
pub item-stands : {s : Sort} {text : List ℕ} {at next v : ℕ} → get_or text at 0 ≡ 32
    → ItemStands s text (at + 1) next v → Stands text at next (32 ∷ digits_of s v)
item-stands {text = text} {at} e i = stands_one (in-text text at e) e i.stands

pub item-there : {s : Sort} {text : List ℕ} {at next v : ℕ} {met m : Met} → get_or text at 0 ≡ 32
    → ItemStands s text (at + 1) next v → m ≡ meets text (32 ∷ digits_of s v) met
    → ItemRead s text at met (record { value = v; next = next; met = m })
item-there {s} {text} {at} {next} {v} space there e =
    let p = item-stands space there in
    let h = there.small in
    let i = there.inside in
    let l = there.stops in
    let rest = drop next text in
    let spells = digits-spell s v h in
    let stops : Stops rest = rw (drop-cons text next 0 i) (subst T (sym (lt-ltb (get_or text next 0) 48 l)) tt) in
    let word : got v rest ≡ word_in (base_of s) 0 (drop 1 (drop at text)) =
    ap (λ (n : ℕ). got n rest) (sym spells.value)
    ∙ sym (word_read (base_of s) (digits_of s v) rest spells.letters stops)
    ∙ ap (λ (t : List ℕ). word_in (base_of s) 0 (drop 1 t)) (sym p.here) in
    record {
      told = sym (mod-eq_of_lt h) ∙ ap (λ (w : Got ℕ). w.made % 0x1_0000_0000) word;
      passed = record {
        left = ap (λ (w : Got ℕ). w.rest) word;
        forth = omega (arith, p.far);
        inside = λ q. omega arith;
      };
      compared = e;
    }

pub items-on : (base left : ℕ) (s : List ℕ) → 0 < left → get_or s 0 0 ≡ 32 → items_in left base s
    ≡ onto ((word_in base 0 (drop 1 s)).made % 0x1_0000_0000) (items_in (left - 1) base (word_in base 0 (drop 1 s)).rest)
unfolding items_in
items-on base zero s h e = absurd (omega arith)
items-on base (suc n) s h e = let one : suc n - 1 ≡ n = omega arith in rw (one, eq-eqb (get_or s 0 0) 32 e)

pub items-off : (base left : ℕ) (s : List ℕ) → 0 < left → (get_or s 0 0 ≡ 32 → ⊥)
    → items_in left base s ≡ got [] (drop 1 s)
unfolding items_in
items-off base zero s h d = absurd (omega arith)
items-off base (suc n) s h d = rw (ne_eqb (get_or s 0 0) 32 d)

module _ {s : Sort} {text : List ℕ} {i : ℕ} {met : Met} {r : Item}
    (e : get_or text i 0 ≡ 32) (w : ItemRead s text i met r) where
  pub item_on : (left : ℕ) → 0 < left → items_in left (base_of s) (drop i text)
      ≡ onto r.value (items_in (left - 1) (base_of s) (drop r.next text))
  item_on left h =
      items-on (base_of s) left (drop i text) h (sym (byte-here text i) ∙ e)
      ∙ (λ j. onto (sym w.told j) (items_in (left - 1) (base_of s) (sym w.passed.left j)))

  pub item-forth : i < r.next
  item-forth =
      let from = drop i text in
      let rest = w.passed.left in
      let inside = in-text text i e in
      let short = word-short (base_of s) 0 (drop 1 from) in
      omega (arith, ap length rest, length-drop r.next text, length-drop 1 from, length-drop i text)
