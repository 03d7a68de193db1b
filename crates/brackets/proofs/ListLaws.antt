-- Lists of items: what is told of them, one after the other, and a list as a whole. Assumes nothing.
use mathlib.Core.Path.{◌≡◌, refl, sym, ap, subst, ◌∙◌}
use mathlib.Core.Bool.{Bool, true, ◌&&◌, and-true, and_assoc}
use mathlib.Core.List.{List, [], ◌∷◌, map}
use Prim.Native.Nat.{ℕ, zero, suc, ◌+◌, ◌-◌, ◌≤◌, ◌<◌}
use native.Mathlib.Omega.{arith}
use borrow.Author.Tests.{ne_eqb}
use lib.Dec.{eqb}
use lib.ListN.{length, get_or, drop, drop_of_length-le}
use lib.Seq.{sets, length-sets}
use Rattle.model.specs.Lists.{pick, every, foldl}
use Rattle.grammar.specs.Digits.{Sort, numbers, floats, base_of, digits_of, items_text}
use Rattle.grammar.specs.Shape.{sorted}
use Rattle.grammar.specs.Parsed.{Got, got, items_in}
use Rattle.brackets.specs.declared.Item.{Item}
use Rattle.brackets.specs.declared.Listed.{Listed}
use Rattle.brackets.specs.declared.Met.{Met}
use Rattle.brackets.specs.declared.Told.{Told}
use Rattle.brackets.specs.Met.{meets}
use Rattle.brackets.specs.Read.{Passed, ItemRead, ItemsRead, one_more, listed_as, items_at}
use Rattle.brackets.specs.Runs.{RestRead}
use Rattle.brackets.proofs.MeetingLaws.{meets-append}
use Rattle.brackets.proofs.ReadingLaws.{stay, further, byte-here, in-text, items-off, item_on, item-forth}

-- ---- what is told of items
abbrev pub none_told : Told
none_told = record { count = 0; first = 0; second = 0; sorted = true }

abbrev pub tells_all : Sort → Told → List ℕ → Told
tells_all s t xs = foldl (one_more s) t xs

pub sorted_none : (s : Sort) → sorted s [] ≡ true
unfolding every
sorted_none numbers = refl
sorted_none floats = refl

sorted_more : (s : Sort) (b : Bool) (x : ℕ) (xs : List ℕ)
    → (b && sorted s (x ∷ []) && sorted s xs) ≡ (b && sorted s (x ∷ xs))
unfolding every
sorted_more numbers b x xs = simp and-true
sorted_more floats b x xs = simp (and-true, and_assoc)

-- the first two are told already
told-on : (s : Sort) (t : Told) (xs : List ℕ) → 2 ≤ t.count
    → tells_all s t xs
    ≡ record { count = t.count + length xs; first = t.first; second = t.second; sorted = t.sorted && sorted s xs }
unfolding foldl
told-on s t [] h =
    let e : t.count ≡ t.count + 0 = omega arith in
    let f : t.sorted ≡ (t.sorted && sorted s []) = simp (sorted_none s, and-true) in
    λ j. record { count = e j; first = t.first; second = t.second; sorted = f j }
told-on s t (x ∷ xs) h =
    let e : t.count + 1 + length xs ≡ t.count + suc (length xs) = omega arith in
    let p : pick (eqb t.count 0) x t.first ≡ t.first = simp (ne_eqb t.count 0 (λ z. omega arith)) in
    let q : pick (eqb t.count 1) x t.second ≡ t.second = simp (ne_eqb t.count 1 (λ z. omega arith)) in
    told-on s (one_more s t x) xs (omega arith)
    ∙ (λ j. record { count = e j; first = p j; second = q j; sorted = sorted_more s t.sorted x xs j })

pub told-all : (s : Sort) (xs : List ℕ) → tells_all s none_told xs
    ≡ record { count = length xs; first = get_or xs 0 0; second = get_or xs 1 0; sorted = sorted s xs }
unfolding foldl
told-all s [] = λ j. record { count = 0; first = 0; second = 0; sorted = sym (sorted_none s) j }
told-all s (x ∷ []) = refl
told-all s (x ∷ y ∷ xs) =
    let e : 2 + length xs ≡ suc (suc (length xs)) = omega arith in
    let f = sorted_more s (sorted s (x ∷ [])) y xs ∙ sorted_more s true x (y ∷ xs) in
    told-on s (one_more s (one_more s none_told x) y) xs (omega arith)
    ∙ (λ j. record { count = e j; first = x; second = y; sorted = f j })

-- ---- items one after the other

-- what comes of items: the text behind them, what is told of them, how the text compares, and where they stand
record Outcome (A : Type 0) : Type 0 where
  rest : List ℕ
  told : Told
  met : Met
  cells : List A

abbrev outcome : {A : Type 0} → (ℕ → A) → Sort → List ℕ → Got (List ℕ) → List A → ℕ → Met → Told → Outcome A
outcome f s text g cells k m t = record {
  rest = g.rest;
  told = tells_all s t g.made;
  met = meets text (items_text s g.made) m;
  cells = sets cells k (map f g.made);
}

-- what is still to be read makes up what was to be read
pub record ItemsGoing {A : Type 0} (f : ℕ → A) (s : Sort) (text : List ℕ) (at n : ℕ) (met : Met) (t₀ : Told)
    (lent cells : List A) (i k : ℕ) (m : Met) (t : Told) : Type 0 where
  same : outcome f s text (items_in (length text - t.count) (base_of s) (drop i text)) cells k m t
      ≡ outcome f s text (items_in (length text - t₀.count) (base_of s) (drop at text)) lent n met t₀
  passed : Passed text at i (drop i text)
  pub turns : t.count ≤ length text
  pub few : at + t.count ≤ i + t₀.count
  pub start : t₀.count ≤ at

module _ {A : Type 0} {f : ℕ → A} {s : Sort} {text : List ℕ} {at n : ℕ} {met : Met} {t₀ : Told} {lent : List A} where
  pub items-start : t₀.count ≤ length text → t₀.count ≤ at
      → ItemsGoing f s text at n met t₀ lent lent at n met t₀
  items-start h o = record { same = refl; passed = stay text at; turns = h; few = omega arith; start = o }

  module _ {cells : List A} {i k : ℕ} {m : Met} {t : Told}
      (g : ItemsGoing f s text at n met t₀ lent cells i k m t) where
    pub items-length : length cells ≡ length lent
    items-length = simp length-sets at (ap (λ (o : Outcome A). length o.cells) g.same)

    items-end : (next : ℕ) (r : List ℕ) → items_in (length text - t.count) (base_of s) (drop i text) ≡ got [] r
        → Passed text i next r
        → RestRead f s text at n (length text - t₀.count) met t₀ lent cells (listed_as t next m)
    unfolding foldl items_text meets
    items-end next r z p =
        let e = ap (λ (w : Got (List ℕ)). outcome f s text w cells k m t) (sym z) ∙ g.same in
        record {
          told = ap (λ (o : Outcome A). o.told) e;
          compared = ap (λ (o : Outcome A). o.met) e;
          passed = subst (Passed text at next) (ap (λ (o : Outcome A). o.rest) e) (further g.passed p);
          filled = ap (λ (o : Outcome A). o.cells) e;
          few = omega arith;
        }

    -- no more items than bytes
    off : (left : ℕ) → t.count + left ≡ length text → (get_or text i 0 ≡ 32 → ⊥)
        → items_in left (base_of s) (drop i text) ≡ got [] (drop 1 (drop i text))
    unfolding items_in
    off zero e d =
        let none : drop i text ≡ [] = drop_of_length-le text (omega (arith, g.few, g.start)) in
        ap (λ (l : List ℕ). got [] l) (none ∙ sym (ap (drop 1) none))
    off (suc left) e d =
        items-off (base_of s) (suc left) (drop i text) (omega arith) (λ z. d (byte-here text i ∙ z))

    -- a byte other than a space ends the items
    pub items-close : {next : ℕ} {r : Listed} → (get_or text i 0 ≡ 32 → ⊥)
        → Passed text i next (drop 1 (drop i text)) → r ≡ listed_as t next m
        → RestRead f s text at n (length text - t₀.count) met t₀ lent cells r
    items-close {next} d p q =
        let left = length text - t.count in
        let e : t.count + left ≡ length text = omega (arith, g.turns) in
        rw q (items-end next (drop 1 (drop i text)) (off left e d) p)

    pub items_more : {r : Item} {next : List A} {j : ℕ} {u : Told} → get_or text i 0 ≡ 32
        → ItemRead s text i m r → ((xs : List A) → sets next j xs ≡ sets cells k (f r.value ∷ xs))
        → u ≡ one_more s t r.value → ItemsGoing f s text at n met t₀ lent next r.next j r.met u
    unfolding foldl items_text
    items_more {r} {next} {j} {u} e w p q =
        let left = length text - t.count in
        let then = items_in (left - 1) (base_of s) (drop r.next text) in
        let one : List ℕ = 32 ∷ digits_of s r.value in
        let others = items_text s then.made in
        let compared = ap (meets text others) w.compared ∙ sym (meets-append text one others m) in
        let count = ap (λ (v : Told). v.count) q in
        let forth = item-forth e w in
        let inside = in-text text i e in
        let some : 0 < left = omega (arith, g.few, g.start, inside) in
        let fewer : length text - u.count ≡ left - 1 = omega (arith, count) in
        record {
          same =
              (λ l. outcome f s text (items_in (fewer l) (base_of s) (drop r.next text)) next j r.met u)
              ∙ (λ l. record {
                rest = then.rest;
                told = tells_all s (q l) then.made;
                met = compared l;
                cells = p (map f then.made) l;
              })
              ∙ ap (λ (o : Got (List ℕ)). outcome f s text o cells k m t) (sym (item_on e w left some)) ∙ g.same;
          passed = further g.passed (record { left = refl; forth = w.passed.forth; inside = w.passed.inside });
          turns = omega (arith, count, some);
          few = omega (arith, g.few, count, forth);
          start = g.start;
        }

-- ---- all of them

-- where nothing was told before
pub whole-read : {A : Type 0} {f : ℕ → A} {s : Sort} {text : List ℕ} {at n : ℕ} {met : Met} {lent cells : List A}
    {r : Listed} → RestRead f s text at n (length text) met none_told lent cells r
    → ItemsRead f s text at n met lent cells r
whole-read {s = s} {text} {at} h =
    let told = h.told ∙ told-all s (items_at s text at).made in
    record {
      counted = ap (λ (u : Told). u.count) told;
      first = ap (λ (u : Told). u.first) told;
      second = ap (λ (u : Told). u.second) told;
      sorts = ap (λ (u : Told). u.sorted) told;
      compared = h.compared;
      passed = h.passed;
      filled = h.filled;
      few = omega (arith, h.few);
    }

pub whole-rest : {A : Type 0} {f : ℕ → A} {s : Sort} {text : List ℕ} {at n : ℕ} {met : Met} {lent cells : List A}
    {r : Listed} → RestRead f s text at n (length text - 0) met none_told lent cells r
    → ItemsRead f s text at n met lent cells r
whole-rest {f = f} {s} {text} {at} {n} {met} {lent} {cells} {r} h =
    let all : length text - 0 ≡ length text = omega arith in
    whole-read (subst (λ (k : ℕ). RestRead f s text at n k met none_told lent cells r) all h)
