-- Items one after the other that stand in a text as they are written. Assumes nothing.
use mathlib.Core.Path.{◌≡◌, refl, sym, ap, subst, ◌∙◌}
use mathlib.Core.Bool.{Bool, true, false, ◌&&◌, ◌||◌, not, and_assoc}
use mathlib.Core.List.{List, [], ◌∷◌, ◌++◌, map, append-nil, append_assoc, map-append}
use Prim.Native.Nat.{ℕ, zero, suc, ◌+◌, ◌-◌, ◌%◌, ◌≤◌, ◌<◌}
use native.Mathlib.Omega.{arith}
use borrow.Author.Tests.{eqb-true, eqb-false, le-leb}
use lib.Dec.{eqb}
use lib.ListN.{length, get_or, drop, length-append}
use lib.Seq.{sets}
use Rattle.model.specs.Lists.{pick, every, foldl}
use Rattle.grammar.specs.Digits.{Sort, numbers, floats, base_of, digits_of, items_text}
use Rattle.grammar.specs.Shape.{is_float, sorted}
use Rattle.grammar.specs.Parsed.{Got, got, onto, word_in, items_in}
use Rattle.digits.specs.Standing.{Stands, ItemStands}
use Rattle.brackets.specs.declared.Item.{Item}
use Rattle.brackets.specs.declared.Listed.{Listed}
use Rattle.brackets.specs.declared.Met.{Met}
use Rattle.brackets.specs.declared.Run.{Run}
use Rattle.brackets.specs.declared.Told.{Told}
use Rattle.brackets.specs.Met.{met_at, meets}
use Rattle.brackets.specs.Read.{Passed, ItemRead, ItemsRead, one_more, items_at}
use Rattle.brackets.specs.Runs.{front, RunStands, RunRead, behind_run, told_run, RestRead}
use Rattle.brackets.proofs.MeetingLaws.{meets-append, departed, stands-met}
use Rattle.brackets.proofs.ReadingLaws.{further, in-text, byte-here, item-stands, item-there}
use Rattle.brackets.proofs.ReadingLaws.{items-on, items-off, item_on, item-forth}
use Rattle.brackets.proofs.ListLaws.{none_told, tells_all, told-all, sorted_none, whole-read}

-- ---- items put together
texts-append : (s : Sort) (xs ys : List ℕ) → items_text s (xs ++ ys) ≡ items_text s xs ++ items_text s ys
unfolding items_text
texts-append s [] ys = refl
texts-append s (x ∷ xs) ys =
    ap (λ (l : List ℕ). 32 ∷ digits_of s x ++ l) (texts-append s xs ys)
    ∙ ap (λ (l : List ℕ). 32 ∷ l) (sym (append_assoc (digits_of s x) (items_text s xs) (items_text s ys)))

sorted-append : (s : Sort) (xs ys : List ℕ) → sorted s (xs ++ ys) ≡ (sorted s xs && sorted s ys)
unfolding every
sorted-append numbers xs ys = refl
sorted-append floats [] ys = refl
sorted-append floats (x ∷ xs) ys =
    ap (λ (b : Bool). is_float x && b) (sorted-append floats xs ys)
    ∙ sym (and_assoc (is_float x) (every is_float xs) (every is_float ys))

tells-append : (s : Sort) (t : Told) (xs ys : List ℕ) → tells_all s t (xs ++ ys) ≡ tells_all s (tells_all s t xs) ys
unfolding foldl
tells-append s t [] ys = refl
tells-append s t (x ∷ xs) ys = tells-append s (one_more s t x) xs ys

stands-append : {text xs ys : List ℕ} {at i next : ℕ} → Stands text at i xs → Stands text i next ys
    → Stands text at next (xs ++ ys)
stands-append {text} {xs} {ys} {at} {i} {next} p q = record {
  here = p.here ∙ ap (λ (l : List ℕ). xs ++ l) q.here ∙ sym (append_assoc xs ys (drop next text));
  far = omega (arith, p.far, q.far, length-append xs ys);
}

-- so many more behind some
abbrev behind_these : ℕ → ℕ → Got (List ℕ) → Got (List ℕ)
behind_these b base g = let h = items_in b base g.rest in got (g.made ++ h.made) h.rest

items-join : (a b base : ℕ) (s : List ℕ) → length (items_in a base s).made ≡ a
    → items_in (a + b) base s ≡ behind_these b base (items_in a base s)
unfolding items_in
items-join zero b base s e = let z : 0 + b ≡ b = omega arith in ap (λ (n : ℕ). items_in n base s) z
items-join (suc a) b base s e =
    go (items-join a b base (word_in base 0 (drop 1 s)).rest) (eqb (get_or s 0 0) 32) refl
  where
    Joins : ℕ → List ℕ → Type 0
    Joins n l = items_in (n + b) base l ≡ behind_these b base (items_in n base l)

    go : (length (items_in a base (word_in base 0 (drop 1 s)).rest).made ≡ a
        → Joins a (word_in base 0 (drop 1 s)).rest) → (t : Bool) → eqb (get_or s 0 0) 32 ≡ t → Joins (suc a) s
    go others true h =
        let space = eqb-true (get_or s 0 0) 32 h in
        let w = word_in base 0 (drop 1 s) in
        let v = w.made % 0x1_0000_0000 in
        let less : suc a - 1 ≡ a = omega arith in
        let fewer : suc a + b - 1 ≡ a + b = omega arith in
        let one : items_in (suc a) base s ≡ onto v (items_in a base w.rest) =
        items-on base (suc a) s (omega arith) space ∙ ap (λ (n : ℕ). onto v (items_in n base w.rest)) less in
        let all : items_in (suc a + b) base s ≡ onto v (items_in (a + b) base w.rest) =
        items-on base (suc a + b) s (omega arith) space ∙ ap (λ (n : ℕ). onto v (items_in n base w.rest)) fewer in
        let long : length (items_in a base w.rest).made ≡ a =
        omega (arith, e, ap (λ (g : Got (List ℕ)). length g.made) one) in
        all ∙ ap (onto v) (others long) ∙ ap (behind_these b base) (sym one)
    go others false h =
        let none = items-off base (suc a) s (omega arith) (eqb-false (get_or s 0 0) 32 h) in
        absurd (omega (arith, e, ap (λ (g : Got (List ℕ)). length g.made) none))

-- where there is one, there is a space
pub front-space : (s : Sort) (text : List ℕ) (at count : ℕ) → 0 < count → length (front s text at count) ≡ count
    → get_or text at 0 ≡ 32
front-space s text at count h e = go (eqb (get_or text at 0) 32) refl
  where
    go : (t : Bool) → eqb (get_or text at 0) 32 ≡ t → get_or text at 0 ≡ 32
    go true p = eqb-true (get_or text at 0) 32 p
    go false p =
        let other : get_or (drop at text) 0 0 ≡ 32 → ⊥ = λ z. eqb-false (get_or text at 0) 32 p (byte-here text at ∙ z) in
        let none = items-off (base_of s) count (drop at text) h other in
        absurd (omega (arith, e, ap (λ (g : Got (List ℕ)). length g.made) none))

-- ---- a run
pub run-start : (s : Sort) (text : List ℕ) (at : ℕ) → RunStands s text at at 0
unfolding items_in items_text
run-start s text at = record {
  whole = refl;
  rest = refl;
  sorts = sorted_none s;
  stands = record { here = refl; far = omega arith };
  few = omega arith;
  inside = λ h. h;
  fits = omega arith;
}

pub plain_float : (w : ℕ) → w % 0x8000_0000 ≤ 0x7f80_0000 → is_float w ≡ true
plain_float w h = simp (le-leb (w % 0x8000_0000) 0x7f80_0000 h)

pub plain-sorts : (v : ℕ) → is_float v ≡ true → sorted floats (v ∷ []) ≡ true
unfolding every
plain-sorts v e = ap (λ (b : Bool). b && true) e

module _ {s : Sort} {text : List ℕ} {at i next count v : ℕ} (g : RunStands s text at i count)
    (space : get_or text i 0 ≡ 32) (there : ItemStands s text (i + 1) next v) where
  read : ItemRead s text i (met_at 0 false) (record {
    value = v;
    next = next;
    met = meets text (32 ∷ digits_of s v) (met_at 0 false);
  })
  read = item-there space there refl

  joined : items_in (count + 1) (base_of s) (drop at text)
      ≡ got (front s text at count ++ (v ∷ [])) (drop next text)
  unfolding items_in
  joined =
      let base = base_of s in
      let these = items_in count base (drop at text) in
      items-join count 1 base (drop at text) g.whole
      ∙ ap (λ (r : List ℕ). let h = items_in 1 base r in got (these.made ++ h.made) h.rest) g.rest
      ∙ ap (λ (h : Got (List ℕ)). got (these.made ++ h.made) h.rest) (item_on space read 1 (omega arith))

  pub run_more : sorted s (v ∷ []) ≡ true → RunStands s text at next (count + 1)
  unfolding items_text
  run_more e =
      let xs = front s text at count in
      let made : front s text at (count + 1) ≡ xs ++ (v ∷ []) = ap (λ (h : Got (List ℕ)). h.made) joined in
      let forth = item-forth space read in
      let item = item-stands space there in
      let text-is : items_text s (xs ++ (v ∷ [])) ≡ items_text s xs ++ (32 ∷ digits_of s v) =
      texts-append s xs (v ∷ []) ∙ ap (λ (l : List ℕ). items_text s xs ++ (32 ∷ l)) (append-nil (digits_of s v)) in
      record {
        whole = omega (arith, ap length made, length-append xs (v ∷ []), g.whole);
        rest = ap (λ (h : Got (List ℕ)). h.rest) joined;
        sorts = ap (sorted s) made ∙ sorted-append s xs (v ∷ []) ∙ (λ j. g.sorts j && e j);
        stands =
            subst (Stands text at next) (sym (ap (items_text s) made ∙ text-is)) (stands-append g.stands item);
        few = omega (arith, g.few, forth);
        inside = λ h. omega (arith, there.inside);
        fits = omega (arith, g.few, in-text text i space);
      }

-- and stored
pub stored-start : {A : Type 0} (f : ℕ → A) (s : Sort) (text : List ℕ) (at n : ℕ) (lent : List A)
    → RunRead f s text at n lent lent (record { count = 0; next = at; cell = n })
unfolding items_in
stored-start f s text at n lent = record { run = run-start s text at; filled = λ xs. refl }

pub stored_more : {A : Type 0} {f : ℕ → A} {s : Sort} {text : List ℕ} {at n i k count next v j : ℕ}
    {lent cells more : List A} → RunRead f s text at n lent cells (record { count = count; next = i; cell = k })
    → get_or text i 0 ≡ 32 → ItemStands s text (i + 1) next v → sorted s (v ∷ []) ≡ true
    → ((xs : List A) → sets more j xs ≡ sets cells k (f v ∷ xs))
    → RunRead f s text at n lent more (record { count = count + 1; next = next; cell = j })
stored_more {f = f} {s} {text} {at} {n} {count = count} {v = v} {lent = lent} g space there e q =
    let made : front s text at (count + 1) ≡ front s text at count ++ (v ∷ []) =
    ap (λ (h : Got (List ℕ)). h.made) (joined g.run space there) in
    record {
      run = run_more g.run space there e;
      filled = λ xs.
          let behind : map f (front s text at count) ++ (f v ∷ xs) ≡ map f (front s text at count ++ (v ∷ [])) ++ xs =
          simp (map-append, append_assoc) in
          q xs ∙ g.filled (f v ∷ xs)
          ∙ ap (sets lent n) (behind ∙ ap (λ (l : List ℕ). map f l ++ xs) (sym made));
    }

-- ---- what is told of a run
pub told_none : (s : Sort) (text : List ℕ) (at : ℕ) {count : ℕ} → count ≤ 0
    → record { count = count; first = 0; second = 0; sorted = true } ≡ told_run count (front s text at count)
unfolding items_in
told_none s text at {count} h =
    let none : count ≡ 0 = omega arith in
    ap (λ (n : ℕ). told_run count (front s text at n)) (sym none)

module _ {s : Sort} {text : List ℕ} {at count : ℕ} {met : Met} {a : Item}
    (whole : length (front s text at count) ≡ count) (r : ItemRead s text at met a) where
  front-on : 0 < count → front s text at count ≡ a.value ∷ front s text a.next (count - 1)
  front-on h = ap (λ (g : Got (List ℕ)). g.made) (item_on (front-space s text at count h whole) r count h)

  behind-whole : 1 < count → length (front s text a.next (count - 1)) ≡ count - 1
  behind-whole h = omega (arith, whole, ap length (front-on (omega arith)))

  pub next-space : 1 < count → get_or text a.next 0 ≡ 32
  next-space h = front-space s text a.next (count - 1) (omega arith) (behind-whole h)

  pub told-one : 0 < count → count ≤ 1
      → record { count = count; first = a.value; second = 0; sorted = true } ≡ told_run count (front s text at count)
  unfolding items_in
  told-one h k =
      let none : count - 1 ≡ 0 = omega arith in
      let e : front s text at count ≡ a.value ∷ [] =
      front-on h ∙ ap (λ (n : ℕ). a.value ∷ front s text a.next n) none in
      ap (told_run count) (sym e)

  pub told-two : {m : Met} {b : Item} → ItemRead s text a.next m b → 1 < count
      → record { count = count; first = a.value; second = b.value; sorted = true }
      ≡ told_run count (front s text at count)
  told-two {b = b} q h =
      let others = item_on (next-space h) q (count - 1) (omega arith) in
      let e = front-on (omega arith) ∙ ap (λ (g : Got (List ℕ)). a.value ∷ g.made) others in
      ap (told_run count) (sym e)

-- ---- how the text compares behind a run
pub behind-met : {s : Sort} {text : List ℕ} {at next count : ℕ} (met : Met) → RunStands s text at next count
    → ((not met.ok || eqb met.at at) ≡ false → count ≡ 0)
    → behind_run met at next ≡ meets text (items_text s (front s text at count)) met
unfolding items_text meets items_in
behind-met {s} {text} {at} {next} {count} met g none = go met.ok (eqb met.at at) refl refl
  where
    bs : List ℕ
    bs = items_text s (front s text at count)

    go : (b c : Bool) → met.ok ≡ b → eqb met.at at ≡ c
        → pick (b && c) (met_at next true) met ≡ meets text bs met
    go false c o e =
        (λ j. met_at met.at (o j)) ∙ sym (departed text bs met.at)
        ∙ ap (λ (b : Bool). meets text bs (met_at met.at b)) (sym o)
    go true true o e =
        let here = eqb-true met.at at e in
        sym (stands-met text bs at next g.stands) ∙ (λ j. meets text bs (met_at (sym here j) (sym o j)))
    go true false o e =
        ap (λ (n : ℕ). meets text (items_text s (front s text at n)) met) (sym (none (λ j. not (o j) || e j)))

-- ---- a list, its run and the items behind it
pub list_read : {A : Type 0} {f : ℕ → A} {s : Sort} {text : List ℕ} {at n : ℕ} {met m : Met} {t : Told} {run : Run}
    {lent cells left : List A} {r : Listed} → RunRead f s text at n lent cells run
    → m ≡ meets text (items_text s (front s text at run.count)) met
    → t ≡ told_run run.count (front s text at run.count)
    → RestRead f s text run.next run.cell (length text - t.count) m t cells left r
    → ItemsRead f s text at n met lent left r
list_read {f = f} {s} {text} {at} {n} {met} {m} {t} {run} {lent} {cells} {left} {r} g em et h =
    let base = base_of s in
    let xs = front s text at run.count in
    let more = length text - t.count in
    let others = items_in more base (drop run.next text) in
    let ys = others.made in
    let count-is : t.count ≡ run.count = ap (λ (u : Told). u.count) et in
    let all : length text ≡ run.count + more = omega (arith, count-is, g.run.fits) in
    let join : items_at s text at ≡ got (xs ++ ys) others.rest =
    ap (λ (k : ℕ). items_in k base (drop at text)) all
    ∙ items-join run.count more base (drop at text) g.run.whole
    ∙ ap (λ (l : List ℕ). let i = items_in more base l in got (xs ++ i.made) i.rest) g.run.rest in
    let made : (items_at s text at).made ≡ xs ++ ys = ap (λ (i : Got (List ℕ)). i.made) join in
    let told : t ≡ tells_all s none_told xs =
    et ∙ (λ j. record {
      count = sym g.run.whole j;
      first = get_or xs 0 0;
      second = get_or xs 1 0;
      sorted = sym g.run.sorts j;
    }) ∙ sym (told-all s xs) in
    let mapped : map f xs ++ map f ys ≡ map f (xs ++ ys) = simp map-append in
    let passed : Passed text at run.next (drop run.next text) =
    record { left = refl; forth = omega (arith, g.run.few); inside = g.run.inside } in
    whole-read (record {
      told =
          h.told ∙ ap (λ (u : Told). tells_all s u ys) told ∙ sym (tells-append s none_told xs ys)
          ∙ ap (tells_all s none_told) (sym made);
      compared =
          h.compared ∙ ap (meets text (items_text s ys)) em
          ∙ sym (meets-append text (items_text s xs) (items_text s ys) met)
          ∙ ap (λ (l : List ℕ). meets text l met) (sym (ap (items_text s) made ∙ texts-append s xs ys));
      passed =
          subst (Passed text at r.next) (sym (ap (λ (i : Got (List ℕ)). i.rest) join))
          (further passed h.passed);
      filled = h.filled ∙ g.filled (map f ys) ∙ ap (sets lent n) (mapped ∙ ap (map f) (sym made));
      few = omega (arith, h.few, g.run.few, count-is);
    })
