-- Fields that are read from a reader whose bytes are known. Assumes nothing.
use Rattle.std.proofs.Common.{◌≡◌, ◌≢◌, ℕ, zero, suc, ◌+◌, ◌-◌, ◌*◌, ◌<◌, ◌≤◌, refl, sym, ap, subst, ◌∙◌, Bool, true, false, List, [], ◌∷◌, ◌++◌, length, take, drop, take_all, arith, append_assoc, length-append, take-add, IfSome}
use Rattle.std.specs.Prelude.{⊤, Option, Some, None}
use Rattle.std.specs.Io.KnownBytes.{Consumes, IsAtEnd}
use Rattle.std.proofs.lemmas.List.{length-take, append-nil}
use native.Mathlib.Numerals.{unary_clauses}
use lib.Seq.{length-take-le, take_at, drop_at}
use borrow.Author.Tests.{ltb-true, ltb-false, eq-eqb, ne_eqb, eqb-true, eqb-false}
use lib.Dec.{ltb, eqb}
use Rattle.model.specs.Lists.{pick}
use Rattle.lists.specs.Digits.{field_in}
use Rattle.lists.specs.Inputs.{led_by, fields_of, next_for, next_of, is_end, Says, Leads, FewerBy, HasFields}
use Rattle.lists.specs.declared.reading.Next.TheVariants.{Field, End, Other}
use Rattle.lists.specs.declared.reading.Next.{Next}

-- ---- two reads, one behind the other
one_and_other : (a b c : Option (List ℕ)) (bs cs : List ℕ) → Consumes a b bs → Consumes b c cs → Consumes a c (bs ++ cs)
one_and_other None b c bs cs p q = tt
one_and_other (Some x) None c bs cs p q = absurd p
one_and_other (Some x) (Some y) None bs cs p q = absurd q
one_and_other (Some x) (Some y) (Some z) bs cs p q = p ∙ ap (λ l. bs ++ l) q ∙ sym (append_assoc bs cs z)

pub read_on : (a b c : Option (List ℕ)) (before after : List ℕ) (f n : ℕ) → take f after ≡ take f before
    → Consumes a b (take f before) → Consumes b c (take n (drop f after)) → Consumes a c (take (f + n) after)
read_on a b c before after f n front p q =
    subst (Consumes a c) (sym (take-add f n after ∙ ap (λ l. l ++ take n (drop f after)) front)) (one_and_other a b c _ _ p q)

-- ---- the next bytes
pub nine : (t : List ℕ) (w : ℕ) → field_in t ≡ Some w → length t ≡ 9
nine t w e = go (eqb (length t) 9) refl
  where
    go : (b : Bool) → eqb (length t) 9 ≡ b → length t ≡ 9
    go true p = eqb-true (length t) 9 p
    go false p = absurd (cc)

none-of : (t : List ℕ) → eqb (length t) 0 ≡ true → t ≡ []
none-of [] p = refl
none-of (x ∷ t) p = absurd (omega (arith, eqb-true (length (x ∷ t)) 0 p))

some-of : (t : List ℕ) → length t ≢ 0 → t ≢ []
some-of t h e = h (ap length e)

module _ (x y t : List ℕ) (front : take 9 x ≡ t) (behind : length t ≡ 9 → (y ≡ drop 9 x) × (length y + 9 ≡ length x))
    (empty : length t ≡ 0 → length x ≡ 0) (few : length x ≤ length y + 9) where
  pub says : Says x y (next_of t)
  says = go (field_in t) refl
    where
      other : (b : Bool) → eqb (length t) 0 ≡ b → field_in t ≡ None → Says x y (pick b End Other)
      other true p e = none-of x (eq-eqb (length x) 0 (empty (eqb-true (length t) 0 p)))
      other false p e =
          let some : length x ≢ 0 = λ q. eqb-false (length t) 0 p (omega (arith, ap length front, length-take 9 x)) in
          (ap field_in front ∙ e, some-of x some, few)

      go : (o : Option ℕ) → field_in t ≡ o → Says x y (next_for o t)
      go None e = other (eqb (length t) 0) refl e
      go (Some w) e =
          let b = behind (nine t w e) in
          record { field = ap field_in front ∙ e; rest = b.0; counted = b.1 }

pub leads : (a b : Option (List ℕ)) (buf : List ℕ) (n : ℕ) → length buf ≡ 9 → n ≤ length buf → Consumes a b (take n buf)
    → (n < length buf → IsAtEnd b) → Leads a b (next_of (take n buf))
leads None b buf n l h p end = tt
leads (Some x) None buf n l h p end = absurd p
leads (Some x) (Some y) buf n l h p end = go (ltb n 9) refl
  where
    t : List ℕ
    t = take n buf

    long : length t ≡ n
    long = length-take-le n buf h

    sum : length x ≡ n + length y
    sum = ap length p ∙ length-append t y ∙ ap (λ (k : ℕ). k + length y) long

    go : (b : Bool) → ltb n 9 ≡ b → Says x y (next_of t)
    go true q =
        let gone : y ≡ [] = end (omega (arith, ltb-true n 9 q)) in
        let all : x ≡ t = p ∙ ap (λ (l : List ℕ). t ++ l) gone ∙ append-nil t in
        says x y t (take_all 9 x (omega (arith, ltb-true n 9 q, sum, ap length gone)) ∙ all)
        (λ e. absurd (omega (arith, ltb-true n 9 q, long, e))) (λ e. ap length all ∙ e) (omega (arith, ltb-true n 9 q, sum))
    go false q =
        let full : length t ≡ 9 = omega (arith, ltb-false n 9 q, long, h, l) in
        says x y t (ap (take 9) p ∙ take_at t y 9 full)
        (λ e. (sym (ap (drop 9) p ∙ drop_at t y 9 full), omega (arith, sum, long, full))) (λ e. absurd (omega (arith, full, e))) (omega (arith, sum, long, full))

-- the text is at its end just where nothing is left
pub ends : (rest behind : List ℕ) (next : Next) → Says rest behind next → is_end next ≡ eqb (length rest) 0
ends rest behind (Field w) s = sym (ne_eqb (length rest) 0 (λ p. omega (arith, s.counted)))
ends rest behind End s = sym (eq-eqb (length rest) 0 (ap length s))
ends rest behind Other s = sym (ne_eqb (length rest) 0 (λ p. s.1 (none-of rest (eq-eqb (length rest) 0 p))))

-- ---- fields of a text
pub no_field : (rest : List ℕ) (n : ℕ) → field_in (take 9 rest) ≡ None → fields_of n rest ≡ []
unfolding fields_of
no_field rest zero e = refl
no_field rest (suc n) e = ap (λ (o : Option ℕ). led_by o (fields_of n (drop 9 rest))) e

pub no_text : (n : ℕ) → fields_of n [] ≡ []
no_text n = no_field [] n refl

-- the fields so far, of so many that there is room for, and those of what is left, are those of all
pub record Reads (text rest : List ℕ) (most : ℕ) (ws : List ℕ) (n : ℕ) : Type 0 where
  pub fields : ws ++ fields_of (most - n) rest ≡ fields_of most text
  pub counted : 9 * n + length rest ≡ length text
  pub length : length ws ≡ n

-- those of a reader, where its bytes are known
abbrev pub Reading : Option (List ℕ) → Option (List ℕ) → ℕ → List ℕ → ℕ → Type 0
Reading None new most ws n = ⊤
Reading (Some text) None most ws n = ⊥
Reading (Some text) (Some rest) most ws n = Reads text rest most ws n

pub none_read : (a : Option (List ℕ)) (most : ℕ) → Reading a a most [] 0
none_read None most = tt
none_read (Some text) most = record { fields = simp unary_clauses refl; counted = omega arith; length = refl }

one_more : (a b c : Option (List ℕ)) (most n w : ℕ) (ws more : List ℕ) → n < most → more ≡ ws ++ w ∷ []
    → Reading a b most ws n → Leads b c (Field w) → Reading a c most more (n + 1)
unfolding fields_of
one_more None b c most n w ws more h e r f = tt
one_more (Some text) None c most n w ws more h e r f = absurd r
one_more (Some text) (Some rest) None most n w ws more h e r f = absurd f
one_more (Some text) (Some rest) (Some behind) most n w ws more h e r f =
    let m : most - n ≡ suc (most - (n + 1)) = omega arith in
    record {
      fields =
          ap (λ (l : List ℕ). l ++ fields_of (most - (n + 1)) behind) e
          ∙ append_assoc ws (w ∷ []) (fields_of (most - (n + 1)) behind)
          ∙ ap (λ (l : List ℕ). ws ++ w ∷ fields_of (most - (n + 1)) l) f.rest
          ∙ sym (ap (λ (o : Option ℕ). ws ++ led_by o (fields_of (most - (n + 1)) (drop 9 rest))) f.field)
          ∙ sym (ap (λ (k : ℕ). ws ++ fields_of k rest) m)
          ∙ r.fields;
      counted = omega (arith, f.counted, r.counted);
      length = ap length e ∙ length-append ws (w ∷ []) ∙ ap (λ (k : ℕ). k + 1) r.length;
    }

pub one_read : (a b c : Option (List ℕ)) (most room n w : ℕ) (ws more : List ℕ) (next : Next) → n < most → room ≡ most
    → more ≡ ws ++ w ∷ [] → next ≡ Field w → Reading a b most ws n → Leads b c next → Reading a c room more (n + 1)
one_read a b c most room n w ws more next h k e is r f =
    subst (λ (m : ℕ). Reading a c m more (n + 1)) (sym k) (one_more a b c most n w ws more h e r (subst (Leads b c) is f))

-- the last of them were read, and whether they are all of the text
module _ (text rest : List ℕ) (most : ℕ) (ws : List ℕ) (n : ℕ) (r : Reads text rest most ws n)
    (none : fields_of (most - n) rest ≡ []) where
  pub all_read : ws ≡ fields_of most text
  all_read = sym (append-nil ws) ∙ sym (ap (λ (l : List ℕ). ws ++ l) none) ∙ r.fields

  pub is_whole : eqb (length rest) 0 ≡ eqb (9 * length (fields_of most text)) (length text)
  is_whole = go (eqb (length rest) 0) refl
    where
      same : length (fields_of most text) ≡ n
      same = sym (ap length all_read) ∙ r.length

      go : (t : Bool) → eqb (length rest) 0 ≡ t → t ≡ eqb (9 * length (fields_of most text)) (length text)
      go true p = sym (eq-eqb _ _ (omega (arith, eqb-true (length rest) 0 p, same, r.counted)))
      go false p =
          let some : length rest ≢ 0 = eqb-false (length rest) 0 p in
          sym (ne_eqb _ _ (λ q. some (omega (arith, same, r.counted))))

-- what is said where reading ends: at what is no field, or where there is no room
module _ (left : List ℕ) (n : ℕ) (whole : Bool) where
  done : (text rest behind : List ℕ) (next : Next) → Reads text rest (length left) (take n left) n → Says rest behind next
      → whole ≡ is_end next → fields_of (length left - n) rest ≡ [] → HasFields text left (record { count = n; whole = whole })
  done text rest behind next r s e none = record {
    fields = all_read text rest (length left) (take n left) n r none;
    whole = e ∙ ends rest behind next s ∙ is_whole text rest (length left) (take n left) n r none;
  }

  pub full : (a b c : Option (List ℕ)) (next : Next) → Reading a b (length left) (take n left) n → Leads b c next
      → whole ≡ is_end next → n ≡ length left → IfSome a (λ text. HasFields text left (record { count = length left; whole = whole }))
  unfolding fields_of
  full None b c next r s e h = tt
  full (Some text) None c next r s e h = absurd r
  full (Some text) (Some rest) None next r s e h = absurd s
  full (Some text) (Some rest) (Some behind) next r s e h =
      let none : length left - n ≡ 0 = omega arith in
      subst (λ k. HasFields text left (record { count = k; whole = whole })) h
      (done text rest behind next r s e (ap (λ (k : ℕ). fields_of k rest) none))

  pub ended : (a b c : Option (List ℕ)) (next : Next) → Reading a b (length left) (take n left) n → Leads b c next
      → whole ≡ is_end next → ((w : ℕ) → next ≢ Field w) → IfSome a (λ text. HasFields text left (record { count = n; whole = whole }))
  ended None b c next r s e h = tt
  ended (Some text) None c next r s e h = absurd r
  ended (Some text) (Some rest) None next r s e h = absurd s
  ended (Some text) (Some rest) (Some behind) (Field w) r s e h = absurd (h w refl)
  ended (Some text) (Some rest) (Some behind) End r s e h =
      done text rest behind End r s e (ap (fields_of (length left - n)) s ∙ no_text (length left - n))
  ended (Some text) (Some rest) (Some behind) Other r s e h = done text rest behind Other r s e (no_field rest (length left - n) s.0)

pub fewer : (a b c : Option (List ℕ)) (most n : ℕ) (ws : List ℕ) (next : Next) → Reading a b most ws n → Leads b c next
    → FewerBy a c (9 * (n + 1))
fewer None b c most n ws next r s = tt
fewer (Some text) None c most n ws next r s = absurd r
fewer (Some text) (Some rest) None most n ws next r s = absurd s
fewer (Some text) (Some rest) (Some behind) most n ws (Field w) r s = omega (arith, r.counted, s.counted)
fewer (Some text) (Some rest) (Some behind) most n ws End r s = omega (arith, r.counted, ap length s)
fewer (Some text) (Some rest) (Some behind) most n ws Other r s = omega (arith, r.counted, s.2)
