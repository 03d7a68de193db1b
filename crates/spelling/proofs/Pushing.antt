-- Bytes put into an output: one list after the other, a run at once, and a list part by part. Assumes nothing.
use mathlib.Core.Path.{◌≡◌, refl, sym, ap, ◌∙◌}
use mathlib.Core.Bool.{Bool, true, false}
use mathlib.Core.List.{List, [], ◌∷◌, ◌++◌, append_assoc}
use Prim.Native.Nat.{ℕ, suc, ◌+◌, ◌*◌, ◌≤◌, ◌<◌, min}
use native.Mathlib.Numerals.{add-one}
use native.Mathlib.Omega.{arith}
use borrow.Author.Tests.{eq-eqb, ne_eqb, ltb-true, ltb-false}
use lib.Dec.{ltb, eqb}
use lib.ListN.{length, get_or, set, take, drop, replicate, length-set, length-append, length-replicate}
use lib.ListN.{drop_of_length-le}
use lib.Seq.{sets, set_out, drop-cons, drop-drop, length-sets, sets-eq, take_at}
use Rattle.model.specs.Lists.{pick}
use Rattle.grammar.specs.Digits.{Sort, numbers, floats, places, digits_of, items_text}
use Rattle.spelling.specs.Pushed.{Out, out_at, farthest, push, pushes, behind}
use Rattle.spelling.proofs.DigitLaws.{last-length, digits-few}

-- ---- one list after the other
pub pushes-append : (xs bs : List ℕ) (o : Out) → pushes (xs ++ bs) o ≡ pushes bs (pushes xs o)
unfolding pushes
pushes-append [] bs o = refl
pushes-append (x ∷ xs) bs o = pushes-append xs bs (push x o)

pub put-append : (xs bs : List ℕ) (o : Out) {mid left : Out} → mid ≡ pushes xs o → left ≡ pushes bs mid
    → left ≡ pushes (xs ++ bs) o
put-append xs bs o p q = q ∙ ap (pushes bs) p ∙ sym (pushes-append xs bs o)

length-pushes : (bs : List ℕ) (o : Out) → length (pushes bs o).bytes ≡ length o.bytes
unfolding pushes
length-pushes [] o = refl
length-pushes (b ∷ bs) o = length-pushes bs (push b o) ∙ length-set o.bytes o.at b

-- ---- a run at once
pub sets-out : (l : List ℕ) (i : ℕ) (bs : List ℕ) → length l ≤ i → sets l i bs ≡ l
sets-out l i [] h = refl
sets-out l i (b ∷ bs) h = rw (set_out l i b) (sets-out l (suc i) bs (omega arith))

-- past the end one place is as good as another
sets-place : (l : List ℕ) (i : ℕ) (bs : List ℕ) → length l ≤ farthest → sets l (min i farthest) bs ≡ sets l i bs
sets-place l i bs h = go (ltb i farthest) refl
  where
    go : (t : Bool) → ltb i farthest ≡ t → sets l (min i farthest) bs ≡ sets l i bs
    go true e =
        let below = ltb-true i farthest e in
        let m : min i farthest ≡ i = omega arith in
        ap (λ (k : ℕ). sets l k bs) m
    go false e =
        let above = ltb-false i farthest e in
        sets-out l (min i farthest) bs (omega arith) ∙ sym (sets-out l i bs (omega arith))

push-sets : (b : ℕ) (bs l : List ℕ) (at : ℕ) → length l ≤ farthest
    → pushes (b ∷ bs) (out_at l at) ≡ out_at (sets l at (b ∷ bs)) (min (at + suc (length bs)) farthest)
unfolding pushes
push-sets b [] l at h = ap (out_at (set l at b)) (omega arith)
push-sets b (c ∷ bs) l at h =
    let s = set l at b in
    let n : length s ≤ farthest = omega (arith, length-set l at b) in
    let k = min (suc at) farthest in
    let m = suc (length bs) in
    let e : min (k + m) farthest ≡ min (at + suc m) farthest = omega arith in
    push-sets c bs s k n ∙ (λ j. out_at (sets-place s (suc at) (c ∷ bs) n j) (e j))

pub put-sets : (lent : List ℕ) (at : ℕ) (bs : List ℕ) (n : ℕ) {left : List ℕ} {next : ℕ} → length lent ≤ farthest
    → length bs ≡ n → 0 < n → left ≡ sets lent at bs → next ≡ min (at + n) farthest
    → out_at left next ≡ pushes bs (out_at lent at)
put-sets lent at [] n l e h f g = absurd (omega arith)
put-sets lent at (b ∷ bs) n l e h f g =
    let m : min (at + n) farthest ≡ min (at + suc (length bs)) farthest = omega arith in
    (λ j. out_at (f j) ((g ∙ m) j)) ∙ sym (push-sets b bs lent at l)

-- bytes that there is room for
pub put-run : (lent : List ℕ) (at n : ℕ) (bs : List ℕ) {left : List ℕ} → length lent < farthest
    → at + length bs ≤ length lent → n ≡ length bs → left ≡ take at lent ++ (bs ++ drop n (drop at lent))
    → out_at left (at + length bs) ≡ pushes bs (out_at lent at)
unfolding pushes
put-run lent at n bs {left} h r e f =
    go bs r (f ∙ (λ j. take at lent ++ (bs ++ rest j)) ∙ sym (append_assoc (take at lent) bs _)
    ∙ sym (sets-eq bs lent at r))
  where
    rest : drop n (drop at lent) ≡ drop (at + length bs) lent
    rest = drop-drop n at lent ∙ ap (λ (k : ℕ). drop (at + k) lent) e

    go : (xs : List ℕ) → at + length xs ≤ length lent → left ≡ sets lent at xs
        → out_at left (at + length xs) ≡ pushes xs (out_at lent at)
    go [] r e = let here : at + 0 ≡ at = omega arith in λ j. out_at (e j) (here j)
    go (x ∷ xs) r e = put-sets lent at (x ∷ xs) (length (x ∷ xs)) (omega arith) refl (omega arith) e (omega arith)

-- bytes put into zeros that have room for them stand at their start
pub record Filled (bs left : List ℕ) (end : ℕ) : Type 0 where
  pub long : end ≡ length bs
  pub inside : end ≤ length left
  pub taken : take end left ≡ bs

pub filled : (n : ℕ) (bs left : List ℕ) (end : ℕ) → 0 < length bs → length bs ≤ n → n ≤ 0xff
    → out_at left end ≡ pushes bs (out_at (replicate n 0) 0) → Filled bs left end
filled n bs left end some room few e =
    let zeros : List ℕ = replicate n 0 in
    let all = length-replicate {A = ℕ} n 0 in
    let p = e ∙ sym (put-sets zeros 0 bs (length bs) (omega arith) refl some refl refl) in
    let l : left ≡ sets zeros 0 bs = ap (λ (o : Out). o.bytes) p in
    let whole : end ≡ length bs = omega (arith, ap (λ (o : Out). o.at) p) in
    let fits : 0 + length bs ≤ length zeros = omega arith in
    record {
      long = whole;
      inside = omega (arith, ap length l, length-sets zeros 0 bs);
      taken = rw (l, sets-eq bs zeros 0 fits) (take_at bs _ end (sym whole));
    }

-- an item behind a space
pub item-put : (s : Sort) (n : ℕ) (left : List ℕ) (end : ℕ)
    → out_at left end ≡ pushes (32 ∷ digits_of s n) (out_at (replicate 16 0) 0) → Filled (32 ∷ digits_of s n) left end
item-put s n left end e =
    filled 16 (32 ∷ digits_of s n) left end (omega arith) (omega (arith, digits-few s n)) (omega arith) e

-- ---- no room

-- nothing is put past the end
pub put-past : (bs l : List ℕ) (at : ℕ) → length l ≤ at → length l ≤ farthest
    → pushes bs (out_at l at) ≡ out_at l (behind at bs)
unfolding pushes behind
put-past [] l at h f = refl
put-past (b ∷ bs) l at h f =
    ap (λ (m : List ℕ). pushes bs (out_at m (min (suc at) farthest))) (set_out l at b h)
    ∙ put-past bs l (min (suc at) farthest) (omega arith) f

behind-append : (xs bs : List ℕ) (at : ℕ) → behind at (xs ++ bs) ≡ behind (behind at xs) bs
unfolding behind
behind-append [] bs at = refl
behind-append (x ∷ xs) bs at = behind-append xs bs (min (suc at) farthest)

behind-run : (b : ℕ) (bs : List ℕ) (at : ℕ) → behind at (b ∷ bs) ≡ min (at + suc (length bs)) farthest
unfolding behind
behind-run b [] at = omega arith
behind-run b (c ∷ bs) at = behind-run c bs (min (suc at) farthest) ∙ omega arith

pub behind-none : (bs : List ℕ) (at : ℕ) → length bs ≡ 0 → behind at bs ≡ at
unfolding behind
behind-none [] at e = refl
behind-none (b ∷ bs) at e = absurd (omega arith)

pub behind-some : (bs : List ℕ) (at : ℕ) → (length bs ≡ 0 → ⊥) → behind at bs ≡ min (at + length bs) farthest
behind-some [] at h = absurd (h refl)
behind-some (b ∷ bs) at h = behind-run b bs at

-- numbers one after the other
abbrev pub Behind : List ℕ → ℕ → ℕ → ℕ → Type 0
Behind items at k i = behind k (items_text numbers (drop i items)) ≡ behind at (items_text numbers items)

pub behind_more : (items : List ℕ) (at k i : ℕ) {count next : ℕ} → Behind items at k i → i < length items
    → count ≡ places 9 (get_or items i 0) → next ≡ min (k + (count + 1)) farthest → Behind items at next (i + 1)
unfolding items_text
behind_more items at k i {next = next} e h p q =
    let x = get_or items i 0 in
    let rest = items_text numbers (drop (suc i) items) in
    let one : behind k (32 ∷ digits_of numbers x) ≡ next
    = behind-run 32 (digits_of numbers x) k ∙ omega (arith, q, p, last-length 10 (places 9 x) x) in
    (λ j. behind (sym one j) (items_text numbers (drop (add-one i j) items)))
    ∙ sym (behind-append (32 ∷ digits_of numbers x) rest k)
    ∙ sym (ap (λ (l : List ℕ). behind k (items_text numbers l)) (drop-cons items i 0 h)) ∙ e

pub behind-done : (items : List ℕ) (at k i : ℕ) → Behind items at k i → length items ≤ i
    → k ≡ behind at (items_text numbers items)
unfolding items_text behind
behind-done items at k i e h = rw (drop_of_length-le items h) at e

-- floats at once
floats-long : (xs : List ℕ) → length (items_text floats xs) ≡ length xs * 9
unfolding items_text
floats-long [] = refl
floats-long (x ∷ xs) =
    omega (
      arith,
      floats-long xs,
      last-length 16 8 x,
      length-append (digits_of floats x) (items_text floats xs),
    )

floats-behind : (xs : List ℕ) (at : ℕ)
    → pick (eqb (length xs) 0) at (min (at + length xs * 9) farthest) ≡ behind at (items_text floats xs)
unfolding items_text behind
floats-behind [] at = refl
floats-behind (x ∷ xs) at =
    let some = ne_eqb (suc (length xs)) 0 (λ z. omega (arith, z)) in
    ap (λ (b : Bool). pick b at (min (at + suc (length xs) * 9) farthest)) some
    ∙ omega (arith, floats-long (x ∷ xs))
    ∙ sym (behind-run 32 (digits_of floats x ++ items_text floats xs) at)

pub no-floats : (xs : List ℕ) (at : ℕ) → length xs ≡ 0 → at ≡ behind at (items_text floats xs)
no-floats xs at e =
    (λ j. pick (sym (eq-eqb (length xs) 0 e) j) at (min (at + length xs * 9) farthest)) ∙ floats-behind xs at

pub some-floats : (xs : List ℕ) (at : ℕ) {next : ℕ} → (length xs ≡ 0 → ⊥) → next ≡ min (at + length xs * 9) farthest
    → next ≡ behind at (items_text floats xs)
some-floats xs at h e =
    e ∙ (λ j. pick (sym (ne_eqb (length xs) 0 h) j) at (min (at + length xs * 9) farthest)) ∙ floats-behind xs at

-- ---- a list part by part
pub record Parts {A : Type 0} (text : List A → List ℕ) (part : A → List ℕ) : Type 0 where
  pub none : text [] ≡ []
  pub more : (x : A) (xs : List A) → text (x ∷ xs) ≡ part x ++ text xs

-- items behind a space, each by its word
pub items-parts : {A : Type 0} (s : Sort) (words : List A → List ℕ) (word : A → ℕ) → words [] ≡ []
    → ((x : A) (xs : List A) → words (x ∷ xs) ≡ word x ∷ words xs)
    → Parts (λ xs. items_text s (words xs)) (λ x. 32 ∷ digits_of s (word x))
unfolding items_text
items-parts s words word none more = record {
  none = ap (items_text s) none;
  more = λ x xs. ap (items_text s) (more x xs);
}

-- what is still to put makes up what was to put
abbrev pub Going : {A : Type 0} → (List A → List ℕ) → List A → Out → Out → ℕ → Type 0
Going text all lent left i = pushes (text (drop i all)) left ≡ pushes (text all) lent

pub going-length : (xs bs : List ℕ) (left lent : Out) → pushes xs left ≡ pushes bs lent
    → length left.bytes ≡ length lent.bytes
going-length xs bs left lent e =
    sym (length-pushes xs left) ∙ ap (λ (o : Out). length o.bytes) e ∙ length-pushes bs lent

module _ {A : Type 0} {text : List A → List ℕ} {part : A → List ℕ} (parts : Parts text part) where
  pub going_more : (all : List A) (i : ℕ) (d : A) (bs : List ℕ) (lent mid : Out) {left : Out}
      → Going text all lent mid i → i < length all → bs ≡ part (get_or all i d) → left ≡ pushes bs mid
      → Going text all lent left (i + 1)
  going_more all i d bs lent mid e h q p =
      let rest = drop (suc i) all in
      rw (add-one i, p, ← pushes-append, q, ← parts.more (get_or all i d) rest, ← drop-cons all i d h) e

  pub going_done : (all : List A) (i : ℕ) (lent left : Out)
      → Going text all lent left i → length all ≤ i → left ≡ pushes (text all) lent
  unfolding pushes
  going_done all i lent left e h = rw (drop_of_length-le all h, parts.none) at e
