-- Items that stand in a text as they are written. Assumes nothing.
use mathlib.Core.Path.{◌≡◌, refl, sym, ap, subst, ◌∙◌}
use mathlib.Core.List.{List, [], ◌∷◌, ◌++◌, map}
use Prim.Native.Nat.{ℕ, zero, suc, ◌+◌, ◌*◌, ◌-◌, ◌^◌, ◌≤◌, ◌<◌}
use native.Mathlib.Nat.{pow-suc}
use native.Mathlib.Numerals.{add-one}
use native.Mathlib.Omega.{arith}
use lib.ListN.{length, get_or, take, drop, length-append, length-drop, take-append-drop}
use lib.Seq.{drop-cons, drop-drop, append_snoc, length-take-le, take-take}
use Rattle.grammar.specs.Digits.{numbers, floats, digits_of}
use Rattle.grammar.specs.Parsed.{digit_of}
use Rattle.digits.specs.Packed.{packed, Written}
use Rattle.digits.proofs.EightLaws.{digits-written}
use Rattle.digits.specs.Standing.{Stands, ItemStands, Begins}
use Rattle.digits.proofs.NumberLaws.{digits_in, digits-one, digits_more}

-- the same bytes behind one more
pub stands_one : {text : List ℕ} {at next b : ℕ} {bs : List ℕ} → at < length text → get_or text at 0 ≡ b
    → Stands text (at + 1) next bs → Stands text at next (b ∷ bs)
stands_one {text} {at} h e s =
    let rest = ap (λ (k : ℕ). drop k text) (sym (add-one at)) ∙ s.here in
    record { here = drop-cons text at 0 h ∙ (λ j. e j ∷ rest j); far = omega (arith, s.far) }

-- and one more behind them
stands-more : {text : List ℕ} {at next b : ℕ} {bs : List ℕ} → next < length text → get_or text next 0 ≡ b
    → Stands text at next bs → Stands text at (next + 1) (bs ++ (b ∷ []))
stands-more {text} {at} {next} {b} {bs} h e s =
    let rest = drop-cons text next 0 h ∙ (λ j. e j ∷ drop (sym (add-one next) j) text) in
    record {
      here = s.here ∙ ap (λ (l : List ℕ). bs ++ l) rest ∙ sym (append_snoc bs b (drop (next + 1) text));
      far = omega (arith, s.far, length-append bs (b ∷ []));
    }

-- the first bytes from a place on
pub first-stand : {text : List ℕ} {at : ℕ} (count : ℕ) {bs ds : List ℕ} → at + 8 < length text → count ≤ 8
    → bs ≡ take (at + 8 - at) (drop at text) → ds ≡ take count bs → Stands text at (at + count) ds
first-stand {text} {at} count {bs} {ds} h k b e =
    let from = drop at text in
    let eight : at + 8 - at ≡ 8 = omega arith in
    let long : length from ≡ length text - at = length-drop at text in
    let taken = e ∙ ap (take count) (b ∙ ap (λ (n : ℕ). take n from) eight) ∙ take-take count 8 from k in
    record {
      here = sym (take-append-drop count from) ∙ (λ j. sym taken j ++ drop-drop count at text j);
      far = omega (arith, ap length taken ∙ length-take-le count from (omega arith));
    }

-- eight bytes that are the digits of their number
pub float-stands : {text bs : List ℕ} {at v : ℕ} → at + 8 < length text → bs ≡ take (at + 8 - at) (drop at text)
    → Written bs → v ≡ packed 16 0 (map digit_of bs) → Stands text at (at + 8) (digits_of floats v)
float-stands {text} {bs} {at} {v} h b w e =
    let from = drop at text in
    let eight : at + 8 - at ≡ 8 = omega arith in
    let taken : bs ≡ take 8 from = b ∙ ap (λ (n : ℕ). take n from) eight in
    let long : length bs ≡ 8 = ap length taken ∙ length-take-le 8 from (omega (arith, length-drop at text)) in
    let whole = taken ∙ sym (take-take 8 8 from (omega arith)) ∙ ap (take 8) (sym taken) in
    first-stand 8 h (omega arith) b (digits-written bs v long w e ∙ whole)

-- ---- digit by digit
pub begins : {text : List ℕ} {from b : ℕ} → from < length text → get_or text from 0 ≡ b → 48 < b → b < 58
    → Begins text from (from + 1) (b - 48)
begins {text} {from} h e l u =
    let none : Stands text (from + 1) (from + 1) [] = record { here = refl; far = omega arith } in
    record { stands = stands_one h (omega arith) none; some = omega arith; less = omega arith }

-- a number stands there so far, however many places it is given
pub record NumberGoing (text : List ℕ) (from i v : ℕ) : Type 0 where
  stands : (k : ℕ) → v < 10 ^ suc k → Stands text from i (digits_in k v)
  some : 0 < v
  small : v < 0x1_0000_0000

pub number-start : {text : List ℕ} {from at v : ℕ} → Begins text from at v → NumberGoing text from at v
number-start {text} {from} {at} {v} b = record {
  stands = λ k h. subst (Stands text from at) (sym (digits-one k v b.less)) b.stands;
  some = b.some;
  small = let l = b.less in omega arith;
}

module _ {text : List ℕ} {from i v : ℕ} (g : NumberGoing text from i v) where
  pub number_more : {n : ℕ} → i < length text → 48 ≤ get_or text i 0 → get_or text i 0 ≤ 57
      → n ≡ v * 10 + (get_or text i 0 - 48) → n < 0x1_0000_0000 → NumberGoing text from (i + 1) n
  number_more h l u e m =
      let d = get_or text i 0 - 48 in
      let o = g.some in
      let byte : get_or text i 0 ≡ 48 + d = omega arith in
      let one = g.stands in
      subst (NumberGoing text from (i + 1)) (sym e)
      (record { stands = more d byte (omega arith) o one; some = omega arith; small = omega arith })
    where
      more : (d : ℕ) → get_or text i 0 ≡ 48 + d → d < 10 → 0 < v
          → ((k : ℕ) → v < 10 ^ suc k → Stands text from i (digits_in k v))
          → (k : ℕ) → v * 10 + d < 10 ^ suc k → Stands text from (i + 1) (digits_in k (v * 10 + d))
      more d byte l o one zero k = absurd (omega (arith, k))
      more d byte l o one (suc k) m =
          let room : v < 10 ^ suc k = omega (arith, m, pow-suc 10 (suc k)) in
          subst (Stands text from (i + 1)) (sym (digits_more k v d o l)) (stands-more h byte (one k room))

  pub number-ends : i < length text → get_or text i 0 < 48 → ItemStands numbers text from i v
  number-ends h l =
      let s = g.small in
      record { stands = g.stands 9 (omega arith); small = s; inside = h; stops = l }
