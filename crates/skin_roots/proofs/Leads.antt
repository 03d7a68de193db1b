-- Counting lines joint by joint: a node is counted t times just if it is on the lines of the first t joints. Assumes nothing.
use mathlib.Core.Path.{◌≡◌, refl, sym, ap, ◌∙◌, subst}
use mathlib.Core.Bool.{Bool, true, false, ◌&&◌, ◌||◌}
use mathlib.Core.List.{List, [], ◌∷◌}
use mathlib.Core.Option.{Option, none, some}
use Prim.Native.Nat.{ℕ, zero, suc, ◌+◌, ◌-◌, ◌≤◌, ◌<◌}
use native.Mathlib.Numerals.{add-one}
use native.Mathlib.Omega.{arith}
use borrow.Author.Tests.{eqb-true, eqb-false, eq-eqb, ne_eqb, ltb-true}
use lib.Dec.{ltb, eqb}
use lib.ListN.{length, get_or, take, drop, set, replicate, length-set, length-drop, length-replicate, get_or-replicate}
use lib.Seq.{set_out, get_or-set_same, get_or-set_other, take_all, take-length}
use Rattle.model.specs.Lists.{pick, every, any_of, foldl, first_that}
use Rattle.model.specs.Skin.{ancestors, is_among}
use Rattle.model.specs.Agree.{Each}
use Rattle.model.proofs.Tests.{both}
use Rattle.skin_roots.specs.Lines.{up_in, line_in, Inside, common_in, count_one, Leading}

-- ---- one count
abbrev bump : ℕ → ℕ → Bool → ℕ
bump t v b = pick (b && eqb v t) (t + 1) v

and-false : (b : Bool) → (b && false) ≡ false
and-false true = refl
and-false false = refl

and-true : (b : Bool) → (b && true) ≡ b
and-true true = refl
and-true false = refl

and_assoc : (a b c : Bool) → (a && (b && c)) ≡ ((a && b) && c)
and_assoc true b c = refl
and_assoc false b c = refl

pick_same : (b : Bool) (n : ℕ) → pick b n n ≡ n
pick_same true n = refl
pick_same false n = refl

bump-twice : (t v : ℕ) (b c : Bool) → bump t (bump t v b) c ≡ bump t v (b || c)
bump-twice t v false c = refl
bump-twice t v true c = go (eqb v t) refl
  where
    go : (e : Bool) → eqb v t ≡ e → pick (c && eqb (pick e (t + 1) v) t) (t + 1) (pick e (t + 1) v) ≡ pick e (t + 1) v
    go true q = pick_same (c && eqb (t + 1) t) (t + 1)
    go false q = ap (λ (e : Bool). pick (c && e) (t + 1) v) q ∙ ap (λ (e : Bool). pick e (t + 1) v) (and-false c)

bump-told : (t v : ℕ) (b : Bool) → v ≤ t → (bump t v b ≤ t + 1) × (eqb (bump t v b) (t + 1) ≡ (eqb v t && b))
bump-told t v false h = (omega arith, ne_eqb v (t + 1) (λ e. omega (arith, e)) ∙ sym (and-false (eqb v t)))
bump-told t v true h = go (eqb v t)
  where
    go : (e : Bool) → (pick e (t + 1) v ≤ t + 1) × (eqb (pick e (t + 1) v) (t + 1) ≡ (e && true))
    go true = (omega arith, eq-eqb (t + 1) (t + 1) refl)
    go false = (omega arith, ne_eqb v (t + 1) (λ e. omega (arith, e)))

pub eqb-turned : (m n : ℕ) → eqb m n ≡ eqb n m
eqb-turned m n = go (eqb m n) refl
  where
    go : (b : Bool) → eqb m n ≡ b → b ≡ eqb n m
    go true e = sym (eq-eqb n m (sym (eqb-true m n e)))
    go false e = sym (ne_eqb n m (λ q. eqb-false m n e (sym q)))

-- ---- a line
module _ (t : ℕ) where
  -- past the counts nothing is counted
  pub count_past : (counts : List ℕ) (x : ℕ) → length counts ≤ x → counts ≡ count_one t counts x
  unfolding count_one
  count_past counts x h = go (eqb (get_or counts x 0) t)
    where
      go : (b : Bool) → counts ≡ pick b (set counts x (t + 1)) counts
      go true = sym (set_out counts x (t + 1) h)
      go false = refl

  counts-length : (counts : List ℕ) (x : ℕ) → length (count_one t counts x) ≡ length counts
  unfolding count_one
  counts-length counts x = go (eqb (get_or counts x 0) t)
    where
      go : (b : Bool) → length (pick b (set counts x (t + 1)) counts) ≡ length counts
      go true = length-set counts x (t + 1)
      go false = refl

  pub line-length : (counts xs : List ℕ) → length (foldl (count_one t) counts xs) ≡ length counts
  unfolding foldl
  line-length counts [] = refl
  line-length counts (x ∷ xs) = line-length (count_one t counts x) xs ∙ counts-length counts x

  module _ (a : ℕ) where
    one-count : (counts : List ℕ) (x : ℕ) → a < length counts → get_or (count_one t counts x) a 0 ≡ bump t (get_or counts a 0) (eqb x a)
    unfolding count_one
    one-count counts x h = go (eqb x a) refl
      where
        same : x ≡ a → (b : Bool) → get_or (pick b (set counts x (t + 1)) counts) a 0 ≡ pick b (t + 1) (get_or counts a 0)
        same e true = ap (λ (k : ℕ). get_or (set counts k (t + 1)) a 0) e ∙ get_or-set_same counts a (t + 1) 0 h
        same e false = refl

        other : (x ≡ a → ⊥) → (b : Bool) → get_or (pick b (set counts x (t + 1)) counts) a 0 ≡ get_or counts a 0
        other d true = get_or-set_other counts x a (t + 1) 0 (λ e. d (sym e))
        other d false = refl

        go : (b : Bool) → eqb x a ≡ b → get_or (pick (eqb (get_or counts x 0) t) (set counts x (t + 1)) counts) a 0 ≡ bump t (get_or counts a 0) b
        go true q =
            let e = eqb-true x a q in
            same e (eqb (get_or counts x 0) t) ∙ ap (λ (k : ℕ). pick (eqb (get_or counts k 0) t) (t + 1) (get_or counts a 0)) e
        go false q = other (eqb-false x a q) (eqb (get_or counts x 0) t)

    line-count : (xs counts : List ℕ) → a < length counts → get_or (foldl (count_one t) counts xs) a 0 ≡ bump t (get_or counts a 0) (is_among a xs)
    unfolding foldl any_of
    line-count [] counts h = refl
    line-count (x ∷ xs) counts h =
        line-count xs (count_one t counts x) (omega (arith, counts-length counts x))
        ∙ ap (λ (v : ℕ). bump t v (is_among a xs)) (one-count counts x h)
        ∙ bump-twice t (get_or counts a 0) (eqb x a) (is_among a xs)

-- ---- all lines
every_more : (p : ℕ → Bool) (l : List ℕ) (t : ℕ) → t < length l → every p (take (suc t) l) ≡ (every p (take t l) && p (get_or l t 0))
unfolding every
every_more p [] t h = absurd (omega arith)
every_more p (x ∷ xs) zero h = and-true (p x)
every_more p (x ∷ xs) (suc t) h = ap (λ (b : Bool). p x && b) (every_more p xs t (omega arith)) ∙ and_assoc (p x) (every p (take t xs)) (p (get_or xs t 0))

module _ (codes joints : List ℕ) where
  pub leading-start : (n : ℕ) → every (λ j. ltb j (length codes)) joints ≡ true → Leading codes joints 0 (replicate n 0)
  unfolding every
  leading-start n e = record {
    nodes = e;
    most = λ a h. omega (arith, zero-there a h);
    told = λ a h. eq-eqb (get_or {A = ℕ} (replicate n 0) a 0) 0 (zero-there a h);
  }
    where
      zero-there : (a : ℕ) → a < length {A = ℕ} (replicate n 0) → get_or {A = ℕ} (replicate n 0) a 0 ≡ 0
      zero-there a h = get_or-replicate {A = ℕ} n a 0 0 (omega (arith, length-replicate {A = ℕ} n 0))

  pub leading-next : (t : ℕ) (counts next : List ℕ) → t < length joints → Leading codes joints t counts
      → next ≡ foldl (count_one t) counts (line_in codes (get_or joints t 0)) → Leading codes joints (t + 1) next
  leading-next t counts next h L e = record {
    nodes = L.nodes;
    most = λ a b. let c = inside a b in omega (arith, at a c, (bump-told t (get_or counts a 0) (is_among a (line_in codes (get_or joints t 0))) (L.most a c)).0);
    told = λ a b.
        let c = inside a b in
        ap (λ (v : ℕ). eqb v (t + 1)) (at a c)
        ∙ (bump-told t (get_or counts a 0) (is_among a (line_in codes (get_or joints t 0))) (L.most a c)).1
        ∙ ap (λ (q : Bool). q && is_among a (line_in codes (get_or joints t 0))) (L.told a c)
        ∙ sym (every_more (λ i. is_among a (line_in codes i)) joints t h)
        ∙ ap (λ (k : ℕ). every (λ i. is_among a (line_in codes i)) (take k joints)) (sym (add-one t));
  }
    where
      inside : (a : ℕ) → a < length next → a < length counts
      inside a b = omega (arith, ap length e, line-length t counts (line_in codes (get_or joints t 0)))

      at : (a : ℕ) → a < length counts → get_or next a 0 ≡ bump t (get_or counts a 0) (is_among a (line_in codes (get_or joints t 0)))
      at a c = ap (λ (l : List ℕ). get_or l a 0) e ∙ line-count t a (line_in codes (get_or joints t 0)) counts c

-- a joint is one of the nodes
pub joint-inside : (n : ℕ) (joints : List ℕ) (t : ℕ) → every (λ j. ltb j n) joints ≡ true → t < length joints → get_or joints t 0 < n
unfolding every
joint-inside n [] t e h = absurd (omega arith)
joint-inside n (x ∷ xs) zero e h = ltb-true x n (both (ltb x n) (every (λ j. ltb j n) xs) e).0
joint-inside n (x ∷ xs) (suc t) e h = joint-inside n xs t (both (ltb x n) (every (λ j. ltb j n) xs) e).1 (omega arith)

-- ---- the first node that is on all lines
first_alike : (n : ℕ) (p q : ℕ → Bool) (l : List ℕ) → Each (λ a. a < n) l → ((a : ℕ) → a < n → p a ≡ q a) → first_that p l ≡ first_that q l
unfolding first_that
first_alike n p q [] h e = refl
first_alike n p q (x ∷ xs) h e = (λ i. pick (e x h.0 i) (some x) (first_alike n p q xs h.1 e i))

module _ (codes : List ℕ) (inside : Inside codes) where
  line-inside : (k : ℕ) (o : Option ℕ) → ((p : ℕ) → o ≡ some p → p < length codes) → Each (λ a. a < length codes) (ancestors k (up_in codes) o)
  unfolding ancestors
  line-inside zero o h = tt
  line-inside (suc k) none h = tt
  line-inside (suc k) (some i) h = (h i refl, line-inside k (up_in codes i) (inside i))

  pub common-is : (joints counts : List ℕ) → (length joints ≡ 0 → ⊥) → every (λ j. ltb j (length codes)) joints ≡ true → length codes ≤ length counts
      → Leading codes (drop 1 joints) (length joints - 1) counts
      → first_that (λ a. eqb (get_or counts a 0) (length joints - 1)) (line_in codes (get_or joints 0 0)) ≡ common_in codes joints
  unfolding common_in line_in
  common-is [] counts d e b L = absurd (d refl)
  common-is (j ∷ js) counts d e b L =
      let m : length (j ∷ js) - 1 ≡ length js = omega arith in
      first_alike (length codes) _ (λ a. every (λ i. is_among a (line_in codes i)) js) (line_in codes j)
      (line-inside (suc (length codes)) (some j) (λ p q. let r : j ≡ p = cc in omega (arith, joint-inside (length codes) (j ∷ js) 0 e (omega arith))))
      (λ a h. L.told a (omega arith) ∙ ap (every (λ i. is_among a (line_in codes i))) (ap (λ (k : ℕ). take k js) m ∙ take-length js))
      ∙ ap (λ (t : Bool). pick t (first_that (λ a. every (λ i. is_among a (line_in codes i)) js) (line_in codes j)) none) (sym e)

pub none-common : (codes joints : List ℕ) → length joints ≡ 0 → none ≡ common_in codes joints
unfolding common_in
none-common codes [] h = refl
none-common codes (j ∷ js) h = absurd (omega arith)

pub not-nodes : (codes joints : List ℕ) → every (λ j. ltb j (length codes)) joints ≡ false → none ≡ common_in codes joints
unfolding common_in
not-nodes codes [] h = refl
not-nodes codes (j ∷ js) h = ap (λ (t : Bool). pick t (first_that (λ a. every (λ i. is_among a (line_in codes i)) js) (line_in codes j)) none) (sym h)

-- ---- the joints past the first
pub rest-is : (joints : List ℕ) → take (length joints - 1) (drop 1 joints) ≡ drop 1 joints
rest-is joints = take_all (length joints - 1) (drop 1 joints) (omega (arith, length-drop 1 joints))

pub rest-inside : (p : ℕ → Bool) (joints : List ℕ) → every p joints ≡ true → every p (take (length joints - 1) (drop 1 joints)) ≡ true
unfolding every
rest-inside p [] e = refl
rest-inside p (j ∷ js) e = ap (every p) (rest-is (j ∷ js)) ∙ (both (p j) (every p js) e).1

pub rest-leads : (codes joints counts : List ℕ) → Leading codes (take (length joints - 1) (drop 1 joints)) (length (take (length joints - 1) (drop 1 joints))) counts
    → Leading codes (drop 1 joints) (length joints - 1) counts
rest-leads codes joints counts L =
    let n : length (drop 1 joints) ≡ length joints - 1 = length-drop 1 joints in
    subst (λ (t : ℕ). Leading codes (drop 1 joints) t counts) n
    (subst (λ (js : List ℕ). Leading codes js (length js) counts) (rest-is joints) L)
