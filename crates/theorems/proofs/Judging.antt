-- A list of tests in the order of judging answers the applying refusal of least rank, and 0 exactly where none applies.
-- Assumes nothing.
use mathlib.Core.Path.{◌≡◌, refl, sym, ap, ◌∙◌, subst}
use mathlib.Core.Logic.{◌⊎◌, inl, inr}
use mathlib.Core.Bool.{Bool, true, false, true≢false}
use mathlib.Core.List.Memᴰ
use mathlib.Core.List.{List, [], ◌∷◌, Memᴰ}
use Prim.Native.Nat.{ℕ, zero, suc, ◌≤◌, ◌<◌}
use native.Mathlib.Omega.{arith}
use borrow.Author.Tests.{ltb-true}
use lib.Dec.{ltb}
use lib.ListN.{get_or}
use Rattle.model.specs.Lists.{pick, every}
use Rattle.model.specs.Refusals.{Refusal, out_of_table, over_limit, no_time, uneven_track, keys_out_of_line, short_scratch}
use Rattle.model.specs.Refusals.{no_such_node, unplaced_node, no_palette, short_output, no_common_root, no_such_frame, number}
use Rattle.model.specs.Refusals.{bad_form, Test, first_of, lowest}
use Rattle.model.proofs.Tests.{both}
use Rattle.theorems.specs.Judging.{order, before, rank, ascending, NoneApplies, Least, Judged, JudgesBy}
use Rattle.theorems.specs.Judging.{after_tables}

-- ---- ranks

-- every refusal has a place in the order
in_order : (r : Refusal) → get_or order (rank r) out_of_table ≡ r
unfolding rank before
in_order out_of_table = refl
in_order over_limit = refl
in_order no_time = refl
in_order uneven_track = refl
in_order keys_out_of_line = refl
in_order short_scratch = refl
in_order no_such_node = refl
in_order unplaced_node = refl
in_order no_palette = refl
in_order short_output = refl
in_order no_common_root = refl
in_order no_such_frame = refl
in_order bad_form = refl

-- no two have the same
pub rank-apart : (q r : Refusal) → rank q ≡ rank r → q ≡ r
rank-apart q r e = sym (in_order q) ∙ ap (λ (k : ℕ). get_or order k out_of_table) e ∙ in_order r

pub number-some : (r : Refusal) → number r ≡ 0 → ⊥
number-some out_of_table e = omega arith
number-some over_limit e = omega arith
number-some no_time e = omega arith
number-some uneven_track e = omega arith
number-some keys_out_of_line e = omega arith
number-some short_scratch e = omega arith
number-some no_such_node e = omega arith
number-some unplaced_node e = omega arith
number-some no_palette e = omega arith
number-some short_output e = omega arith
number-some no_common_root e = omega arith
number-some no_such_frame e = omega arith
number-some bad_form e = omega arith

-- ---- the first that applies

passes : {A : Type 0} (p : A → Bool) (l : List A) → every p l ≡ true → (x : A) → Memᴰ x l → p x ≡ true
unfolding every
passes p [] h x m = absurd (Memᴰ.not-nil m)
passes p (y ∷ l) h x m =
    let e = both (p y) (every p l) h in
    elim (Memᴰ.cases_cons m) [ inl q ↦ ap p q ∙ e.0 | inr m ↦ passes p l e.1 x m ]

passed-of : (ts : List Test) → NoneApplies ts → first_of ts ≡ 0
unfolding first_of
passed-of [] h = refl
passed-of (t ∷ ts) h =
    let e = h t (Memᴰ.head refl) in
    (λ j. pick (e j) (number t.refusal) (first_of ts)) ∙ passed-of ts (λ u m. h u (Memᴰ.tail m))

accepted-of : (ts : List Test) → first_of ts ≡ 0 → NoneApplies ts
unfolding first_of
accepted-of [] h u m = absurd (Memᴰ.not-nil m)
accepted-of (t ∷ ts) h u m = go t.applies refl h (accepted-of ts)
  where
    go : (b : Bool) → t.applies ≡ b → pick b (number t.refusal) (first_of ts) ≡ 0 → (first_of ts ≡ 0 → NoneApplies ts)
        → u.applies ≡ false
    go true e h r = absurd (number-some t.refusal h)
    go false e h r = elim (Memᴰ.cases_cons m) [ inl q ↦ ap (λ (v : Test). v.applies) q ∙ e | inr m ↦ r h u m ]

module _ (t : Test) (ts : List Test) (h : ascending (t ∷ ts) ≡ true) where
  rest-ascends : ascending ts ≡ true
  unfolding ascending
  rest-ascends = (both (every (λ (u : Test). ltb (rank t.refusal) (rank u.refusal)) ts) (ascending ts) h).1

  later : (u : Test) → Memᴰ u ts → rank t.refusal < rank u.refusal
  unfolding ascending
  later u m =
      let e = (both (every (λ (u : Test). ltb (rank t.refusal) (rank u.refusal)) ts) (ascending ts) h).0 in
      ltb-true _ _ (passes (λ (u : Test). ltb (rank t.refusal) (rank u.refusal)) ts e u m)

least-of : (ts : List Test) → ascending ts ≡ true → (t : Test) → Least ts t → first_of ts ≡ number t.refusal
unfolding first_of
least-of [] a t l = absurd (Memᴰ.not-nil l.stands)
least-of (u ∷ us) a t l = go u.applies refl (Memᴰ.cases_cons l.stands) (least-of us (rest-ascends u us a) t)
  where
    go : (b : Bool) → u.applies ≡ b → (t ≡ u) ⊎ Memᴰ t us → (Least us t → first_of us ≡ number t.refusal)
        → pick b (number u.refusal) (first_of us) ≡ number t.refusal
    go true e (inl q) r = ap (λ (v : Test). number v.refusal) (sym q)
    go true e (inr m) r = absurd (omega (arith, later u us a t m, l.least u (Memᴰ.head refl) e))
    go false e (inl q) r = absurd (true≢false (sym l.applies ∙ ap (λ (v : Test). v.applies) q ∙ e))
    go false e (inr m) r = r (record { stands = m; applies = l.applies; least = λ v n. l.least v (Memᴰ.tail n) })

found_of : (ts : List Test) → ascending ts ≡ true → (t : Test) → Memᴰ t ts → t.applies ≡ true
    → (u : Test) × Least ts u
found_of [] a t m h = absurd (Memᴰ.not-nil m)
found_of (u ∷ us) a t m h = go u.applies refl (Memᴰ.cases_cons m) (found_of us (rest-ascends u us a) t)
  where
    first : u.applies ≡ true → Least (u ∷ us) u
    first e = record {
      stands = Memᴰ.head refl;
      applies = e;
      least = λ v n d. elim (Memᴰ.cases_cons n) [
        | inl q ↦ omega (arith, ap (λ (w : Test). rank w.refusal) q)
        | inr n ↦ omega (arith, later u us a v n)
      ];
    }

    beyond : u.applies ≡ false → (w : Test) × Least us w → (w : Test) × Least (u ∷ us) w
    beyond e r = (
      r.0,
      record {
        stands = Memᴰ.tail r.1.stands;
        applies = r.1.applies;
        least = λ v n d. elim (Memᴰ.cases_cons n) [
          | inl q ↦ absurd (true≢false (sym d ∙ ap (λ (w : Test). w.applies) q ∙ e))
          | inr n ↦ r.1.least v n d
        ];
      },
    )

    go : (b : Bool) → u.applies ≡ b → (t ≡ u) ⊎ Memᴰ t us
        → (Memᴰ t us → t.applies ≡ true → (w : Test) × Least us w) → (w : Test) × Least (u ∷ us) w
    go true e c r = (u, first e)
    go false e (inl q) r = absurd (true≢false (sym h ∙ ap (λ (v : Test). v.applies) q ∙ e))
    go false e (inr m) r = beyond e (r m h)

pub first-judged : (ts : List Test) → ascending ts ≡ true → Judged ts (first_of ts)
first-judged ts a = record { least = least-of ts a; found = found_of ts a; passed = passed-of ts; accepted = accepted-of ts }

judges : (ts : List Test) (n : ℕ) → ascending ts ≡ true → n ≡ first_of ts → JudgesBy ts n
judges ts n a e = record { ascends = a; first = e; judged = subst (Judged ts) (sym e) (first-judged ts a) }

-- ---- what the tables drew comes first

tables-first : (g : ℕ) → g ≤ 2 → (ts : List Test) → lowest g (first_of ts) ≡ first_of (after_tables g ts)
unfolding first_of
tables-first zero h ts = refl
tables-first (suc zero) h ts = refl
tables-first (suc (suc zero)) h ts = refl
tables-first (suc (suc (suc g))) h ts = absurd (omega arith)

pub judges-after : (g : ℕ) → g ≤ 2 → (ts : List Test) (n : ℕ) → ascending (after_tables g ts) ≡ true
    → n ≡ lowest g (first_of ts) → JudgesBy (after_tables g ts) n
judges-after g h ts n a e = judges (after_tables g ts) n a (e ∙ tables-first g h ts)
