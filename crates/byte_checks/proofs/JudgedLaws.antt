-- The answers of calls that are told what a room draws, and their numbers. Assumes nothing.
use mathlib.Core.Path.{◌≡◌, refl, sym, ap, ◌∙◌, subst}
use Prim.Native.Nat.{ℕ, zero, suc}
use lib.Ieee.{Float}
use Rattle.std.proofs.Common.{Result, Ok, Err}
use Rattle.std.specs.Prelude.{⊤, IsOk, IsErrAnd}
use Rattle.refusals.specs.declared.Refusal.{Refusal}
use Rattle.refusals.specs.Drawn.{number_of, number_drawn}
use Rattle.refusals.proofs.Told.{not-none}
use Rattle.refusals.proofs.Numbered.{number_by, by-table}
use Rattle.model.specs.Refusals.{lowest, Scratch, place_number, early_number}
use Rattle.model.proofs.Numbers.{lowest-none, lowest-some}
use Rattle.tables.specs.Decoded.{Lent, scene_of}
use Rattle.checks.specs.Drawn.{tables_number}
use Rattle.byte_checks.specs.Numbers.{place_in, early_in, mesh_number, first_in}
use Rattle.byte_checks.specs.Judged.{MadeOf, Judged}

module _ {E : Type 0} (gives : Refusal → E → Type 0) where
  made : (n : ℕ) (r : Refusal) → number_of r ≡ n → (told : Result ⊤ E) → IsErrAnd told (gives r) → IsErrAnd told (MadeOf gives n)
  made n r p (Ok _) h = h
  made n r p (Err e) h = record { refusal = r; number = p; made = h }

  no-refusal : (drawn : Result ⊤ E) → IsOk drawn → (e : E) → drawn ≡ Err e → ⊥
  no-refusal (Ok _) k e q = cc
  no-refusal (Err _) k e q = cc

  module _ (n m : ℕ) where
    pub before : (drawn told : Result ⊤ E) (r : Refusal) → number_of r ≡ n → IsErrAnd told (gives r) → Judged gives n drawn m told
    before drawn told r p h =
        let some : n ≡ 0 → ⊥ = λ z. not-none r (p ∙ z) in
        record { before = λ _. made n r p told h; passed = λ z. absurd (some z); after = λ z. absurd (some z); none = λ z. absurd (some z) }

    passed : n ≡ 0 → (e : E) → Judged gives n (Err e) m (Err e)
    passed z e = record { before = λ d. absurd (d z); passed = λ _ y q. q; after = λ _ k. cc; none = λ _ k. cc }

    pub after : n ≡ 0 → (drawn told : Result ⊤ E) → IsOk drawn → (r : Refusal) → number_of r ≡ m → IsErrAnd told (gives r) → Judged gives n drawn m told
    after z drawn told k r p h = record {
      before = λ d. absurd (d z);
      passed = λ _ e q. absurd (no-refusal drawn k e q);
      after = λ _ _ _. made m r p told h;
      none = λ _ _ y. absurd (not-none r (p ∙ y));
    }

    pub none : n ≡ 0 → m ≡ 0 → (drawn : Result ⊤ E) → IsOk drawn → (u : ⊤) → Judged gives n drawn m (Ok u)
    none z y drawn k u = record {
      before = λ d. absurd (d z);
      passed = λ _ e q. absurd (no-refusal drawn k e q);
      after = λ _ _ d. absurd (d y);
      none = λ _ _ _. refl;
    }

    -- what was drawn before the last number is passed on
    pub passed-on : (drawn : Result ⊤ E) (e : E) (told : Result ⊤ E) → IsErrAnd told (λ x. x ≡ e) → Judged gives n drawn 0 (Err e)
        → Judged gives n drawn m told
    passed-on drawn e (Ok _) h j = absurd h
    passed-on drawn e (Err x) h j =
        subst (λ (y : E). Judged gives n drawn m (Err y)) (sym h)
        (record { before = j.before; passed = j.passed; after = λ z k. absurd (no-refusal (Err e) (j.none z k refl) e refl); none = λ z k _. j.none z k refl })

  pub as-drawn : (n : ℕ) → n ≡ 0 → (drawn : Result ⊤ E) → Judged gives n drawn 0 drawn
  as-drawn n z (Ok u) = none n 0 z refl (Ok u) refl u
  as-drawn n z (Err e) = passed n 0 z e

  -- where nothing is drawn up to there
  pub settled : (n : ℕ) (drawn : Result ⊤ E) (u : ⊤) → Judged gives n drawn 0 (Ok u) → (n ≡ 0) × IsOk drawn
  settled (suc n) drawn u j = absurd (j.before (λ z. cc))
  settled zero (Ok _) u j = (refl, refl)
  settled zero (Err e) u j = absurd (no-refusal (Ok u) refl e (j.passed refl e refl))

  -- by the numbers of refusals
  module _ (number : E → ℕ) (same : (r : Refusal) (e : E) → gives r e → number e ≡ number_of r) where
    of-made : (n : ℕ) (told : Result ⊤ E) → IsErrAnd told (MadeOf gives n) → number_by number told ≡ n
    of-made n (Ok _) h = absurd h
    of-made n (Err e) h = same h.refusal e h.made ∙ h.number

    of-none : (told : Result ⊤ E) → IsOk told → number_by number told ≡ 0
    of-none (Ok _) h = refl
    of-none (Err e) h = cc

    pub judged-number : (n m : ℕ) (drawn told : Result ⊤ E) → ((e : E) → drawn ≡ Err e → number e ≡ 0 → ⊥)
        → Judged gives n drawn m told → number_by number told ≡ lowest (lowest n (number_by number drawn)) m
    judged-number (suc n) m drawn told d j = of-made (suc n) told (j.before (λ z. cc))
    judged-number zero m (Err e) told d j = ap (number_by number) (j.passed refl e refl) ∙ lowest-some (number e) m (d e refl)
    judged-number zero zero (Ok u) told d j = of-none told (j.none refl refl refl)
    judged-number zero (suc m) (Ok u) told d j = of-made (suc m) told (j.after refl refl (λ z. cc))

-- ---- by those of the table
by-table-number : (n m : ℕ) (drawn told : Result ⊤ Refusal) → Judged (λ r e. e ≡ r) n drawn m told
    → number_drawn told ≡ lowest (lowest n (number_drawn drawn)) m
by-table-number n m drawn told j =
    sym (by-table told)
    ∙ judged-number (λ r e. e ≡ r) number_of (λ r e q. ap number_of q) n m drawn told (λ e q. not-none e) j
    ∙ ap (λ (k : ℕ). lowest (lowest n k) m) (by-table drawn)

module _ (l : Lent) (r : Scratch) (drawn told : Result ⊤ Refusal) where
  pub place-number : Judged (λ x e. e ≡ x) (place_in 0 l r) drawn 0 told → number_drawn told ≡ place_in (number_drawn drawn) l r
  place-number j =
      let p = place_number (tables_number l) (scene_of l) r in
      by-table-number (place_in 0 l r) 0 drawn told j
      ∙ lowest-none (lowest (lowest p 0) (number_drawn drawn))
      ∙ ap (λ (k : ℕ). lowest k (number_drawn drawn)) (lowest-none p)

  pub first-number : (i : ℕ) (time : Float) → Judged (λ x e. e ≡ x) (early_in 0 l time r) drawn (mesh_number l i) told
      → number_drawn told ≡ first_in (number_drawn drawn) l i time r
  first-number i time j =
      let p = early_number (tables_number l) (scene_of l) time r in
      by-table-number (early_in 0 l time r) (mesh_number l i) drawn told j
      ∙ ap (λ (k : ℕ). lowest (lowest k (number_drawn drawn)) (mesh_number l i)) (lowest-none p)
