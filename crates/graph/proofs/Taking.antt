-- The code's turns are those of the marking that it holds. Assumes nothing.
use mathlib.Core.Path.{◌≡◌, refl, sym, ap, ◌∙◌, subst}
use mathlib.Core.Bool.{Bool, true, false}
use mathlib.Core.List.{List, [], ◌∷◌}
use Prim.Native.Nat.{ℕ, zero, suc, ◌+◌, ◌-◌, ◌≤◌, ◌<◌}
use native.Mathlib.Omega.{arith}
use borrow.Author.Tests.{eq-eqb, ne_eqb, ltb-true, lt-ltb, le-ltb}
use lib.Dec.{eqb, ltb}
use lib.ListN.{length, get_or, set, drop, replicate, length-map}
use lib.Seq.{drop-length}
use Rattle.model.specs.Lists.{pick}
use Rattle.model.specs.Placing.{Place, unplaced, root, below}
use Rattle.model.specs.Parents.{Marking, mark_roots, mark_one, mark_all, take_id, explore}
use Rattle.model.proofs.ListLaws.{same-entry}
use Rattle.tracks.specs.declared.Part.{Part}
use Rattle.tables.specs.Codes.{code_of, codes_of}
use Rattle.tables.specs.Decoded.{children_in}
use Rattle.graph.specs.Stack.{top_of, Holds, Turned, Rooted, Drained, Marked}
use Rattle.graph.proofs.Pushing.{pushed, top-first, top-length, drop-last, zeros-fewer, zeros-most, codes-set, codes-none, free-code, root-last}

-- ---- a child

module _ (p x : ℕ) (m : Marking) where
  abbrev grown : Marking
  grown = record { waiting = x ∷ m.waiting; marks = set m.marks x (below p) }

  one-as : (b : Bool) → eqb (get_or (codes_of m.marks) x 1) 0 ≡ b → mark_one p x m ≡ pick b grown m
  unfolding mark_one
  one-as b e = ap (λ (t : Bool). pick t grown m) (free-code m.marks x ∙ e)

module _ (p x : ℕ) (ids : List ℕ) (top : ℕ) (codes : List ℕ) where
  pub one-marked : x < length codes → get_or codes x 0 ≡ 0 → top < length ids → Turned (mark_one p x) ids top codes (set ids top x) (top + 1) (set codes x (p + 3))
  one-marked b z room = record {
    holds = λ m h.
        let e : mark_one p x m ≡ grown p x m = one-as p x m true (eq-eqb _ _ (ap (λ (l : List ℕ). get_or l x 1) (sym h.marks) ∙ same-entry codes x 1 0 b ∙ z)) in
        record {
          waiting = ap (λ (t : Marking). t.waiting) e ∙ ap (λ (l : List ℕ). x ∷ l) h.waiting ∙ sym (pushed ids top x room);
          marks = ap (λ (l : List ℕ). set l x (p + 3)) h.marks ∙ codes-set m.marks x (below p) ∙ sym (ap (λ (t : Marking). codes_of t.marks) e);
        };
    pending = omega (arith, zeros-fewer codes x (p + 3) b z (omega arith));
  }

  pub one-passed : (get_or codes x 1 ≡ 0 → ⊥) → Turned (mark_one p x) ids top codes ids top codes
  one-passed d = record {
    holds = λ m h.
        let e : mark_one p x m ≡ m = one-as p x m false (ne_eqb _ _ (λ z. d (ap (λ (l : List ℕ). get_or l x 1) h.marks ∙ z))) in
        subst (λ (t : Marking). Holds t ids top codes) (sym e) h;
    pending = refl;
  }

-- ---- a child list

module _ (p : ℕ) (list ids : List ℕ) (top : ℕ) (codes : List ℕ) where
  pub none-listed : Turned (mark_all p (drop (length list) list)) ids top codes ids top codes
  unfolding mark_all
  none-listed = record {
    holds = λ m h. subst (λ (l : List ℕ). Holds (mark_all p l m) ids top codes) (sym (drop-length list)) h;
    pending = refl;
  }

  pub one-listed : (i : ℕ) (ids₁ : List ℕ) (at₁ : ℕ) (codes₁ ids₂ : List ℕ) (at₂ : ℕ) (codes₂ : List ℕ) → 0 < i → i ≤ length list
      → Turned (mark_all p (drop i list)) ids top codes ids₁ at₁ codes₁
      → Turned (mark_one p (get_or list (i - 1) 0)) ids₁ at₁ codes₁ ids₂ at₂ codes₂
      → Turned (mark_all p (drop (i - 1) list)) ids top codes ids₂ at₂ codes₂
  unfolding mark_all
  one-listed i ids₁ at₁ codes₁ ids₂ at₂ codes₂ q b before one = record {
    holds = λ m h. subst (λ (l : List ℕ). Holds (mark_all p l m) ids₂ at₂ codes₂) (sym (drop-last list i q b)) (one.holds (mark_all p (drop i list) m) (before.holds m h));
    pending = one.pending ∙ before.pending;
  }

-- ---- an id is taken

held-length : (m : Marking) (ids : List ℕ) (top : ℕ) (codes : List ℕ) → Holds m ids top codes → length m.marks ≡ length codes
held-length m ids top codes h = sym (ap length h.marks ∙ length-map m.marks code_of)

module _ (children : ℕ → List ℕ) (x : ℕ) (ids : List ℕ) (top : ℕ) (codes : List ℕ) where
  taken_as : (m : Marking) (b : Bool) → ltb x (length m.marks) ≡ b → pick b (mark_all x (children x) m) m ≡ take_id children x m
  unfolding take_id
  taken_as m b e = ap (λ (t : Bool). pick t (mark_all x (children x) m) m) (sym e)

  pub taken : (list ids₁ : List ℕ) (at₁ : ℕ) (codes₁ : List ℕ) → x < length codes → list ≡ children x → Turned (mark_all x list) ids top codes ids₁ at₁ codes₁
      → Turned (take_id children x) ids top codes ids₁ at₁ codes₁
  taken list ids₁ at₁ codes₁ b e all = record {
    holds = λ m h.
        subst (λ (t : Marking). Holds t ids₁ at₁ codes₁)
        (ap (λ (l : List ℕ). mark_all x l m) e ∙ taken_as m true (lt-ltb x (length m.marks) (omega (arith, held-length m ids top codes h))))
        (all.holds m h);
    pending = all.pending;
  }

  pub dropped : length codes ≤ x → Turned (take_id children x) ids top codes ids top codes
  dropped b = record {
    holds = λ m h. subst (λ (t : Marking). Holds t ids top codes) (taken_as m false (le-ltb x (length m.marks) (omega (arith, held-length m ids top codes h)))) h;
    pending = refl;
  }

-- ---- until none waits

-- the walk asks for the children of nodes alone
same_taken : (f g : ℕ → List ℕ) (x : ℕ) (m : Marking) → ((i : ℕ) → i < length m.marks → f i ≡ g i) → take_id f x m ≡ take_id g x m
unfolding take_id
same_taken f g x m h = go (ltb x (length m.marks)) refl
  where
    go : (b : Bool) → ltb x (length m.marks) ≡ b → pick b (mark_all x (f x) m) m ≡ pick b (mark_all x (g x) m) m
    go true e = ap (λ (l : List ℕ). mark_all x l m) (h x (ltb-true _ _ e))
    go false e = refl

no_top : (ids : List ℕ) (top : ℕ) → top ≤ 0 → top_of ids top ≡ []
unfolding top_of
no_top ids zero h = refl
no_top ids (suc n) h = absurd (omega arith)

explored-none : (k : ℕ) (children : ℕ → List ℕ) (marks : List Place) → explore k children [] marks ≡ marks
unfolding explore
explored-none zero children marks = refl
explored-none (suc k) children marks = refl

explored-one : (k : ℕ) (children : ℕ → List ℕ) (x : ℕ) (rest : List ℕ) (marks : List Place)
    → (let m = take_id children x (record { waiting = rest; marks = marks }) in explore k children m.waiting m.marks) ≡ explore (suc k) children (x ∷ rest) marks
unfolding explore
explored-one k children x rest marks = refl

module _ (words : List ℕ) (nodes : Part) (ids : List ℕ) (top : ℕ) (codes left : List ℕ) where
  pub none-waits : top ≤ 0 → left ≡ codes → Drained words nodes ids top codes left
  none-waits z e = record {
    ends = λ children alike m h k b.
        e
        ∙ h.marks
        ∙ ap codes_of (sym (ap (λ (w : List ℕ). explore k children w m.marks) (h.waiting ∙ no_top ids top z) ∙ explored-none k children m.marks));
  }

  pub one-taken : (ids₁ : List ℕ) (at₁ : ℕ) (codes₁ : List ℕ) → 0 < top → length codes₁ ≡ length codes
      → Turned (take_id (children_in words nodes) (get_or ids (top - 1) 0)) ids (top - 1) codes ids₁ at₁ codes₁
      → Drained words nodes ids₁ at₁ codes₁ left → Drained words nodes ids top codes left
  one-taken ids₁ at₁ codes₁ q len turn rest = record {
    ends = λ children alike m h k b.
        let x = get_or ids (top - 1) 0 in
        let under : Marking = record { waiting = top_of ids (top - 1); marks = m.marks } in
        let held : Holds under ids (top - 1) codes = record { waiting = refl; marks = h.marks } in
        let same : take_id (children_in words nodes) x under ≡ take_id children x under =
        same_taken (children_in words nodes) children x under (λ i l. sym (alike i (omega (arith, held-length under ids (top - 1) codes held)))) in
        let j : suc (k - 1) ≡ k = omega arith in
        rest.ends children (λ i l. alike i (omega arith)) (take_id children x under)
        (subst (λ (t : Marking). Holds t ids₁ at₁ codes₁) same (turn.holds under held)) (k - 1) (omega (arith, turn.pending))
        ∙ ap codes_of (explored-one (k - 1) children x (top_of ids (top - 1)) m.marks
        ∙ (λ i. explore (j i) children (sym (h.waiting ∙ top-first ids top q) i) m.marks));
  }

-- ---- from the roots on

module _ (roots codes : List ℕ) where
  pub no-root : (ids : List ℕ) → Rooted (drop (length roots) roots) codes ids 0 codes
  unfolding top_of mark_roots
  no-root ids = record {
    holds = λ marks e.
        subst (λ (l : List ℕ). Holds (record { waiting = l; marks = mark_roots l marks }) ids 0 codes) (sym (drop-length roots))
        (record { waiting = refl; marks = e });
  }

  pub one-root : (i : ℕ) (ids : List ℕ) (top : ℕ) (codes₁ : List ℕ) → 0 < i → i ≤ length roots → top < length ids
      → Rooted (drop i roots) codes ids top codes₁
      → Rooted (drop (i - 1) roots) codes (set ids top (get_or roots (i - 1) 0)) (top + 1) (set codes₁ (get_or roots (i - 1) 0) 1)
  one-root i ids top codes₁ q b room before = record {
    holds = λ marks e.
        let x = get_or roots (i - 1) 0 in
        let h = before.holds marks e in
        subst (λ (l : List ℕ). Holds (record { waiting = l; marks = mark_roots l marks }) (set ids top x) (top + 1) (set codes₁ x 1)) (sym (drop-last roots i q b))
        (record {
          waiting = ap (λ (l : List ℕ). x ∷ l) h.waiting ∙ sym (pushed ids top x room);
          marks =
              ap (λ (l : List ℕ). set l x 1) h.marks
              ∙ codes-set (mark_roots (drop i roots) marks) x root
              ∙ ap codes_of (sym (root-last (drop i roots) marks x));
        });
  }

module _ (roots : List ℕ) (n : ℕ) (ids : List ℕ) (top : ℕ) (codes : List ℕ) (rooted : Rooted roots (replicate n 0) ids top codes) where
  pub roots-wait : top ≡ length roots
  roots-wait = sym (top-length ids top) ∙ sym (ap length (rooted.holds (replicate n unplaced) (codes-none n)).waiting)

  pub all-taken : (words : List ℕ) (nodes : Part) (left : List ℕ) → length codes ≡ n → Drained words nodes ids top codes left → Marked words nodes roots n left
  all-taken words nodes left len drained = record {
    ends = λ children alike.
        drained.ends children (λ i l. alike i (omega arith)) _ (rooted.holds (replicate n unplaced) (codes-none n)) (length roots + n)
        (omega (arith, roots-wait, zeros-most codes));
  }
