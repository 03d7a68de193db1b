-- All slots after one channel more, and slots that are cleared. Assumes nothing.
use mathlib.Core.Path.{◌≡◌, refl, sym, ap, ◌∙◌, subst}
use mathlib.Core.Bool.{Bool, true, false, ◌&&◌}
use mathlib.Core.List.{List, ◌++◌}
use Prim.Native.Nat.{ℕ, suc, ◌+◌, ◌*◌, ◌≤◌, ◌<◌}
use native.Mathlib.Numerals.{add-one}
use native.Mathlib.Omega.{arith}
use borrow.Author.Tests.{eq-eqb, ne_eqb, ltb-true, ltb-false, lt-ltb, le-ltb}
use lib.Dec.{ltb}
use lib.Ieee.{Float}
use lib.ListN.{get_or, set, drop}
use lib.Seq.{paste, get_or-set_same, get_or-set_other, set_out}
use Rattle.model.specs.Lists.{pick, tabulate}
use Rattle.model.specs.Scene.{Track}
use Rattle.model.specs.Pose.{Pose, at_rest, drive, drive_at, poses}
use Rattle.model.proofs.Posing.{length-poses}
use Rattle.pose_slots.specs.Slots.{room, words_of, floats_of}
use Rattle.pose_slots.specs.Gifts.{bare}
use Rattle.pose.specs.Encoded.{gives_weights, standing, encoded_words, encoded_floats, driven, driven_word, Driven}
use Rattle.pose.proofs.RowLaws.{rows_alike, put-row}
use Rattle.pose.proofs.EncodeLaws.{bare-drive, fold_more, stands, stand-more, word_row, float_row, float-width, read-pose, read_word}

-- ---- one channel, as the code does it
module _ (time : Float) (n k : ℕ) (t : Track) (marks : List ℕ) (slots : List Float) where
  driven-words : Bool → List ℕ
  driven-words b = pick b (paste marks (t.target * 4) (words_of (driven time t marks slots) (driven_word time t k marks)) 4) marks

  driven-floats : Bool → List Float
  driven-floats b = pick b (paste slots (t.target * 10) (floats_of (driven time t marks slots)) 10) slots

  pub was-driven : (p : Pose) (w : ℕ) (m : List ℕ) (s : List Float) → t.target < n → p ≡ bare (driven time t marks slots) → w ≡ driven_word time t k marks
      → m ≡ paste marks (t.target * 4) (words_of p w) 4 → s ≡ paste slots (t.target * 10) (floats_of p) 10 → Driven time n k t marks slots m s
  unfolding driven-words driven-floats
  was-driven p w m s h e f a b =
      let l = lt-ltb t.target n h in
      record {
        words = a ∙ (λ j. paste marks (t.target * 4) (words_of (e j) (f j)) 4) ∙ ap driven-words (sym l);
        floats = b ∙ (λ j. paste slots (t.target * 10) (floats_of (e j)) 10) ∙ ap driven-floats (sym l);
      }

  pub not-driven : n ≤ t.target → Driven time n k t marks slots marks slots
  unfolding driven-words driven-floats
  not-driven h = let l = le-ltb t.target n h in record { words = ap driven-words (sym l); floats = ap driven-floats (sym l) }

-- ---- all slots
module _ (time : Float) (n k : ℕ) (g : ℕ → Track) where
  abbrev ts : List Track
  ts = tabulate k g

  abbrev ts' : List Track
  ts' = tabulate (suc k) g

  abbrev i : ℕ
  i = (g k).target

  abbrev ps : List Pose
  ps = poses time n ts

  abbrev new : Pose
  new = drive time (get_or ps i at_rest) (g k)

  more-poses : poses time n ts' ≡ set ps i new
  unfolding poses
  more-poses = fold_more (drive_at time) _ k g

  more-standing : (m : ℕ) → standing time m ts' ≡ pick (stands time m (g k)) (k + 1) (standing time m ts)
  more-standing m = let e : 0 + k + 1 ≡ k + 1 = omega arith in stand-more time m 0 0 k g ∙ ap (λ (x : ℕ). pick (stands time m (g k)) x (standing time m ts)) e

  -- another node's slot
  other-pose : (m : ℕ) → (m ≡ i → ⊥) → get_or ps m at_rest ≡ get_or (poses time n ts') m at_rest
  other-pose m h = sym (ap (λ (x : List Pose). get_or x m at_rest) more-poses ∙ get_or-set_other ps i m new at_rest h)

  other-standing : (m : ℕ) → (m ≡ i → ⊥) → standing time m ts ≡ standing time m ts'
  other-standing m h =
      sym (more-standing m ∙ ap (λ (b : Bool). pick (b && gives_weights time (g k)) (k + 1) (standing time m ts)) (ne_eqb i m (λ e. h (sym e))))

  -- a channel that is aimed past the last node
  module _ (past : n ≤ i) where
    same-poses : poses time n ts ≡ poses time n ts'
    same-poses = sym (more-poses ∙ set_out ps i new (omega (arith, length-poses time n ts)))

    pub past_words : (marks : List ℕ) → encoded_words time n ts marks ≡ encoded_words time n ts' marks
    unfolding encoded_words
    past_words marks =
        ap (λ (r : List ℕ). r ++ drop (n * 4) marks)
        (rows_alike 4 n (word_row time n ts) (word_row time n ts') (λ m l j. words_of (get_or (same-poses j) m at_rest) (other-standing m (λ e. omega arith) j)))

    pub past-floats : (slots : List Float) → encoded_floats time n ts slots ≡ encoded_floats time n ts' slots
    unfolding encoded_floats
    past-floats slots =
        ap (λ (r : List Float). r ++ drop (n * 10) slots)
        (rows_alike 10 n (float_row time n ts) (float_row time n ts') (λ m l j. floats_of (get_or (same-poses j) m at_rest)))

  -- one that is aimed at a node
  module _ (aimed : i < n) (marks : List ℕ) (slots : List Float) (space : n ≤ room marks slots) where
    abbrev words : List ℕ
    words = encoded_words time n ts marks

    abbrev floats : List Float
    floats = encoded_floats time n ts slots

    own-pose : get_or (poses time n ts') i at_rest ≡ new
    own-pose = ap (λ (x : List Pose). get_or x i at_rest) more-poses ∙ get_or-set_same ps i new at_rest (omega (arith, length-poses time n ts))

    own-standing : driven_word time (g k) k words ≡ standing time i ts'
    own-standing =
        ap (λ (x : ℕ). pick (gives_weights time (g k)) (k + 1) x) (read_word time n marks slots space ts i aimed)
        ∙ sym (more-standing i ∙ ap (λ (b : Bool). pick (b && gives_weights time (g k)) (k + 1) (standing time i ts)) (eq-eqb i i refl))

    own-driven : bare (driven time (g k) words floats) ≡ bare (get_or (poses time n ts') i at_rest)
    own-driven =
        ap (λ (p : Pose). bare (drive time p (g k))) (read-pose time n marks slots space ts i aimed)
        ∙ bare-drive time (g k) (get_or ps i at_rest) ∙ ap bare (sym own-pose)

    pub aimed-words : paste words (i * 4) (words_of (driven time (g k) words floats) (driven_word time (g k) k words)) 4 ≡ encoded_words time n ts' marks
    unfolding encoded_words
    aimed-words =
        (λ j. paste words (i * 4) (words_of (own-driven j) (own-standing j)) 4)
        ∙ put-row 4 i n (word_row time n ts) (word_row time n ts') (λ m l. refl) aimed (drop (n * 4) marks) refl (λ m l h j. words_of (other-pose m h j) (other-standing m h j))

    pub aimed-floats : paste floats (i * 10) (floats_of (driven time (g k) words floats)) 10 ≡ encoded_floats time n ts' slots
    unfolding encoded_floats
    aimed-floats =
        (λ j. paste floats (i * 10) (floats_of (own-driven j)) 10)
        ∙ put-row 10 i n (float_row time n ts) (float_row time n ts') (λ m l. float-width time n ts m) aimed (drop (n * 10) slots) (float-width time n ts' i) (λ m l h j. floats_of (other-pose m h j))

  -- either way
  module _ (marks : List ℕ) (slots : List Float) (space : n ≤ room marks slots) where
    one-channel : (m : List ℕ) (s : List Float) → Driven time n k (g k) (encoded_words time n ts marks) (encoded_floats time n ts slots) m s
        → (m ≡ encoded_words time n (tabulate (k + 1) g) marks) × (s ≡ encoded_floats time n (tabulate (k + 1) g) slots)
    unfolding driven-words driven-floats
    one-channel m s d = (d.words ∙ (go (ltb i n) refl).0, d.floats ∙ (go (ltb i n) refl).1)
      where
        words₀ : List ℕ
        words₀ = encoded_words time n ts marks

        floats₀ : List Float
        floats₀ = encoded_floats time n ts slots

        more-words : encoded_words time n ts' marks ≡ encoded_words time n (tabulate (k + 1) g) marks
        more-words = ap (λ (x : ℕ). encoded_words time n (tabulate x g) marks) (sym (add-one k))

        more-floats : encoded_floats time n ts' slots ≡ encoded_floats time n (tabulate (k + 1) g) slots
        more-floats = ap (λ (x : ℕ). encoded_floats time n (tabulate x g) slots) (sym (add-one k))

        go : (b : Bool) → ltb i n ≡ b
            → (driven-words time n k (g k) words₀ floats₀ b ≡ encoded_words time n (tabulate (k + 1) g) marks)
            × (driven-floats time n k (g k) words₀ floats₀ b ≡ encoded_floats time n (tabulate (k + 1) g) slots)
        go true e = (aimed-words (ltb-true i n e) marks slots space ∙ more-words, aimed-floats (ltb-true i n e) marks slots space ∙ more-floats)
        go false e = (past_words (ltb-false i n e) marks ∙ more-words, past-floats (ltb-false i n e) slots ∙ more-floats)

    pub channel-more : (t : Track) (m₀ m : List ℕ) (s₀ s : List Float) → t ≡ g k → m₀ ≡ encoded_words time n ts marks → s₀ ≡ encoded_floats time n ts slots
        → Driven time n k t m₀ s₀ m s → (m ≡ encoded_words time n (tabulate (k + 1) g) marks) × (s ≡ encoded_floats time n (tabulate (k + 1) g) slots)
    channel-more t m₀ m s₀ s e f h d =
        one-channel m s
        (subst (λ (x : List Float). Driven time n k (g k) (encoded_words time n ts marks) x m s) h
        (subst (λ (x : List ℕ). Driven time n k (g k) x s₀ m s) f (subst (λ (x : Track). Driven time n k x m₀ s₀ m s) e d)))
