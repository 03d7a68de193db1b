-- Slots in which nothing is posed: one more, as all slots before the first channel, and under what is posed later. Assumes nothing.
use mathlib.Core.Path.{◌≡◌, refl, sym, ap, ◌∙◌}
use mathlib.Core.List.{List, ◌++◌}
use Prim.Native.Nat.{ℕ, ◌+◌, ◌*◌, ◌<◌}
use native.Mathlib.Numerals.{add-one}
use lib.Ieee.{Float}
use lib.ListN.{get_or, drop, get_or-replicate}
use lib.Seq.{paste, drop_at}
use Rattle.model.specs.Lists.{foldl, tabulate}
use Rattle.model.specs.Scene.{Track}
use Rattle.model.specs.Pose.{Pose, at_rest, poses}
use Rattle.pose_slots.specs.Slots.{words_of, floats_of}
use Rattle.pose.specs.Encoded.{rows_of, standing_from, encoded_words, encoded_floats, cleared_words, cleared_floats}
use Rattle.pose.proofs.RowLaws.{length-rows, rows_alike, add_row}
use Rattle.pose.proofs.EncodeLaws.{word_row, float_row}

-- ---- one more
module _ (i : ℕ) (p : Pose) (e : p ≡ at_rest) where
  pub clear-words : (lent m m' : List ℕ) → m ≡ cleared_words i lent → m' ≡ paste m (i * 4) (words_of p 0) 4 → m' ≡ cleared_words (i + 1) lent
  clear-words lent m m' h q =
      q ∙ (λ j. paste (h j) (i * 4) (words_of (e j) 0) 4)
      ∙ add_row 4 i (λ k. words_of at_rest 0) (λ k l. refl) (words_of at_rest 0) lent refl refl ∙ ap (λ (n : ℕ). cleared_words n lent) (sym (add-one i))

  pub clear-floats : (lent s s' : List Float) → s ≡ cleared_floats i lent → s' ≡ paste s (i * 10) (floats_of p) 10 → s' ≡ cleared_floats (i + 1) lent
  clear-floats lent s s' h q =
      q ∙ (λ j. paste (h j) (i * 10) (floats_of (e j)) 10)
      ∙ add_row 10 i (λ k. floats_of at_rest) (λ k l. refl) (floats_of at_rest) lent refl refl ∙ ap (λ (n : ℕ). cleared_floats n lent) (sym (add-one i))

-- ---- before the first channel
module _ (time : Float) (n : ℕ) (g : ℕ → Track) where
  rest_at : (i : ℕ) → i < n → at_rest ≡ get_or (poses time n (tabulate 0 g)) i at_rest
  unfolding poses foldl tabulate
  rest_at i l = sym (get_or-replicate n i at_rest at_rest l)

  pub first-words : (lent : List ℕ) → cleared_words n lent ≡ encoded_words time n (tabulate 0 g) lent
  unfolding encoded_words tabulate standing_from
  first-words lent = ap (λ (r : List ℕ). r ++ drop (n * 4) lent) (rows_alike 4 n (λ i. words_of at_rest 0) (word_row time n (tabulate 0 g)) (λ i l. ap (λ (p : Pose). words_of p 0) (rest_at i l)))

  pub first-floats : (lent : List Float) → cleared_floats n lent ≡ encoded_floats time n (tabulate 0 g) lent
  unfolding encoded_floats
  first-floats lent = ap (λ (r : List Float). r ++ drop (n * 10) lent) (rows_alike 10 n (λ i. floats_of at_rest) (float_row time n (tabulate 0 g)) (λ i l. ap floats_of (rest_at i l)))

-- ---- cleared slots, cleared once more
rest-words : (n : ℕ) (lent m : List ℕ) → m ≡ cleared_words n lent → drop (n * 4) m ≡ drop (n * 4) lent
rest-words n lent m e = ap (drop (n * 4)) e ∙ drop_at (rows_of n (λ i. words_of at_rest 0)) (drop (n * 4) lent) (n * 4) (length-rows 4 n (λ i. words_of at_rest 0) (λ i l. refl))

rest-floats : (n : ℕ) (lent s : List Float) → s ≡ cleared_floats n lent → drop (n * 10) s ≡ drop (n * 10) lent
rest-floats n lent s e = ap (drop (n * 10)) e ∙ drop_at (rows_of n (λ i. floats_of at_rest)) (drop (n * 10) lent) (n * 10) (length-rows 10 n (λ i. floats_of at_rest) (λ i l. refl))

pub cleared-words : (n : ℕ) (lent m : List ℕ) → m ≡ cleared_words n lent → m ≡ cleared_words n m
cleared-words n lent m e = e ∙ ap (λ (r : List ℕ). rows_of n (λ i. words_of at_rest 0) ++ r) (sym (rest-words n lent m e))

pub cleared-floats : (n : ℕ) (lent s : List Float) → s ≡ cleared_floats n lent → s ≡ cleared_floats n s
cleared-floats n lent s e = e ∙ ap (λ (r : List Float). rows_of n (λ i. floats_of at_rest) ++ r) (sym (rest-floats n lent s e))

-- ---- under what is posed later, what was lent counts
module _ (time : Float) (n : ℕ) (ts : List Track) where
  pub over-words : (lent m : List ℕ) → m ≡ cleared_words n lent → encoded_words time n ts m ≡ encoded_words time n ts lent
  unfolding encoded_words
  over-words lent m e = ap (λ (r : List ℕ). rows_of n (word_row time n ts) ++ r) (rest-words n lent m e)

  pub over-floats : (lent s : List Float) → s ≡ cleared_floats n lent → encoded_floats time n ts s ≡ encoded_floats time n ts lent
  unfolding encoded_floats
  over-floats lent s e = ap (λ (r : List Float). rows_of n (float_row time n ts) ++ r) (rest-floats n lent s e)
