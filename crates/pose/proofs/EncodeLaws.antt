-- Poses in slots: a slot read back, and all slots after one channel more. Assumes nothing.
use mathlib.Core.Path.{◌≡◌, refl, sym, ap, ◌∙◌}
use mathlib.Core.Bool.{Bool, ◌&&◌}
use mathlib.Core.List.{List, ◌++◌, append_assoc}
use mathlib.Core.Option.{Option, none, some}
use Prim.Native.Nat.{ℕ, zero, suc, ◌+◌, ◌*◌, ◌≤◌, ◌<◌}
use native.Mathlib.Omega.{arith}
use lib.Dec.{eqb}
use lib.Ieee.{Float}
use lib.ListN.{length, get_or, take, drop, replicate, length-append, length-drop}
use lib.Seq.{take_all, take_at, drop_at, get_or-take, get_or-drop}
use Rattle.float.specs.F32.{zero32}
use Rattle.model.specs.Lists.{pick, foldl, tabulate, part, is_some, or_else}
use Rattle.model.specs.Vector.{Vector}
use Rattle.model.specs.Scene.{Property, translation, rotation, scale, morph_weights, Track}
use Rattle.model.specs.Pose.{Pose, at_rest, replaced, drive, poses}
use Rattle.tables.specs.Tags.{is_marked}
use Rattle.pose_slots.specs.Slots.{when, room, pose_from, pose_in, mark_of, words_of, floats_of}
use Rattle.pose_slots.specs.Gifts.{bare}
use Rattle.pose_slots.proofs.SlotLaws.{in-room}
use Rattle.pose.specs.Encoded.{rows_of, gives_weights, standing_from, standing, encoded_words, encoded_floats}
use Rattle.pose.proofs.SizeLaws.{Sized, poses-sized}
use Rattle.pose.proofs.RowLaws.{length-rows, get-row}

-- ---- a slot read back
back : (o : Option Vector) (v z : Vector) → v ≡ or_else o z → when (is_marked (mark_of (is_some o))) v ≡ o
back (some a) v z e = ap some e
back none v z e = refl

read_back : (p : Pose) (w : ℕ) → Sized p → pose_from (words_of p w) (floats_of p) ≡ bare p
read_back p w h =
    let t = or_else p.translation (replicate 3 zero32) in
    let r = or_else p.rotation (replicate 4 zero32) in
    let s = or_else p.scale (replicate 3 zero32) in
    let a : take 3 (floats_of p) ≡ t = take_at t (r ++ s) 3 h.0 in
    let b : part (floats_of p) 3 4 ≡ r = ap (take 4) (drop_at t (r ++ s) 3 h.0) ∙ take_at r s 4 h.1 in
    let c : part (floats_of p) 7 3 ≡ s
    = ap (λ (x : Vector). take 3 (drop 7 x)) (sym (append_assoc t r s))
    ∙ ap (take 3) (drop_at (t ++ r) s 7 (omega (arith, length-append t r, h.0, h.1))) ∙ take_all 3 s (omega (arith, h.2)) in
    λ j. record {
      translation = back p.translation _ _ a j;
      rotation = back p.rotation _ _ b j;
      scale = back p.scale _ _ c j;
      weights = none;
    }

-- what is driven does not depend on the weights
pub bare-drive : (time : Float) (t : Track) (p : Pose) → bare (drive time (bare p) t) ≡ bare (drive time p t)
unfolding replaced
bare-drive time t p = go t.property _
  where
    go : (q : Property) (v : Option Vector) → bare (replaced q v (bare p)) ≡ bare (replaced q v p)
    go translation v = refl
    go rotation v = refl
    go scale v = refl
    go morph_weights v = refl

-- ---- one channel more
pub fold_more : {A B : Type 0} (f : B → A → B) (z : B) (k : ℕ) (g : ℕ → A) → foldl f z (tabulate (suc k) g) ≡ f (foldl f z (tabulate k g)) (g k)
unfolding foldl tabulate
fold_more f z zero g = refl
fold_more f z (suc k) g = fold_more f (f z (g 0)) k (λ i. g (suc i))

module _ (time : Float) where
  abbrev pub stands : ℕ → Track → Bool
  stands i t = eqb t.target i && gives_weights time t

  pub stand-more : (i c w k : ℕ) (g : ℕ → Track) → standing_from time i c w (tabulate (suc k) g) ≡ pick (stands i (g k)) (c + k + 1) (standing_from time i c w (tabulate k g))
  unfolding standing_from tabulate
  stand-more i c w zero g = let e : suc c ≡ c + 0 + 1 = omega arith in ap (λ (m : ℕ). pick (stands i (g 0)) m w) e
  stand-more i c w (suc k) g =
      let e : suc c + k + 1 ≡ c + suc k + 1 = omega arith in
      stand-more i (suc c) (pick (stands i (g 0)) (suc c) w) k (λ j. g (suc j))
      ∙ ap (λ (m : ℕ). pick (stands i (g (suc k))) m (standing_from time i (suc c) (pick (stands i (g 0)) (suc c) w) (tabulate k (λ j. g (suc j))))) e

  module _ (n : ℕ) where
    abbrev pub word_row : List Track → ℕ → List ℕ
    word_row ts i = words_of (get_or (poses time n ts) i at_rest) (standing time i ts)

    abbrev pub float_row : List Track → ℕ → List Float
    float_row ts i = floats_of (get_or (poses time n ts) i at_rest)

    pub float-width : (ts : List Track) (i : ℕ) → length (float_row ts i) ≡ 10
    float-width ts i =
        let p = get_or (poses time n ts) i at_rest in
        let h = poses-sized time n ts i in
        let r = or_else p.rotation (replicate 4 zero32) in
        let s = or_else p.scale (replicate 3 zero32) in
        omega (arith, length-append (or_else p.translation (replicate 3 zero32)) (r ++ s), length-append r s, h.0, h.1, h.2)

    module _ (marks : List ℕ) (slots : List Float) (space : n ≤ room marks slots) (ts : List Track) where
      pub words-length : length (encoded_words time n ts marks) ≡ length marks
      unfolding encoded_words
      words-length =
          omega (arith, length-append (rows_of n (word_row ts)) (drop (n * 4) marks), length-rows 4 n (word_row ts) (λ i l. refl), length-drop (n * 4) marks)

      pub floats-length : length (encoded_floats time n ts slots) ≡ length slots
      unfolding encoded_floats
      floats-length =
          omega (arith, length-append (rows_of n (float_row ts)) (drop (n * 10) slots), length-rows 10 n (float_row ts) (λ i l. float-width ts i), length-drop (n * 10) slots)

      module _ (i : ℕ) (l : i < n) where
        -- the slots say the poses
        pub read-pose : pose_in (encoded_words time n ts marks) (encoded_floats time n ts slots) i ≡ bare (get_or (poses time n ts) i at_rest)
        unfolding encoded_words encoded_floats
        read-pose =
            sym (in-room (encoded_words time n ts marks) (encoded_floats time n ts slots) i (omega (arith, words-length, floats-length)))
            ∙ (λ j. pose_from (get-row 4 i n (word_row ts) (λ k l. refl) l (drop (n * 4) marks) j) (get-row 10 i n (float_row ts) (λ k l. float-width ts k) l (drop (n * 10) slots) j))
            ∙ read_back (get_or (poses time n ts) i at_rest) (standing time i ts) (poses-sized time n ts i)

        -- and the channel whose weights stand
        pub read_word : get_or (encoded_words time n ts marks) (i * 4 + 3) 0 ≡ standing time i ts
        unfolding encoded_words
        read_word =
            let e = encoded_words time n ts marks in
            sym (get_or-drop (i * 4) e 3 0) ∙ sym (get_or-take 4 (drop (i * 4) e) 3 0 (omega arith))
            ∙ ap (λ (r : List ℕ). get_or r 3 0) (get-row 4 i n (word_row ts) (λ k l. refl) l (drop (n * 4) marks))
