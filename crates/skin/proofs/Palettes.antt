-- A palette made of lent slots is the model's. Assumes nothing.
use mathlib.Core.Path.{◌≡◌, refl, sym, ap, ◌∙◌}
use mathlib.Core.Logic.{◌⊎◌, inl, inr}
use mathlib.Core.Bool.{Bool, true, false, ◌&&◌, false≢true, true≢false}
use mathlib.Core.List.{List, [], ◌∷◌}
use mathlib.Core.Option.{Option, none, some}
use Prim.Native.Nat.{ℕ, zero, suc, ◌+◌, ◌*◌, ◌/◌, ◌≤◌, ◌<◌}
use native.Mathlib.Omega.{arith}
use borrow.Author.Tests.{lt-ltb, le-ltb, le-leb, ltb-true, ltb-false, eqb-true, eqb-false}
use lib.Dec.{ltb, eqb}
use lib.Ieee.{Float}
use lib.ListN.{length, get_or, replicate, length-replicate, get_or-replicate}
use Rattle.float.specs.F32.{zero32}
use Rattle.model.specs.Lists.{pick, every, tabulate, part, row, rows_in, is_some, and_then, map_some}
use Rattle.model.specs.Matrix.{Matrix, identity, mul}
use Rattle.model.specs.Skin.{products, binds_of, palette_of}
use Rattle.model.proofs.ListLaws.{length-tabulate, get_d_tabulate}
use Rattle.model.proofs.Tests.{both}
use Rattle.scene.specs.Slots.{matrix_in}
use Rattle.worlds.specs.Slots.{world_in}
use Rattle.model.specs.SkinCalls.{skin_palette}
use Rattle.tables.specs.declared.Header.{Header}
use Rattle.tables.specs.Decoded.{scene_of}
use Rattle.checks.specs.Drawn.{lent_as}
use Rattle.std.specs.Prelude as rust
use Rattle.tables.specs.Tags.{option_of}
use Rattle.skin.specs.Palette.{number_of, has_world, skeleton_in, bind_in, palette_in, Counted}

tabulate-alike : {A : Type 0} (n : ℕ) (f g : ℕ → A) → ((i : ℕ) → i < n → f i ≡ g i) → tabulate n f ≡ tabulate n g
unfolding tabulate
tabulate-alike zero f g h = refl
tabulate-alike (suc n) f g h = (λ j. h 0 (omega arith) j ∷ tabulate-alike n (λ i. f (suc i)) (λ i. g (suc i)) (λ i b. h (suc i) (omega arith)) j)

-- ---- products
module _ (world : ℕ → Option Matrix) where
  too_few : (js : List ℕ) (bs : List Matrix) → length bs < length js → products world js bs ≡ none
  unfolding products
  too_few [] bs h = absurd (omega arith)
  too_few (j ∷ js) [] h = refl
  too_few (j ∷ js) (b ∷ bs) h = go (world j) (products world js bs) (too_few js bs (omega arith))
    where
      go : (o : Option Matrix) (p : Option (List Matrix)) → p ≡ none → and_then o (λ w. and_then p (λ ms. some (mul w b ∷ ms))) ≡ none
      go none p e = refl
      go (some w) p e = ap (λ (q : Option (List Matrix)). and_then q (λ ms. some (mul w b ∷ ms))) e

  all-or-none : (js : List ℕ) (bs : List Matrix) → length js ≤ length bs → is_some (products world js bs) ≡ every (λ j. is_some (world j)) js
  unfolding products every
  all-or-none [] bs h = refl
  all-or-none (j ∷ js) [] h = absurd (omega arith)
  all-or-none (j ∷ js) (b ∷ bs) h = go (world j) (products world js bs) (every (λ j. is_some (world j)) js) (all-or-none js bs (omega arith))
    where
      go : (o : Option Matrix) (p : Option (List Matrix)) (t : Bool) → is_some p ≡ t → is_some (and_then o (λ w. and_then p (λ ms. some (mul w b ∷ ms)))) ≡ (is_some o && t)
      go none p t e = refl
      go (some w) none t e = e
      go (some w) (some ms) t e = e

  one_by_one : (f : ℕ → Matrix) (has : ℕ → Bool) → ((j : ℕ) → has j ≡ true → world j ≡ some (f j)) → (js : List ℕ) (bs : List Matrix) → length js ≤ length bs → every has js ≡ true
      → products world js bs ≡ some (tabulate (length js) (λ t. mul (f (get_or js t 0)) (get_or bs t [])))
  unfolding products every tabulate
  one_by_one f has told [] bs h a = refl
  one_by_one f has told (j ∷ js) [] h a = absurd (omega arith)
  one_by_one f has told (j ∷ js) (b ∷ bs) h a =
      let e = both (has j) (every has js) a in
      let r = one_by_one f has told js bs (omega arith) e.1 in
      (λ i. and_then (told j e.0 i) (λ w. and_then (r i) (λ ms. some (mul w b ∷ ms))))

-- ---- inverse binds
no-binds : (n : ℕ) (bs : List Matrix) → length bs ≡ 0 → binds_of n bs ≡ replicate n identity
no-binds n [] h = refl
no-binds n (b ∷ bs) h = absurd (omega arith)

some-binds : (n : ℕ) (bs : List Matrix) → (length bs ≡ 0 → ⊥) → binds_of n bs ≡ bs
some-binds n [] h = absurd (h refl)
some-binds n (b ∷ bs) h = refl

rows-given : (binds : List Float) → length (rows_in 16 binds) ≡ length binds / 16
unfolding rows_in
rows-given binds = length-tabulate _ _

module _ (n : ℕ) (binds : List Float) where
  abbrev all : List Matrix
  all = binds_of n (rows_in 16 binds)

  abbrev pub Enough : Type 0
  Enough = (length binds / 16 ≡ 0) ⊎ (n ≤ length binds / 16)

  enough : Enough → n ≤ length all
  enough (inl z) = omega (arith, ap length (no-binds n (rows_in 16 binds) (rows-given binds ∙ z)), length-replicate n identity)
  enough (inr h) = go (eqb (length (rows_in 16 binds)) 0) refl
    where
      go : (b : Bool) → eqb (length (rows_in 16 binds)) 0 ≡ b → n ≤ length all
      go true e = omega (arith, rows-given binds, eqb-true (length (rows_in 16 binds)) 0 e)
      go false e = omega (arith, ap length (some-binds n (rows_in 16 binds) (eqb-false (length (rows_in 16 binds)) 0 e)), rows-given binds)

  row_is : (t : ℕ) → t < length binds / 16 → get_or (rows_in 16 binds) t [] ≡ bind_in binds (t * 16)
  unfolding rows_in matrix_in
  row_is t h =
      get_d_tabulate (length binds / 16) (row 16 binds) t [] h
      ∙ sym (λ j. pick (le-ltb (length binds) 16 (omega arith) j) identity (pick (le-leb (t * 16 + 16) (length binds) (omega arith) j) (part binds (t * 16) 16) (replicate 16 zero32)))

  bind_is : Enough → (t : ℕ) → t < n → get_or all t [] ≡ bind_in binds (t * 16)
  bind_is (inl z) t h =
      ap (λ (bs : List Matrix). get_or bs t []) (no-binds n (rows_in 16 binds) (rows-given binds ∙ z))
      ∙ get_or-replicate n t identity [] h
      ∙ ap (λ (b : Bool). pick b identity (matrix_in binds (t * 16))) (sym (lt-ltb (length binds) 16 (omega arith)))
  bind_is (inr g) t h =
      ap (λ (bs : List Matrix). get_or bs t []) (some-binds n (rows_in 16 binds) (λ z. omega (arith, z, rows-given binds)))
      ∙ row_is t (omega arith)

-- ---- the palette of joints and binds
picked : {A : Type 0} (b : Bool) (a : A) → is_some (pick b (some a) none) ≡ b
picked true a = refl
picked false a = refl

pub no-palette : (p : Option (List Matrix)) → is_some p ≡ false → p ≡ none
no-palette none h = refl
no-palette (some ms) h = absurd (false≢true (sym h))

module _ (n : ℕ) (codes : List ℕ) (slots : List Float) (js : List ℕ) (binds : List Float) where
  abbrev world : ℕ → Option Matrix
  world = world_in n codes slots

  pub too_short : (length binds / 16 ≡ 0 → ⊥) → length binds / 16 < length js → palette_of world (skeleton_in js binds) ≡ none
  too_short d h =
      ap (products world js) (some-binds (length js) (rows_in 16 binds) (λ z. d (sym (rows-given binds) ∙ z)))
      ∙ too_few world js (rows_in 16 binds) (omega (arith, rows-given binds))

  pub by-worlds : Enough (length js) binds → every (has_world n codes) js ≡ is_some (palette_of world (skeleton_in js binds))
  by-worlds e =
      sym (all-or-none world js (all (length js) binds) (enough (length js) binds e)
      ∙ (λ i. every (λ j. picked (has_world n codes j) (matrix_in slots (j * 16)) i) js))

  whole : Enough (length js) binds → every (has_world n codes) js ≡ true → palette_of world (skeleton_in js binds) ≡ some (palette_in js binds slots)
  unfolding palette_in
  whole e a =
      one_by_one world (λ j. matrix_in slots (j * 16)) (has_world n codes) (λ j h. ap (λ (b : Bool). pick b (some (matrix_in slots (j * 16))) none) h) js (all (length js) binds) (enough (length js) binds e) a
      ∙ ap some (tabulate-alike (length js) _ _ (λ t h. ap (mul (matrix_in slots (get_or js t 0 * 16))) (bind_is (length js) binds e t h)))

  pub palette-is : is_some (palette_of world (skeleton_in js binds)) ≡ true → palette_of world (skeleton_in js binds) ≡ some (palette_in js binds slots)
  palette-is h = given (eqb (length binds / 16) 0) refl
    where
      enough-then : Enough (length js) binds → palette_of world (skeleton_in js binds) ≡ some (palette_in js binds slots)
      enough-then e = whole e (by-worlds e ∙ h)

      some-given : (b : Bool) → ltb (length binds / 16) (length js) ≡ b → (length binds / 16 ≡ 0 → ⊥) → palette_of world (skeleton_in js binds) ≡ some (palette_in js binds slots)
      some-given true q d = absurd (false≢true (sym (ap is_some (too_short d (ltb-true _ _ q))) ∙ h))
      some-given false q d = enough-then (inr (ltb-false _ _ q))

      given : (b : Bool) → eqb (length binds / 16) 0 ≡ b → palette_of world (skeleton_in js binds) ≡ some (palette_in js binds slots)
      given true q = enough-then (inl (eqb-true _ _ q))
      given false q = some-given (ltb (length binds / 16) (length js)) refl (eqb-false _ _ q)

-- ---- the answer of a count, by its cases

numbered-by : (r : rust.Option ℕ) (p : Option (List Matrix)) → option_of r ≡ map_some length p → number_of r ≡ pick (is_some p) 0 9
numbered-by (rust.Some n) none e = absurd (true≢false (ap is_some e))
numbered-by (rust.Some n) (some m) e = refl
numbered-by rust.None none e = refl
numbered-by rust.None (some m) e = absurd (false≢true (ap is_some e))

pub counted : (words : List ℕ) (floats : List Float) (h : Header) (k : ℕ) (codes : List ℕ) (r : rust.Option ℕ)
    → ((node_weights mesh_weights slots : List Float)
    → option_of r ≡ map_some length (skin_palette (world_in h.graph.nodes.count codes slots) (scene_of (lent_as words floats node_weights mesh_weights h)) k))
    → Counted words floats h k codes r
counted words floats h k codes r f = record {
  count = f;
  numbered = λ n m slots.
      numbered-by r (skin_palette (world_in h.graph.nodes.count codes slots) (scene_of (lent_as words floats n m h)) k) (f n m slots);
}
