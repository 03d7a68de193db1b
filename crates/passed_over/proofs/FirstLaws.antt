-- The search for the first channel with a reason, channel by channel. Assumes nothing.
use mathlib.Core.Path.{◌≡◌, sym, ap, ◌∙◌}
use mathlib.Core.Bool.{Bool, true, false}
use mathlib.Core.List.{List, ◌∷◌}
use Prim.Native.Nat.{ℕ, suc, ◌+◌, ◌≤◌, ◌<◌}
use native.Mathlib.Numerals.{add-one}
use native.Mathlib.Omega.{arith}
use borrow.Author.Tests.{eq-eqb, ne_eqb}
use lib.Dec.{eqb}
use lib.ListN.{drop, drop_of_length-le}
use lib.Seq.{drop-cons}
use Rattle.model.specs.Lists.{pick, tabulate}
use Rattle.model.specs.Scene.{Track}
use Rattle.model.proofs.ListLaws.{length-tabulate, get_d_tabulate}
use Rattle.passed_over.specs.Passed.{no_channel, channel_told, first_with}

module _ (reason : Track → ℕ) where
  pub step : (k : ℕ) (t : Track) (ts : List Track) (b : Bool) → eqb (reason t) 0 ≡ b
      → first_with reason k (t ∷ ts) ≡ pick b (first_with reason (suc k) ts) (channel_told (reason t) k)
  unfolding first_with
  step k t ts b e = ap (λ (c : Bool). pick c (first_with reason (suc k) ts) (channel_told (reason t) k)) e

  -- ---- the channels of a table, from channel k on
  module _ (m : ℕ) (f : ℕ → Track) (k : ℕ) where
    rest : k < m → drop k (tabulate m f) ≡ f k ∷ drop (suc k) (tabulate m f)
    rest h =
        drop-cons (tabulate m f) k (f k) (omega (arith, length-tabulate m f))
        ∙ ap (λ (t : Track). t ∷ drop (suc k) (tabulate m f)) (get_d_tabulate m f k (f k) h)

    pub next : k < m → reason (f k) ≡ 0
        → first_with reason k (drop k (tabulate m f)) ≡ first_with reason (k + 1) (drop (k + 1) (tabulate m f))
    next h e =
        ap (first_with reason k) (rest h) ∙ step k (f k) _ true (eq-eqb (reason (f k)) 0 e)
        ∙ ap (λ (i : ℕ). first_with reason i (drop i (tabulate m f))) (sym (add-one k))

    pub found : k < m → (reason (f k) ≡ 0 → ⊥)
        → first_with reason k (drop k (tabulate m f)) ≡ channel_told (reason (f k)) k
    found h e = ap (first_with reason k) (rest h) ∙ step k (f k) _ false (ne_eqb (reason (f k)) 0 e)

    pub ended : m ≤ k → first_with reason k (drop k (tabulate m f)) ≡ no_channel 0
    unfolding first_with
    ended h = ap (first_with reason k) (drop_of_length-le (tabulate m f) {i = k} (omega (arith, length-tabulate m f)))
