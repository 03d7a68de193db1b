-- Targets added one after the other to vertices that lie in flat slices. Assumes nothing.
use mathlib.Core.Path.{◌≡◌, refl, sym, ap, ◌∙◌}
use mathlib.Core.List.{List, [], ◌∷◌}
use mathlib.Core.Bool.{Bool, true, false}
use Prim.Native.Nat.{ℕ, zero, suc, ◌+◌, ◌/◌, ◌≤◌, ◌<◌, min}
use native.Mathlib.Numerals.{add-one}
use native.Mathlib.Omega.{arith}
use lib.Ieee.{Float, eq}
use lib.ListN.{length, get_or, take}
use Rattle.float.specs.F32.{zero32}
use Rattle.model.specs.Lists.{pick, any_of, rows_in, or_else}
use Rattle.model.specs.Vector.{Vector}
use Rattle.model.specs.Scene.{InBetween, Target, Primitive}
use Rattle.model.specs.Morph.{valid, plain_target, station_target, with_target, with_targets}
use Rattle.model.specs.Attributes.{attributes_in, shape_of, over_rows, Reshaped}
use Rattle.model.proofs.Rowwise.{rows-in, row_count, over-length, rows-over, over-again}
use Rattle.deltas.proofs.DeltaLaws.{over-own}
use Rattle.mesh.proofs.TargetLaws.{vertices, plain-is, station-is}
use Rattle.mesh.proofs.Sizes.{Size, Sized, TargetRows, target-sized}

-- ---- one target more
module _ (t : Target) (w : Float) where
  next-target : (ts : List Target) (ws : List Float) (k : ℕ) (p : Primitive) → k < length ts → k < length ws
      → with_targets (take (suc k) ts) (take (suc k) ws) p ≡ with_target (with_targets (take k ts) (take k ws) p) (get_or ts k t) (get_or ws k w)
  unfolding with_targets
  next-target [] ws k p h g = absurd (omega arith)
  next-target (x ∷ ts) [] k p h g = absurd (omega arith)
  next-target (x ∷ ts) (y ∷ ws) zero p h g = refl
  next-target (x ∷ ts) (y ∷ ws) (suc k) p h g = next-target ts ws k (with_target p x y) (omega arith) (omega arith)

  pub more-targets : (ts : List Target) (ws : List Float) (k : ℕ) (p : Primitive) → k < length ts → k < length ws
      → with_targets (take (k + 1) ts) (take (k + 1) ws) p ≡ with_target (with_targets (take k ts) (take k ws) p) (get_or ts k t) (get_or ws k w)
  more-targets ts ws k p h g = (λ j. with_targets (take (add-one k j) ts) (take (add-one k j) ws) p) ∙ next-target ts ws k p h g

pub all-targets : (ts : List Target) (ws : List Float) (k : ℕ) (p : Primitive) → min (length ts) (length ws) ≤ k → with_targets (take k ts) (take k ws) p ≡ with_targets ts ws p
unfolding with_targets
all-targets [] ws zero p h = refl
all-targets [] ws (suc k) p h = refl
all-targets (t ∷ ts) [] zero p h = refl
all-targets (t ∷ ts) [] (suc k) p h = refl
all-targets (t ∷ ts) (w ∷ ws) zero p h = absurd (omega arith)
all-targets (t ∷ ts) (w ∷ ws) (suc k) p h = all-targets ts ws k (with_target p t w) (omega arith)

-- ---- a slice whose rows were replaced
pub record Over (w : ℕ) (lent left : List Float) : Type 0 where
  pub slice : left ≡ over_rows w (rows_in w left) lent
  pub same : length left ≡ length lent

over-start : (w : ℕ) (l : List Float) → Over w l l
over-start w l = record { slice = sym (over-own w l); same = refl }

module _ (w : ℕ) (lent left new : List Float) (rows : List Vector) (o : Over w lent left) (s : Size w rows (length left / w)) (e : new ≡ over_rows w rows left) where
  rows-again : rows_in w new ≡ rows
  rows-again = ap (rows_in w) e ∙ rows-over w rows left s.0 s.1

  over-more : Over w lent new
  over-more =
      let n : length (rows_in w left) ≡ length lent / w = row_count w left ∙ ap (λ (k : ℕ). k / w) o.same in
      record {
        slice =
            e
            ∙ ap (over_rows w rows) o.slice
            ∙ over-again w (rows_in w left) lent (rows-in w left) n rows
            ∙ ap (λ (r : List Vector). over_rows w r lent) (sym rows-again);
        same = ap length e ∙ over-length w rows left s.0 s.1 ∙ o.same;
      }

-- ---- vertices stay vertices
module _ (ps ns ts : List Vector) (t : Target) (w : Float) where
  abbrev again : Primitive → Primitive
  again p = vertices p.positions (or_else p.normals []) (or_else p.tangents [])

  still : with_target (vertices ps ns ts) t w ≡ again (with_target (vertices ps ns ts) t w)
  unfolding with_target
  still = go (eq w zero32) (any_of (λ (b : InBetween). valid b.weight) t.in_betweens)
    where
      go : (z v : Bool) → pick z (vertices ps ns ts) (pick v (station_target w t (vertices ps ns ts)) (plain_target w t (vertices ps ns ts))) ≡ again (pick z (vertices ps ns ts) (pick v (station_target w t (vertices ps ns ts)) (plain_target w t (vertices ps ns ts))))
      go true v = refl
      go false true = station-is w t ps ns ts ∙ sym (ap again (station-is w t ps ns ts))
      go false false = plain-is w t ps ns ts ∙ sym (ap again (plain-is w t ps ns ts))

-- ---- what is left once some targets are added: p
pub record Morphed (p : Primitive) (lent_p left_p lent_n left_n lent_t left_t : List Float) : Type 0 where
  pub whole : attributes_in left_p left_n left_t ≡ p
  pub positions : Over 3 lent_p left_p
  pub normals : Over 3 lent_n left_n
  pub tangents : Over 4 lent_t left_t

lent-sized : (positions normals tangents : List Float) → Sized (attributes_in positions normals tangents) (length positions / 3) (length normals / 3) (length tangents / 4)
lent-sized positions normals tangents = record {
  positions = (rows-in 3 positions, row_count 3 positions);
  normals = (rows-in 3 normals, row_count 3 normals);
  tangents = (rows-in 4 tangents, row_count 4 tangents);
}

pub morphed-start : (positions normals tangents : List Float) → Morphed (attributes_in positions normals tangents) positions positions normals normals tangents tangents
morphed-start positions normals tangents = record { whole = refl; positions = over-start 3 positions; normals = over-start 3 normals; tangents = over-start 4 tangents }

module _ (p : Primitive) (lent_p left_p new_p lent_n left_n new_n lent_t left_t new_t : List Float) (t : Target) (w : Float) where
  pub morphed-more : TargetRows t → Morphed p lent_p left_p lent_n left_n lent_t left_t
      → Reshaped (shape_of (with_target (attributes_in left_p left_n left_t) t w)) left_p new_p left_n new_n left_t new_t
      → Morphed (with_target p t w) lent_p new_p lent_n new_n lent_t new_t
  morphed-more r m h =
      let q = with_target (attributes_in left_p left_n left_t) t w in
      let s = target-sized (attributes_in left_p left_n left_t) t w (length left_p / 3) (length left_n / 3) (length left_t / 4) r (lent-sized left_p left_n left_t) in
      let a = rows-again 3 lent_p left_p new_p q.positions m.positions s.positions h.positions in
      let b = rows-again 3 lent_n left_n new_n (or_else q.normals []) m.normals s.normals h.normals in
      let c = rows-again 4 lent_t left_t new_t (or_else q.tangents []) m.tangents s.tangents h.tangents in
      record {
        whole = (λ j. vertices (a j) (b j) (c j)) ∙ sym (still (rows_in 3 left_p) (rows_in 3 left_n) (rows_in 4 left_t) t w) ∙ ap (λ (x : Primitive). with_target x t w) m.whole;
        positions = over-more 3 lent_p left_p new_p q.positions m.positions s.positions h.positions;
        normals = over-more 3 lent_n left_n new_n (or_else q.normals []) m.normals s.normals h.normals;
        tangents = over-more 4 lent_t left_t new_t (or_else q.tangents []) m.tangents s.tangents h.tangents;
      }

pub morphed-end : (p : Primitive) (lent_p left_p lent_n left_n lent_t left_t : List Float) → Morphed p lent_p left_p lent_n left_n lent_t left_t → Reshaped (shape_of p) lent_p left_p lent_n left_n lent_t left_t
morphed-end p lent_p left_p lent_n left_n lent_t left_t m = record {
  positions = m.positions.slice ∙ ap (λ (x : Primitive). over_rows 3 x.positions lent_p) m.whole;
  normals = m.normals.slice ∙ ap (λ (x : Primitive). over_rows 3 (or_else x.normals []) lent_n) m.whole;
  tangents = m.tangents.slice ∙ ap (λ (x : Primitive). over_rows 4 (or_else x.tangents []) lent_t) m.whole;
}
