-- The two scenes differ in every table, and agree on node 2 as demand 3 asks. Assumes nothing.
use mathlib.Core.Path.{◌≡◌, refl, sym, ap, subst}
use mathlib.Core.List.Memᴰ
use mathlib.Core.List.{List, [], ◌∷◌, Memᴰ}
use mathlib.Core.Logic.{⊎_elim}
use Prim.Native.Nat.{ℕ, zero, suc, ◌<◌}
use native.Mathlib.Omega.{arith}
use lib.Dec.{lit<}
use lib.ListN.{length, get_or}
use Rattle.model.specs.Lists.{sum_of, keep, or_else}
use Rattle.model.specs.Scene.{Node, Track, Primitive, Mesh, Skin, Skeleton, Scene, blank, children_at}
use Rattle.model.specs.Placing.{Place, root, below, Entry, listed, walk, placed_of, trace, order}
use Rattle.model.specs.Agree.{OnPath, itself, up, SameMotion, SamePath, Each, Agree}
use Rattle.tables.specs.Decoded.{scene_of}
use Rattle.witness.specs.Scenes.{joint_track, our_mesh, before, after, Apart}
use Rattle.witness.specs.Tables.{lent₁, lent₂}
use Rattle.witness.proofs.Decoded.{decoded₁, decoded₂}

-- ---- the paths

of-each : {A : Type 0} (P : A → Type 0) (l : List A) {x : A} → Memᴰ x l → Each P l → P x
of-each P [] m h = absurd (Memᴰ.not-nil m)
of-each P (y ∷ l) m h = ⊎_elim (λ e. subst P (sym e) h.0) (λ n. of-each P l n h.1) (Memᴰ.cases_cons m)

abbrev standing : ℕ → Place → Entry
standing i p = record { node = i; place = p }

ordered : order before ≡ standing 0 root ∷ standing 1 (below 0) ∷ standing 2 root ∷ standing 3 root ∷ []
unfolding order trace walk placed_of listed sum_of
ordered = refl

-- nothing stands under node 3
abbrev Under : Entry → Type 0
Under e = (p : ℕ) → e.place ≡ below p → p < 3

not-below : (p : ℕ) → root ≡ below p → p < 3
not-below p e = let z : ◌≡◌ {A = ℕ} 0 1 = cc in absurd (omega arith)

below_none : (p : ℕ) → below 0 ≡ below p → p < 3
below_none p e = let z : p ≡ 0 = cc in omega arith

under : Each Under (order before)
under = subst (Each Under) (sym ordered) (not-below, (below_none, (not-below, (not-below, tt))))

own-path : (i a : ℕ) → i < 3 → OnPath (order before) i a → a < 3
own-path i a h itself = h
own-path i a h (up q m) = of-each Under (order before) m under a refl

-- ---- what is the same

motion : (a : ℕ) → a < 3 → SameMotion before after a
unfolding keep
motion zero h = record { base = refl; tracks = refl }
motion (suc zero) h = record { base = refl; tracks = refl }
motion (suc (suc zero)) h = record { base = refl; tracks = refl }
motion (suc (suc (suc a))) h = absurd (omega arith)

path : (i : ℕ) → i < 3 → SamePath before after i
path i h a b p = motion a (own-path i a h p)

lists : (i : ℕ) → i < 4 → children_at before i ≡ children_at after i
lists zero h = refl
lists (suc zero) h = refl
lists (suc (suc zero)) h = refl
lists (suc (suc (suc zero))) h = refl
lists (suc (suc (suc (suc i)))) h = absurd (omega arith)

in-scenes : Agree before after 2
in-scenes = record {
  listing = record { count = refl; roots = refl; lists = lists };
  mesh = refl;
  weights = refl;
  skin = refl;
  skeleton = refl;
  path = path 2 (lit< tt);
  joints = (path 1 (lit< tt), tt);
}

pub agree : Agree (scene_of lent₁) (scene_of lent₂) 2
agree =
    subst (λ (s : Scene). Agree s (scene_of lent₂) 2) (sym decoded₁)
    (subst (λ (s : Scene). Agree before s 2) (sym decoded₂) in-scenes)

-- ---- what is not

abbrev vertices : Mesh → ℕ
vertices m = sum_of (λ (p : Primitive). length p.positions) m.primitives

scenes-apart : Apart before after
unfolding sum_of
scenes-apart = record {
  nodes = λ e. let z : ◌≡◌ {A = ℕ} 1 0 = ap (λ (l : List Node). or_else (get_or l 3 blank).mesh 0) e in omega arith;
  base = λ e. let z : ◌≡◌ {A = ℕ} 0 1 = cc in omega arith;
  tracks = λ e. let z : ◌≡◌ {A = ℕ} 1 3 = ap (λ (l : List Track). (get_or l 0 joint_track).target) e in omega arith;
  meshes = λ e. let z : ◌≡◌ {A = ℕ} 1 2 = ap (λ (l : List Mesh). vertices (get_or l 0 our_mesh)) e in omega arith;
  skins = λ e. let z : ◌≡◌ {A = ℕ} 1 2 = ap (λ (l : List Skin). length l) e in omega arith;
  skeletons = λ e. let z : ◌≡◌ {A = ℕ} 1 2 = ap (λ (l : List Skeleton). length l) e in omega arith;
}

pub apart : Apart (scene_of lent₁) (scene_of lent₂)
apart =
    subst (λ (s : Scene). Apart s (scene_of lent₂)) (sym decoded₁) (subst (Apart before) (sym decoded₂) scenes-apart)
