-- A bake judges by one list of tests, in the order of the table: it answers the applying refusal of least rank.
-- Assumes nothing.
use mathlib.Core.Path.{◌≡◌, refl, sym, ap, ◌∙◌}
use mathlib.Core.Bool.{Bool, true, false, not}
use mathlib.Core.List.{List, [], ◌∷◌, ◌++◌, map}
use mathlib.Core.Option.{Option, none, some}
use Prim.Native.Nat.{ℕ, zero, suc, ◌≤◌}
use lib.Ieee.{Float}
use Rattle.model.specs.Lists.{pick, every, is_some, or_else}
use Rattle.model.specs.Matrix.{Matrix, identity}
use Rattle.model.specs.Scene.{Scene, Mesh, node_at, mesh_at}
use Rattle.model.specs.Placing.{taken}
use Rattle.model.specs.World.{poses_of, pose_at}
use Rattle.model.specs.Skin.{blend_weights}
use Rattle.model.specs.Refusals.{no_such_node, unplaced_node, no_palette, short_output, number, Test, first_of, lowest}
use Rattle.model.specs.Refusals.{early_tests, early_number}
use Rattle.model.specs.Bake.{Request, Outcome, Output, refused, baked_primitive, output_of, fits, delivered, judged}
use Rattle.model.specs.Bake.{baked_from, baked_after, bake}
use Rattle.model.proofs.Numbers.{lowest-some}
use Rattle.theorems.specs.Judging.{before, rank, ascending, JudgesBy}
use Rattle.theorems.specs.BakeTests.{world_for, palette_for, no_mesh, bake_tests}
use Rattle.theorems.proofs.Judging.{number-some, judges-after}

-- ---- 7 to 10

module _ (r : Request) (n : ℕ) (posed own : Option (List Float)) where
  abbrev result : Option Mesh → Option Matrix → Option (Option (List Matrix)) → Output
  result mesh world palette =
      let m = or_else mesh no_mesh in
      let w = blend_weights posed own m in
      output_of (map (baked_primitive (or_else world identity) (or_else palette none) w) m.primitives)

  abbrev late : Option Mesh → Option Matrix → Option (Option (List Matrix)) → List Test
  late mesh world palette =
      record { applies = not (is_some mesh); refusal = no_such_node }
      ∷ record { applies = not (is_some world); refusal = unplaced_node }
      ∷ record { applies = not (is_some palette); refusal = no_palette }
      ∷ record { applies = not (fits r (result mesh world palette)); refusal = short_output }
      ∷ []

  delivered-late : (o : Output) → (delivered r n o).answer.refusal ≡ pick (not (fits r o)) 10 0
  unfolding delivered
  delivered-late o = go (fits r o) _ refl
    where
      go : (b : Bool) (d : Outcome) → d.answer.refusal ≡ 0
          → (pick b d (refused 10)).answer.refusal ≡ pick (not b) 10 0
      go true d e = e
      go false d e = refl

  judged-late : (mesh : Option Mesh) (world : Option Matrix) (palette : Option (Option (List Matrix)))
      → (judged r n posed own mesh world palette).answer.refusal ≡ first_of (late mesh world palette)
  unfolding judged first_of
  judged-late none world palette = refl
  judged-late (some mesh) none palette = refl
  judged-late (some mesh) (some world) none = refl
  judged-late (some mesh) (some world) (some palette) = delivered-late (result (some mesh) (some world) (some palette))

-- ---- all of them

lowest-both : (g a b : ℕ) → lowest (lowest g a) b ≡ lowest g (lowest a b)
lowest-both zero a b = refl
lowest-both (suc g) a b = refl

first-both : (ts us : List Test) → lowest (first_of ts) (first_of us) ≡ first_of (ts ++ us)
unfolding first_of
first-both [] us = refl
first-both (t ∷ ts) us = go t.applies (first-both ts us)
  where
    k : ℕ
    k = number t.refusal

    go : (b : Bool) → lowest (first_of ts) (first_of us) ≡ first_of (ts ++ us)
        → lowest (pick b k (first_of ts)) (first_of us) ≡ pick b k (first_of (ts ++ us))
    go true r = sym (lowest-some k (first_of us) (number-some t.refusal))
    go false r = r

module _ (s : Scene) (r : Request) where
  abbrev late_tests : List Test
  late_tests =
      late r (taken s) (pose_at (poses_of r.time s) r.node).weights (node_at s r.node).weights
      (mesh_at s r.node) (world_for s r r.node) (palette_for s r)

  after-early : (e : ℕ) → (baked_after e s r).answer.refusal ≡ lowest e (first_of late_tests)
  unfolding baked_after baked_from
  after-early zero = judged-late r (taken s) _ _ (mesh_at s r.node) (world_for s r r.node) (palette_for s r)
  after-early (suc e) = refl

  pub bake-judges : (g : ℕ) → g ≤ 2 → JudgesBy (bake_tests g s r) (bake g s r).answer.refusal
  unfolding bake early_number bake_tests ascending every rank before
  bake-judges g h =
      judges-after g h (early_tests s r.time r.scratch ++ late_tests) _ refl
      (after-early (lowest g (first_of (early_tests s r.time r.scratch)))
      ∙ lowest-both g _ _
      ∙ ap (lowest g) (first-both (early_tests s r.time r.scratch) late_tests))
