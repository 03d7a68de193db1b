use mathlib.Core.Path.{refl, sym, ap, ◌∙◌, subst}
use mathlib.Core.Bool.{Bool}
use mathlib.Core.List.{List}
use lib.Ieee.{Float}
use Prim.Native.Nat.{ℕ}
use Rattle.tables.specs.declared.MeshRow.{MeshRow}
use Rattle.tables.specs.Decoded.{Lent, lent_of}
use Rattle.shapes.specs.Rest.{lengths_below, Counted}
use Rattle.bake_stages.specs.Numbers.{first_for, late_for}
use Rattle.bake_stages.proofs.Drawing.{ready}
use Rattle.std.proofs.Common.{◌≡◌, Result, Err}
use Rattle.refusals.specs.declared.Refusal.{Refusal}
use Rattle.refusals.proofs.Told.{not-none, passed-on}
use Rattle.bake_writing.specs.Delivered.{Delivered}
use Rattle.bake.specs.declared.Put.{Put}
use Rattle.bake.specs.Baked.{Change, room_in, told_by, Baked}
use Rattle.bake.proofs.Judging.{refused-first}
use Rattle.bake.proofs.Whole.{none-early, draw, skeletons, long-enough, turned_down, fit-true, done}
use Rattle.bake.proofs.world_mesh_at.Goals as goal

-- said of what a `?` passes on
told-as : {l : Lent} {i : ℕ} {time : Float} {c : Change} (t : Result Put Refusal) (e : Refusal) → t ≡ Err e
    → Baked l i time c (told_by (Err e)) → Baked l i time c (told_by t)
told-as {l} {i} {time} {c} t e q h = subst (λ (u : Result Put Refusal). Baked l i time c (told_by u)) (sym q) h

-- said of the placing that the room holds
late-as : (l : Lent) (i n : ℕ) (places places' : List ℕ) (slots : List Float) (fit : Bool) → places ≡ places'
    → n ≡ late_for l i places slots fit → n ≡ late_for l i places' slots fit
late-as l i n places places' slots fit e h = h ∙ ap (λ (p : List ℕ). late_for l i p slots fit) e

delivered-as : {l : Lent} {i : ℕ} {time : Float} {marks places places' : List ℕ} {worlds worlds' lp p ln n lt t : List Float}
    → places ≡ places' → worlds ≡ worlds'
    → Delivered l i time marks places worlds lp p ln n lt t → Delivered l i time marks places' worlds' lp p ln n lt t
delivered-as {l} {i} {time} {marks} {places} {places'} {worlds} {worlds'} {lp} {p} {ln} {n} {lt} {t} e f d =
    subst (λ (w : List Float). Delivered l i time marks places' w lp p ln n lt t) f
    (subst (λ (c : List ℕ). Delivered l i time marks c worlds lp p ln n lt t) e d)

pub returns-in_err-check_first-clause-baked : goal.returns-in_err-check_first-clause-baked
returns-in_err-check_first-clause-baked c =
    let a = c.args in
    let l = lent_of a.lent in
    let r = room_in a.marks.now a.slots.now a.room.now a.out.now in
    let e = c.in_err-check_first.field-0.0 in
    told-as _ e (passed-on _ e c.from_residual.ensures.1)
    (refused-first l a.node a.time r _
    (c.in_err-check_first.ensures ∙ ap (first_for l a.node a.time) c.space_in-space.ensures)
    (not-none e))

pub pose_and_place-taken-requires : goal.pose_and_place-taken-requires
pose_and_place-taken-requires c =
    let a = c.args in
    let l = lent_of a.lent in
    let r = room_in a.marks.now a.slots.now a.room.now a.out.now in
    let z = sym (c.in_ok-check_first.ensures ∙ ap (first_for l a.node a.time) c.space_in-space.ensures) in
    ready l a.time r.scratch (none-early l a.node a.time r z)

pub mesh_lengths-n-requires : goal.mesh_lengths-n-requires
mesh_lengths-n-requires c =
    let a = c.args in
    let l = lent_of a.lent in
    let r = room_in a.marks.now a.slots.now a.room.now a.out.now in
    let z = sym (c.in_ok-check_first.ensures ∙ ap (first_for l a.node a.time) c.space_in-space.ensures) in
    subst (λ (m : MeshRow). Counted l.words l.header.meshes.primitives m.primitives) (sym c.mesh_of-mesh.ensures)
    (draw l a.node a.time r z).counted

pub returns-in_err-check_late-clause-baked : goal.returns-in_err-check_late-clause-baked
returns-in_err-check_late-clause-baked c =
    let a = c.args in
    let l = lent_of a.lent in
    let r = room_in a.marks.now a.slots.now a.room.now a.out.now in
    let z = sym (c.in_ok-check_first.ensures ∙ ap (first_for l a.node a.time) c.space_in-space.ensures) in
    let n = c.mesh_lengths-n.ensures ∙ ap (λ (m : MeshRow). lengths_below l.words l.header.meshes.primitives m.primitives m.primitives.count) c.mesh_of-mesh.ensures in
    let e = c.in_err-check_late.field-0.0 in
    told-as _ e (passed-on _ e c.from_residual-in_err-check_late.ensures.1)
    (turned_down l a.node a.time r z _ n _ c.fits-fit.ensures _
    (c.pose_and_place-taken.ensures.placed l.node_weights l.mesh_weights).1 _
    (late-as l a.node _ _ _ _ _ c.placed_in-placed.ensures.0 (c.in_err-check_late.ensures l.node_weights l.mesh_weights _)) (not-none e) _ refl)

pub deliver-requires : goal.deliver-requires
deliver-requires c =
    let a = c.args in
    let l = lent_of a.lent in
    let r = room_in a.marks.now a.slots.now a.room.now a.out.now in
    let z = sym (c.in_ok-check_first.ensures ∙ ap (first_for l a.node a.time) c.space_in-space.ensures) in
    let n = c.mesh_lengths-n.ensures ∙ ap (λ (m : MeshRow). lengths_below l.words l.header.meshes.primitives m.primitives m.primitives.count) c.mesh_of-mesh.ensures in
    let fit = c.fits-fit.ensures in (
      draw l a.node a.time r z,
      long-enough l a.node a.time r z _ n _ fit
          (fit-true l a.node a.time r z _ n _ fit _
          (c.pose_and_place-taken.ensures.placed l.node_weights l.mesh_weights).1 _
          (late-as l a.node _ _ _ _ _ c.placed_in-placed.ensures.0 (c.in_ok-check_late.ensures l.node_weights l.mesh_weights _)) refl),
      skeletons l a.node a.time r z,
    )

pub returns-clause-baked : goal.returns-clause-baked
returns-clause-baked c =
    let a = c.args in
    let l = lent_of a.lent in
    let r = room_in a.marks.now a.slots.now a.room.now a.out.now in
    let z = sym (c.in_ok-check_first.ensures ∙ ap (first_for l a.node a.time) c.space_in-space.ensures) in
    let n = c.mesh_lengths-n.ensures ∙ ap (λ (m : MeshRow). lengths_below l.words l.header.meshes.primitives m.primitives m.primitives.count) c.mesh_of-mesh.ensures in
    let placed = c.pose_and_place-taken.ensures.placed l.node_weights l.mesh_weights in
    done l a.node a.time r z _ n _ c.fits-fit.ensures _ placed.1 _
    (late-as l a.node _ _ _ _ _ c.placed_in-placed.ensures.0 (c.in_ok-check_late.ensures l.node_weights l.mesh_weights _)) refl _ placed.0 _ _ _ (delivered-as c.placed_in-placed.ensures.0 c.placed_in-placed.ensures.1 c.deliver.ensures.delivers)

pub shape_of-marks-in_err-check_late : goal.shape_of-marks-in_err-check_late
shape_of-marks-in_err-check_late c = c.pose_and_place-taken.auto.marks

pub shape_of-slots-in_err-check_late : goal.shape_of-slots-in_err-check_late
shape_of-slots-in_err-check_late c = c.pose_and_place-taken.auto.slots

pub shape_of-marks : goal.shape_of-marks
shape_of-marks c = c.pose_and_place-taken.auto.marks

pub shape_of-slots : goal.shape_of-slots
shape_of-slots c = c.pose_and_place-taken.auto.slots
