use mathlib.Core.Path.{sym, ap, ◌∙◌}
use mathlib.Core.List.{List, [], ◌++◌}
use mathlib.Core.Option.{Option}
use Prim.Native.Nat.{ℕ, ◌*◌}
use native.Mathlib.Omega.{arith}
use lib.ListN.{drop}
use Rattle.model.specs.Lists.{or_else}
use Rattle.model.specs.Matrix.{Matrix}
use Rattle.model.proofs.RowLaws.{flat}
use Rattle.skin.specs.Palette.{palette_in, laid_out}
use Rattle.skin.proofs.Palettes.{no-palette, palette-is}
use Rattle.skin.proofs.Rows.{laid, no_room, none-laid, palette-length}
use Rattle.skin.proofs.palette.lay_out.Goals as goal

pub returns-then-not-is_whole : goal.returns-then-not-is_whole
returns-then-not-is_whole c =
    let a = c.args in
    let w = c.is_whole in
    none-laid a.out.now
    ∙ ap (λ (p : Option (List Matrix)). laid_out (or_else p []) a.out.now) (sym (no-palette _ (sym (w.ensures a.worlds.now) ∙ c.if-not-is_whole.true)))

pub returns-then-out-joints : goal.returns-then-out-joints
returns-then-out-joints c =
    let a = c.args in
    let w = c.is_whole in
    let p = palette-is a.n a.places.now a.worlds.now a.joints.now a.binds.now (sym (w.ensures a.worlds.now) ∙ c.if-not-is_whole.false) in
    no_room (palette_in a.joints.now a.binds.now a.worlds.now) a.out.now (omega (arith, palette-length a.joints.now a.binds.now a.worlds.now, c.if-out-joints.true))
    ∙ ap (λ (p : Option (List Matrix)). laid_out (or_else p []) a.out.now) (sym p)

pub returns : goal.returns
returns c =
    let a = c.args in
    let w = c.is_whole in
    let m = palette_in a.joints.now a.binds.now a.worlds.now in
    let n = palette-length a.joints.now a.binds.now a.worlds.now in
    let p = palette-is a.n a.places.now a.worlds.now a.joints.now a.binds.now (sym (w.ensures a.worlds.now) ∙ c.if-not-is_whole.false) in
    c.write_joints.ensures
    ∙ ap (λ (k : ℕ). flat m ++ drop (k * 16) a.out.now) (sym n)
    ∙ laid m a.out.now (omega (arith, n, c.if-out-joints.false))
    ∙ ap (λ (p : Option (List Matrix)). laid_out (or_else p []) a.out.now) (sym p)
