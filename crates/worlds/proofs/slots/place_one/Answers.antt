use mathlib.Core.Path.{◌∙◌}
use Prim.Native.Nat.{◌*◌}
use lib.Seq.{paste}
use Rattle.model.specs.Lists.{pick}
use Rattle.scene.specs.Slots.{fits_at}
use Rattle.worlds.proofs.slots.place_one.Goals as goal

pub returns : goal.returns
returns c =
    let lent = c.args.worlds.now in
    c.store.ensures.slice
    ∙ (λ j. let at = c.args.i * 16 in pick (fits_at lent at) (paste lent at (c.world_at-world.ensures j) 16) lent)
