-- The bake of a scene that is lent in bytes: what it answers and leaves. Definitions only.
use Rattle.std.specs.Prelude.{◌≡◌, ℕ, Float}
use Rattle.borrowed.specs.Slices.{Change}
use Rattle.model.specs.Lists.{pick}
use Rattle.tables.specs.declared.Header.{Header}
use Rattle.bake.specs.declared.Answer.{Answer}
use Rattle.bake.specs.Baked.{Room}
use Rattle.lent_bytes.specs.Bytes.{SceneBytes, Decoding, lent_by, drawn_by, decoded_to}
use Rattle.byte_baking.specs.Output.{ByteOutput}
use Rattle.byte_baking.specs.Baked.{is_reached, BakedIn}

-- as the bake of the decoded scene, with 6 also where the decoding room is short; past 7 that room holds the decoded
-- scene, otherwise it is as lent
pub record BakedBytes (b : SceneBytes) (h : Header) (i : ℕ) (time : Float) (d : Change Decoding)
    (c : Change Room) (o : Change ByteOutput) (a : Answer) : Type 0 where
  pub baked : BakedIn (drawn_by b d.from) (lent_by b h) i time c o a
  pub decoded :
      d.to
      ≡ pick (is_reached (drawn_by b d.from) (lent_by b h) i time c.from) (decoded_to b d.from) d.from
