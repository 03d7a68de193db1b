-- The placing of a scene that is lent in bytes: what it answers and leaves. Definitions only.
use Rattle.std.specs.Prelude.{◌≡◌, List, ℕ, eqb, Float}
use Rattle.borrowed.specs.Slices.{Change}
use Rattle.model.specs.Lists.{pick}
use Rattle.tables.specs.declared.Header.{Header}
use Rattle.worlds.specs.declared.Answer.{Answer}
use Rattle.lent_bytes.specs.Bytes.{SceneBytes, Decoding, lent_by, drawn_by, decoded_to}
use Rattle.byte_placing.specs.Placed.{Room, PlacedIn}

-- as the placing of the decoded scene, with 6 also where the decoding room is short; accepted, that room holds the
-- decoded scene, and refused it is as lent
pub record PlacedBytes (b : SceneBytes) (h : Header) (marks : List ℕ) (slots : List Float) (d : Change Decoding)
    (c : Change Room) (a : Answer) : Type 0 where
  pub placed : PlacedIn (drawn_by b d.from) (lent_by b h) marks slots c a
  pub decoded : d.to ≡ pick (eqb a.number 0) (decoded_to b d.from) d.from
