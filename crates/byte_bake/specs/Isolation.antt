-- Two makers in one scene, baked from bytes: demand 3; scope, "Two makers, one scene". Definitions only.
use Rattle.std.specs.Prelude.{◌≡◌, ◌*◌, length, take}
use Rattle.bake.specs.declared.Answer.{Answer}
use Rattle.bake.specs.Baked.{Room}
use Rattle.bake.specs.Isolation as floats
use Rattle.byte_baking.specs.Output.{ByteOutput}

-- scratch room and outputs of the same lengths, whatever they hold; the decoding rooms may differ
pub record SameLengths (r s : Room) (o p : ByteOutput) : Type 0 where
  pub room : floats.SameLengths r s
  pub positions : length o.positions ≡ length p.positions
  pub normals : length o.normals ≡ length p.normals
  pub tangents : length o.tangents ≡ length p.tangents

-- the whole answer, and each output up to the length that the answer gives for it, byte for byte
pub record SameShown (a b : Answer) (o p : ByteOutput) : Type 0 where
  pub answer : a ≡ b
  pub positions : take (4 * a.positions) o.positions ≡ take (4 * b.positions) p.positions
  pub normals : take (4 * a.normals) o.normals ≡ take (4 * b.normals) p.normals
  pub tangents : take (4 * a.tangents) o.tangents ≡ take (4 * b.tangents) p.tangents
