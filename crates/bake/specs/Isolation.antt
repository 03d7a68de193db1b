-- Two makers in one scene: demand 3; scope, "Two makers, one scene". What two runs are lent alike, and what they then
-- show alike. Definitions only.
use Rattle.std.specs.Prelude.{◌≡◌, ◌≤◌, length, take}
use Rattle.model.specs.Refusals.{number, out_of_table, short_scratch}
use Rattle.bake.specs.declared.Answer.{Answer}
use Rattle.bake.specs.Baked.{Room}

-- bench and sheets of the same lengths, whatever they hold
pub record SameLengths (r s : Room) : Type 0 where
  pub marks : length r.scratch.marks ≡ length s.scratch.marks
  pub slots : length r.scratch.slots ≡ length s.scratch.slots
  pub walk : length r.scratch.walk ≡ length s.scratch.walk
  pub places : length r.scratch.places ≡ length s.scratch.places
  pub worlds : length r.scratch.worlds ≡ length s.scratch.worlds
  pub positions : length r.output.positions ≡ length s.output.positions
  pub normals : length r.output.normals ≡ length s.output.normals
  pub tangents : length r.output.tangents ≡ length s.output.tangents

-- not refused with a number from 1 to 6
abbrev pub NotRefusedEarly : Answer → Type 0
NotRefusedEarly a = number out_of_table ≤ a.number → a.number ≤ number short_scratch → ⊥

-- the whole answer, and each sheet up to the length that the answer gives for it
pub record SameShown (a b : Answer) (r s : Room) : Type 0 where
  pub number : a.number ≡ b.number
  pub position-length : a.positions ≡ b.positions
  pub normal-length : a.normals ≡ b.normals
  pub tangent-length : a.tangents ≡ b.tangents
  pub entries : a.taken ≡ b.taken
  pub positions : take a.positions r.output.positions ≡ take b.positions s.output.positions
  pub normals : take a.normals r.output.normals ≡ take b.normals s.output.normals
  pub tangents : take a.tangents r.output.tangents ≡ take b.tangents s.output.tangents
