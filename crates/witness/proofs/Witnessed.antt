-- Demand 3 at two lent scenes: every hypothesis of it is met, and both bakes show the same vertex. Assumes nothing.
use mathlib.Core.Path.{◌≡◌, refl, sym, ap}
use native.Mathlib.Omega.{arith}
use Rattle.float.specs.F32.{zero32}
use Rattle.model.specs.Bake.{Outcome, written}
use Rattle.bake.specs.declared.Answer.{Answer}
use Rattle.bake.specs.Baked.{Change, room_after, Baked}
use Rattle.bake.specs.Isolation.{SameLengths, NotRefusedEarly, SameShown}
use Rattle.bake.proofs.Isolated.{isolated}
use Rattle.witness.specs.Scenes.{vector, half32, four32}
use Rattle.witness.specs.Tables.{lent₁, lent₂, room₁, room₂}
use Rattle.witness.proofs.Agreed.{agree}
use Rattle.witness.proofs.Accepted.{accepted₁, accepted₂}

-- accepted, with one vertex, and four entries taken
abbrev pub answer : Answer
answer = record { number = 0; positions = 3; normals = 0; tangents = 0; taken = 4 }

abbrev pub change₁ : Change
change₁ = record { from = room₁; to = room_after lent₁ 2 half32 room₁ }

abbrev pub change₂ : Change
change₂ = record { from = room₂; to = room_after lent₂ 2 half32 room₂ }

pub baked₁ : Baked lent₁ 2 half32 change₁ answer
baked₁ = record { answer = sym (λ j. (accepted₁ j).answer); room = refl }

pub baked₂ : Baked lent₂ 2 half32 change₂ answer
baked₂ = record { answer = sym (λ j. (accepted₂ j).answer); room = refl }

pub lengths : SameLengths room₁ room₂
lengths = record {
  marks = refl;
  slots = refl;
  walk = refl;
  places = refl;
  worlds = refl;
  positions = refl;
  normals = refl;
  tangents = refl;
}

pub not-refused : NotRefusedEarly answer
not-refused p q = omega arith

-- what demand 3 says of them
pub same : SameShown answer answer change₁.to change₂.to
same =
    isolated lent₁ lent₂ 2 half32 change₁ change₂ answer answer baked₁ baked₂ lengths agree not-refused not-refused

-- the vertex (1, 0, 0), which the joint and the node above it have moved by 3
pub shown : change₁.to.output.positions ≡ vector four32 zero32 zero32
unfolding room_after
shown = ap (λ (o : Outcome). written o.output.positions room₁.output.positions) accepted₁
