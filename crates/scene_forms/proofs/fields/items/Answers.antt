use mathlib.Core.Path.{refl}
use Rattle.scene_forms.proofs.FieldLaws.{number_put, bits_put, ids-put, floats-put}
use Rattle.scene_forms.proofs.FieldLaws.{node-weights-put, mesh-weights-put}
use Rattle.scene_forms.proofs.fields.items.Goals as goal

pub returns-in-Number : goal.returns-in-Number
returns-in-Number c = record {
  same = (refl, refl, refl, refl);
  read = number_put c.in-Number.is c.read_numbers.ensures;
}

pub returns-in-Bits : goal.returns-in-Bits
returns-in-Bits c = record {
  same = (refl, refl, refl, refl);
  read = bits_put c.in-Bits.is c.read_floats.ensures;
}

pub returns-in-Ids : goal.returns-in-Ids
returns-in-Ids c = record {
  same = (refl, refl, refl, refl);
  read = ids-put c.in-Ids.is c.read_numbers-in-Ids.ensures;
}

pub returns-in-Floats : goal.returns-in-Floats
returns-in-Floats c = record {
  same = (refl, refl, refl, refl);
  read = floats-put c.in-Floats.is c.read_floats-in-Floats.ensures;
}

pub returns-in-NodeWeights : goal.returns-in-NodeWeights
returns-in-NodeWeights c = record {
  same = (refl, refl, refl, refl);
  read = node-weights-put c.in-NodeWeights.is c.read_floats-in-NodeWeights.ensures;
}

pub returns-in-MeshWeights : goal.returns-in-MeshWeights
returns-in-MeshWeights c = record {
  same = (refl, refl, refl, refl);
  read = mesh-weights-put c.in-MeshWeights.is c.read_floats-in-MeshWeights.ensures;
}
