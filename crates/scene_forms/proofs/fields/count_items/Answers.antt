use Rattle.scene_forms.proofs.fields.count_items.Goals as goal

pub overflow_add-result : goal.overflow_add-result
overflow_add-result c = record { fits = rw c.in-Ids.is at c.requires }

pub overflow_add-result-in-Floats : goal.overflow_add-result-in-Floats
overflow_add-result-in-Floats c = record { fits = rw c.in-Floats.is at c.requires }

pub overflow_add-result-in-NodeWeights : goal.overflow_add-result-in-NodeWeights
overflow_add-result-in-NodeWeights c = record { fits = rw c.in-NodeWeights.is at c.requires }

pub overflow_add-result-in-MeshWeights : goal.overflow_add-result-in-MeshWeights
overflow_add-result-in-MeshWeights c = record { fits = rw c.in-MeshWeights.is at c.requires }

pub returns-in-Ids : goal.returns-in-Ids
returns-in-Ids c = rw c.in-Ids.is

pub returns-in-Floats : goal.returns-in-Floats
returns-in-Floats c = rw c.in-Floats.is

pub returns-in-NodeWeights : goal.returns-in-NodeWeights
returns-in-NodeWeights c = rw c.in-NodeWeights.is

pub returns-in-MeshWeights : goal.returns-in-MeshWeights
returns-in-MeshWeights c = rw c.in-MeshWeights.is
