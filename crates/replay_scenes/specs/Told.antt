-- What a call answered and left, beside the fields from a place on. Definitions only.
use Rattle.std.specs.Prelude.{true, List, ℕ, Float}
use Rattle.lists.specs.Checked.{Checked, number_next, words_next, floats_next}

-- one number, and two
abbrev pub number_told : List ℕ → ℕ → ℕ → Checked
number_told fields at number = number_next fields (record { same = true; at = at }) number

abbrev pub numbers_told : List ℕ → ℕ → ℕ → ℕ → Checked
numbers_told fields at number other = number_next fields (number_told fields at number) other

-- the number of `parents`, and its output
abbrev pub parents_told : List ℕ → ℕ → ℕ → List ℕ → Checked
parents_told fields at number out = words_next fields (number_told fields at number) out 8

-- the number of `sample_pose`, its marks and its slots
abbrev pub pose_told : List ℕ → ℕ → ℕ → List ℕ → List Float → Checked
pose_told fields at number marks slots =
    floats_next fields (words_next fields (number_told fields at number) marks 32) slots 80

-- number and entries taken of `posed_node_transforms`, the walk room, the places and the worlds
abbrev pub places_told : List ℕ → ℕ → ℕ → ℕ → List ℕ → List ℕ → List Float → Checked
places_told fields at number taken walk places worlds =
    let walked = words_next fields (numbers_told fields at number taken) walk 64 in
    floats_next fields (words_next fields walked places 8) worlds 128

-- number and length of a palette, and the palette
abbrev pub palette_told : List ℕ → ℕ → ℕ → ℕ → List Float → Checked
palette_told fields at number length out = floats_next fields (numbers_told fields at number length) out 64

-- the number of a node's weights, and the weights
abbrev pub weights_told : List ℕ → ℕ → ℕ → List Float → Checked
weights_told fields at number weights = floats_next fields (number_told fields at number) weights 64

-- the three outputs of vertices
abbrev pub vertices_told : List ℕ → ℕ → List Float → List Float → List Float → Checked
vertices_told fields at positions normals tangents =
    let moved = floats_next fields (record { same = true; at = at }) positions 64 in
    floats_next fields (floats_next fields moved normals 64) tangents 64
