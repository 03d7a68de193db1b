-- A node's transform: translation, rotation and scale, or a matrix (glTF 2.0, 3.5.3), and the way from one to the
-- other. The order of operations is that of scene.rs. Definitions only.
use Rattle.std.specs.Prelude.{List, [], ◌∷◌, Bool, ◌&&◌, Float, take}
use Rattle.std.specs.Float.{binary32}
use Rattle.std.specs.Float.Ieee.{lt}
use Rattle.float.specs.F32.{◌⊕◌, ◌⊖◌, ◌⊗◌, ◌⊘◌, f32, zero32, one32, two32}
use Rattle.float.specs.Sqrt.{sqrt_of}
use Rattle.model.specs.Lists.{pick}
use Rattle.model.specs.Vector.{Vector, at, ◌⊙◌, norm}
use Rattle.model.specs.Matrix.{Matrix, entry, column, bottom_row}

pub record Trs : Type 0 where
  pub translation : Vector
  pub rotation : Vector
  pub scale : Vector

pub data Transform : Type 0 where
  parts : Trs → Transform
  matrix : Matrix → Transform

abbrev one_less_twice : Float → Float → Float
one_less_twice a b = one32 ⊖ two32 ⊗ (a ⊕ b)

-- the matrix of a translation, a rotation by the quaternion (x, y, z, w) and a scale (`trs_to_matrix`)
unfoldable pub from_trs : Trs → Matrix
from_trs p =
    let x = at p.rotation 0 in
    let y = at p.rotation 1 in
    let z = at p.rotation 2 in
    let w = at p.rotation 3 in
    let sx = at p.scale 0 in let sy = at p.scale 1 in let sz = at p.scale 2 in
    one_less_twice (y ⊗ y) (z ⊗ z) ⊗ sx ∷ two32 ⊗ (x ⊗ y ⊖ w ⊗ z) ⊗ sy ∷ two32 ⊗ (x ⊗ z ⊕ w ⊗ y) ⊗ sz
    ∷ at p.translation 0
    ∷ two32 ⊗ (x ⊗ y ⊕ w ⊗ z) ⊗ sx ∷ one_less_twice (x ⊗ x) (z ⊗ z) ⊗ sy ∷ two32 ⊗ (y ⊗ z ⊖ w ⊗ x) ⊗ sz
    ∷ at p.translation 1
    ∷ two32 ⊗ (x ⊗ z ⊖ w ⊗ y) ⊗ sx ∷ two32 ⊗ (y ⊗ z ⊕ w ⊗ x) ⊗ sy ∷ one_less_twice (x ⊗ x) (y ⊗ y) ⊗ sz
    ∷ at p.translation 2
    ∷ bottom_row

unfoldable pub to_matrix : Transform → Matrix
to_matrix (parts p) = from_trs p
to_matrix (matrix m) = m

abbrev quarter : Float
quarter = f32 0x3e80_0000

-- ---- a matrix split into translation, rotation and scale (`from_matrix`)

-- what takes the length s out of a column: 1 / s, or 1 where s is not above f32's EPSILON, 2 ^ -23
unfoldable pub length_factor : Float → Float
length_factor s = pick (lt (f32 0x3400_0000) s) (one32 ⊘ s) one32

abbrev pub direction : Vector → Vector
direction c = length_factor (norm c) ⊙ c

-- the quaternion of a rotation by its columns a, b and c, from s: four times its w, x, y or z
abbrev pub from_w : Vector → Vector → Vector → Float → Vector
from_w a b c s = (at b 2 ⊖ at c 1) ⊘ s ∷ (at c 0 ⊖ at a 2) ⊘ s ∷ (at a 1 ⊖ at b 0) ⊘ s ∷ quarter ⊗ s ∷ []

abbrev pub from_x : Vector → Vector → Vector → Float → Vector
from_x a b c s = quarter ⊗ s ∷ (at b 0 ⊕ at a 1) ⊘ s ∷ (at c 0 ⊕ at a 2) ⊘ s ∷ (at b 2 ⊖ at c 1) ⊘ s ∷ []

abbrev pub from_y : Vector → Vector → Vector → Float → Vector
from_y a b c s = (at b 0 ⊕ at a 1) ⊘ s ∷ quarter ⊗ s ∷ (at c 1 ⊕ at b 2) ⊘ s ∷ (at c 0 ⊖ at a 2) ⊘ s ∷ []

abbrev pub from_z : Vector → Vector → Vector → Float → Vector
from_z a b c s = (at c 0 ⊕ at a 2) ⊘ s ∷ (at c 1 ⊕ at b 2) ⊘ s ∷ quarter ⊗ s ∷ (at a 1 ⊖ at b 0) ⊘ s ∷ []

abbrev pub twice_root : Float → Float
twice_root x = sqrt_of binary32 x ⊗ two32

-- by the trace where that is above 0, else by the largest number on the diagonal (`rot_matrix_to_quat`)
unfoldable pub quaternion : Vector → Vector → Vector → Vector
quaternion a b c =
    let x = at a 0 in let y = at b 1 in let z = at c 2 in
    pick (lt zero32 (x ⊕ y ⊕ z)) (from_w a b c (twice_root (x ⊕ y ⊕ z ⊕ one32)))
    (pick (lt y x && lt z x) (from_x a b c (twice_root (one32 ⊕ x ⊖ y ⊖ z)))
    (pick (lt z y) (from_y a b c (twice_root (one32 ⊕ y ⊖ x ⊖ z)))
    (from_z a b c (twice_root (one32 ⊕ z ⊖ x ⊖ y)))))

-- the scale is the three lengths, which are never negative: a mirror is lost
unfoldable pub split : Matrix → Trs
split m =
    let a = take 3 (column m 0) in let b = take 3 (column m 1) in let c = take 3 (column m 2) in
    record {
      translation = take 3 (column m 3);
      rotation = quaternion (direction a) (direction b) (direction c);
      scale = norm a ∷ norm b ∷ norm c ∷ [];
    }

abbrev pub parts_of : Transform → Trs
parts_of (parts p) = p
parts_of (matrix m) = split m
