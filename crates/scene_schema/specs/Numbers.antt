-- The schema in numbers, sixteen places a kind; crates/scene_schema/proofs/Numbers.antt proves that it is the schema.
-- Definitions only.
use Rattle.std.specs.Prelude.{Bool, true, false, List, [], ◌∷◌, ℕ}
use Prim.Native.String.{String}
use Rattle.model.specs.Lists.{pick}
use Rattle.grammar.specs.Digits.{Sort, numbers, floats}
use Rattle.grammar.specs.Forms.{Size, exactly, entries_of}
use Rattle.scene_schema.specs.declared.Name.{Name}
use Rattle.scene_schema.specs.Schema.{bytes}
use Rattle.scene_schema.specs.declared.Rule.{Rule}
use Rattle.scene_schema.specs.declared.Pool.{Pool}
use Rattle.scene_schema.specs.declared.Pool.TheVariants as pool

-- a title or a name: a code, and letters
pub record Named : Type 0 where
  pub code : ℕ
  pub letters : List ℕ

abbrev n : ℕ → String → Named
n code s = record { code = code; letters = bytes s }

abbrev pub named : Name → Named
named name = record { code = name.code; letters = name.letters.now }

abbrev r : Bool → ℕ → ℕ → Pool → Rule
r fixed width one_of pool = record { fixed = fixed; width = width; one_of = one_of; pool = pool }

abbrev pub size_for : Rule → Size
size_for rule = pick rule.fixed (exactly rule.width) (entries_of rule.width)

-- the sort of the items that go to a pool
abbrev pub sort_of : Pool → Sort
sort_of pool.Number = numbers
sort_of pool.Bits = floats
sort_of pool.Ids = numbers
sort_of pool.Floats = floats
sort_of pool.NodeWeights = floats
sort_of pool.MeshWeights = floats

abbrev pub no_name : Named
no_name = n 0 ""

abbrev pub no_rule : Rule
no_rule = r true 0 0 pool.Number

abbrev pub titles : List Named
titles =
    n 839294 "scene" ∷ n 30942 "node" ∷ n 203061221 "channel" ∷ n 28353 "mesh" ∷ n 41647526654 "primitive" ∷
    n 14332141 "target" ∷ n 200085223 "between" ∷ n 50215 "skin" ∷ n 3303402887 "skeleton" ∷ []

abbrev pub slot_counts : List ℕ
slot_counts = 3 ∷ 6 ∷ 12 ∷ 2 ∷ 6 ∷ 4 ∷ 3 ∷ 2 ∷ 2 ∷ []

abbrev pub strides : List ℕ
strides = 0 ∷ 16 ∷ 8 ∷ 4 ∷ 16 ∷ 12 ∷ 8 ∷ 4 ∷ 4 ∷ []

abbrev pub slot_names : List Named
slot_names =
    n 30942 "node" ∷ n 53870 "time" ∷ n 755932 "roots" ∷ no_name ∷ no_name ∷ no_name ∷ no_name ∷ no_name ∷ no_name ∷
    no_name ∷ no_name ∷ no_name ∷ no_name ∷ no_name ∷ no_name ∷ no_name ∷ n 633820 "parts" ∷ n 7002913 "matrix" ∷
    n 3240483815 "children" ∷ n 28353 "mesh" ∷ n 50215 "skin" ∷ n 14811612 "weights" ∷ no_name ∷ no_name ∷ no_name ∷
    no_name ∷ no_name ∷ no_name ∷ no_name ∷ no_name ∷ no_name ∷ no_name ∷ n 14332141 "target" ∷
    n 45035999879 "translation" ∷ n 3101348487 "rotation" ∷ n 838238 "scale" ∷ n 14811612 "weights" ∷
    n 52713 "step" ∷ n 5406379 "linear" ∷ n 47996031614 "cubicspline" ∷ n 20012 "keys" ∷ n 65219 "vec3" ∷
    n 44717 "quat" ∷ n 13411755 "scalar" ∷ no_name ∷ no_name ∷ no_name ∷ no_name ∷ n 47885135852 "primitives" ∷
    n 14811612 "weights" ∷ no_name ∷ no_name ∷ no_name ∷ no_name ∷ no_name ∷ no_name ∷ no_name ∷ no_name ∷ no_name ∷
    no_name ∷ no_name ∷ no_name ∷ no_name ∷ no_name ∷ n 41006475388 "positions" ∷ n 126577244 "normals" ∷
    n 3664832476 "tangents" ∷ n 3680220 "joints" ∷ n 14811612 "weights" ∷ n 229314268 "targets" ∷ no_name ∷
    no_name ∷ no_name ∷ no_name ∷ no_name ∷ no_name ∷ no_name ∷ no_name ∷ no_name ∷ no_name ∷
    n 41006475388 "positions" ∷ n 126577244 "normals" ∷ n 3664832476 "tangents" ∷ n 3201363580 "betweens" ∷
    no_name ∷ no_name ∷ no_name ∷ no_name ∷ no_name ∷ no_name ∷ no_name ∷ no_name ∷ no_name ∷ no_name ∷ no_name ∷
    no_name ∷ n 925725 "weight" ∷ n 41006475388 "positions" ∷ n 126577244 "normals" ∷ no_name ∷ no_name ∷ no_name ∷
    no_name ∷ no_name ∷ no_name ∷ no_name ∷ no_name ∷ no_name ∷ no_name ∷ no_name ∷ no_name ∷ no_name ∷
    n 3303402887 "skeleton" ∷ n 47245 "root" ∷ no_name ∷ no_name ∷ no_name ∷ no_name ∷ no_name ∷ no_name ∷ no_name ∷
    no_name ∷ no_name ∷ no_name ∷ no_name ∷ no_name ∷ no_name ∷ no_name ∷ n 3680220 "joints" ∷ n 731100 "binds" ∷
    no_name ∷ no_name ∷ no_name ∷ no_name ∷ no_name ∷ no_name ∷ no_name ∷ no_name ∷ no_name ∷ no_name ∷ no_name ∷
    no_name ∷ no_name ∷ no_name ∷ []

abbrev pub slot_rules : List Rule
slot_rules =
    r true 1 1 pool.Number ∷ r true 1 1 pool.Bits ∷ r false 1 1 pool.Ids ∷ no_rule ∷ no_rule ∷ no_rule ∷ no_rule ∷
    no_rule ∷ no_rule ∷ no_rule ∷ no_rule ∷ no_rule ∷ no_rule ∷ no_rule ∷ no_rule ∷ no_rule ∷
    r true 10 2 pool.Floats ∷ r true 16 0 pool.Floats ∷ r false 1 1 pool.Ids ∷ r true 1 0 pool.Number ∷
    r true 1 0 pool.Number ∷ r false 1 0 pool.NodeWeights ∷ no_rule ∷ no_rule ∷ no_rule ∷ no_rule ∷ no_rule ∷ no_rule ∷
    no_rule ∷ no_rule ∷ no_rule ∷ no_rule ∷
    r true 1 1 pool.Number ∷ r true 0 4 pool.Number ∷ r true 0 0 pool.Number ∷ r true 0 0 pool.Number ∷
    r true 0 0 pool.Number ∷ r true 0 3 pool.Number ∷ r true 0 0 pool.Number ∷ r true 0 0 pool.Number ∷
    r false 1 1 pool.Floats ∷ r false 3 3 pool.Floats ∷ r false 4 0 pool.Floats ∷ r false 1 0 pool.Floats ∷ no_rule ∷
    no_rule ∷ no_rule ∷ no_rule ∷
    r true 2 1 pool.Number ∷ r false 1 1 pool.MeshWeights ∷ no_rule ∷ no_rule ∷ no_rule ∷ no_rule ∷ no_rule ∷ no_rule ∷
    no_rule ∷ no_rule ∷ no_rule ∷ no_rule ∷ no_rule ∷ no_rule ∷ no_rule ∷ no_rule ∷
    r false 3 1 pool.Floats ∷ r false 3 0 pool.Floats ∷ r false 4 0 pool.Floats ∷ r false 4 0 pool.Ids ∷
    r false 4 0 pool.Floats ∷ r true 2 1 pool.Number ∷ no_rule ∷ no_rule ∷ no_rule ∷ no_rule ∷ no_rule ∷ no_rule ∷ no_rule ∷
    no_rule ∷ no_rule ∷ no_rule ∷
    r false 3 0 pool.Floats ∷ r false 3 0 pool.Floats ∷ r false 3 0 pool.Floats ∷ r true 2 1 pool.Number ∷ no_rule ∷
    no_rule ∷ no_rule ∷ no_rule ∷ no_rule ∷ no_rule ∷ no_rule ∷ no_rule ∷ no_rule ∷ no_rule ∷ no_rule ∷ no_rule ∷
    r true 1 1 pool.Floats ∷ r false 3 0 pool.Floats ∷ r false 3 0 pool.Floats ∷ no_rule ∷ no_rule ∷ no_rule ∷ no_rule ∷
    no_rule ∷ no_rule ∷ no_rule ∷ no_rule ∷ no_rule ∷ no_rule ∷ no_rule ∷ no_rule ∷ no_rule ∷
    r true 1 1 pool.Number ∷ r true 1 0 pool.Number ∷ no_rule ∷ no_rule ∷ no_rule ∷ no_rule ∷ no_rule ∷ no_rule ∷ no_rule ∷
    no_rule ∷ no_rule ∷ no_rule ∷ no_rule ∷ no_rule ∷ no_rule ∷ no_rule ∷
    r false 1 1 pool.Ids ∷ r false 16 1 pool.Floats ∷ no_rule ∷ no_rule ∷ no_rule ∷ no_rule ∷ no_rule ∷ no_rule ∷ no_rule ∷
    no_rule ∷ no_rule ∷ no_rule ∷ no_rule ∷ no_rule ∷ no_rule ∷ no_rule ∷ []
