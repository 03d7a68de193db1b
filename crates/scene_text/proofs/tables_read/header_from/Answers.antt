use mathlib.Core.Path.{◌≡◌}
use mathlib.Core.List.{List}
use Prim.Native.Nat.{ℕ, ◌+◌, ◌*◌, ◌≤◌}
use native.Mathlib.Omega.{arith}
use lib.ListN.{length, get_or}
use Rattle.scene_text.specs.Scanned.{words_of_counts}
use Rattle.scene_text.proofs.WordLaws.{nine-kinds}
use Rattle.scene_text.proofs.tables_read.header_from.Goals as goal

-- no sum of them is too large
words : (at : ℕ) (n : List ℕ) → length n ≡ 9 → at + words_of_counts 0 n ≤ 0xffff_ffff
    → at + (get_or n 1 0 * 16 + get_or n 2 0 * 8 + get_or n 3 0 * 4 + get_or n 4 0 * 16 + get_or n 5 0 * 12
    + get_or n 6 0 * 8 + get_or n 7 0 * 4 + get_or n 8 0 * 4) ≤ 0xffff_ffff
words at n l h = omega (arith, nine-kinds n l)

pub returns : goal.returns
returns c =
    λ i. record {
      graph = record { nodes = c.part.ensures i; roots = c.part-2.ensures i };
      channels = c.part-3.ensures i;
      meshes = record {
        meshes = c.part-4.ensures i;
        primitives = c.part-5.ensures i;
        targets = c.part-6.ensures i;
        in_betweens = c.part-7.ensures i;
      };
      skins = record { skins = c.part-8.ensures i; skeletons = c.part-9.ensures i };
    }

pub overflow_mul-channels : goal.overflow_mul-channels
overflow_mul-channels c = omega (arith, words c.args.at c.args.n (omega arith) c.requires)

pub overflow_add-channels : goal.overflow_add-channels
overflow_add-channels c = omega (arith, words c.args.at c.args.n (omega arith) c.requires)

pub overflow_mul-meshes : goal.overflow_mul-meshes
overflow_mul-meshes c = omega (arith, words c.args.at c.args.n (omega arith) c.requires)

pub overflow_add-meshes : goal.overflow_add-meshes
overflow_add-meshes c = omega (arith, words c.args.at c.args.n (omega arith) c.requires)

pub overflow_mul-primitives : goal.overflow_mul-primitives
overflow_mul-primitives c = omega (arith, words c.args.at c.args.n (omega arith) c.requires)

pub overflow_add-primitives : goal.overflow_add-primitives
overflow_add-primitives c = omega (arith, words c.args.at c.args.n (omega arith) c.requires)

pub overflow_mul-targets : goal.overflow_mul-targets
overflow_mul-targets c = omega (arith, words c.args.at c.args.n (omega arith) c.requires)

pub overflow_add-targets : goal.overflow_add-targets
overflow_add-targets c = omega (arith, words c.args.at c.args.n (omega arith) c.requires)

pub overflow_mul-in_betweens : goal.overflow_mul-in_betweens
overflow_mul-in_betweens c = omega (arith, words c.args.at c.args.n (omega arith) c.requires)

pub overflow_add-in_betweens : goal.overflow_add-in_betweens
overflow_add-in_betweens c = omega (arith, words c.args.at c.args.n (omega arith) c.requires)

pub overflow_mul-skins : goal.overflow_mul-skins
overflow_mul-skins c = omega (arith, words c.args.at c.args.n (omega arith) c.requires)

pub overflow_add-skins : goal.overflow_add-skins
overflow_add-skins c = omega (arith, words c.args.at c.args.n (omega arith) c.requires)

pub overflow_mul-skeletons : goal.overflow_mul-skeletons
overflow_mul-skeletons c = omega (arith, words c.args.at c.args.n (omega arith) c.requires)

pub overflow_add-skeletons : goal.overflow_add-skeletons
overflow_add-skeletons c = omega (arith, words c.args.at c.args.n (omega arith) c.requires)
