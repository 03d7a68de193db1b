-- All listings of 1, 2 or 3 nodes with rising child lists and no repeats: 2026-13. A checksum of where each node is placed and of the entries
-- taken, by computation. Assumes nothing.
use mathlib.Core.Path.{◌≡◌, refl}
use mathlib.Core.List.{List, [], ◌∷◌, map}
use mathlib.Core.Option.{none}
use Prim.Native.Nat.{ℕ, zero, suc, ◌+◌, ◌*◌, ◌/◌, ◌%◌, ◌^◌}
use Rattle.model.specs.Lists.{foldl, sum_of, tabulate, row}
use Rattle.model.specs.Transform.{matrix}
use Rattle.model.specs.Scene.{Scene, Node}
use Rattle.model.specs.Placing.{Place, unplaced, root, below, listed, walk, placed_of, trace, order, places, taken}

-- the binary digits of k, n of them, the top one first
unfoldable pub digits : ℕ → ℕ → List ℕ
digits zero k = []
digits (suc n) k = k / 2 ^ n % 2 ∷ digits n k

-- the ids from i on whose digit is 1
unfoldable pub ids : ℕ → List ℕ → List ℕ
ids i [] = []
ids i (zero ∷ ds) = ids (suc i) ds
ids i (suc d ∷ ds) = i ∷ ids (suc i) ds

abbrev pub lister : List ℕ → Node
lister l = record { base = matrix []; children = l; mesh = none; skin = none; weights = none }

-- listing k of n nodes: a digit for each node, whether it is a root, then for each node a digit for each id, whether the node lists it
unfoldable pub listing : ℕ → ℕ → Scene
listing n k =
    let ds = digits (n + n * n) k in
    record { nodes = tabulate n (λ i. lister (ids 0 (row n ds (suc i)))); roots = ids 0 (row n ds 0); tracks = []; meshes = []; skins = []; skeletons = [] }

abbrev pub code : Place → ℕ
code unplaced = 0
code root = 1
code (below p) = p + 2

abbrev pub mix : ℕ → ℕ → ℕ
mix c x = (c * 31 + x) % 4294967296

-- the code of each node's place, then the entries taken
abbrev pub mix_scene : ℕ → Scene → ℕ
mix_scene c s = mix (foldl mix c (map code (places s))) (taken s)

-- the first m listings of n nodes
unfoldable pub mix_listings : ℕ → ℕ → ℕ → ℕ
mix_listings n c zero = c
mix_listings n c (suc m) = mix_scene (mix_listings n c m) (listing n m)

-- all listings of n nodes
abbrev pub mix_all : ℕ → ℕ → ℕ
mix_all c n = mix_listings n c (2 ^ (n + n * n))

pub all_small : mix_all (mix_all (mix_all 7 1) 2) 3 ≡ 1932848604
unfolding mix_listings listing ids digits tabulate foldl sum_of listed walk placed_of trace order taken
all_small = refl
