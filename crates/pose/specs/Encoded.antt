-- The poses of all nodes in lent slots, and how one channel changes a slot. Definitions only.
use Rattle.std.specs.Prelude.{◌≡◌, Bool, ◌&&◌, List, [], ◌∷◌, ◌++◌, ℕ, zero, suc, ◌+◌, ◌*◌, eqb, ltb, Float, get_or, drop}
use Rattle.std.proofs.Math.Option.{Option, none}
use Rattle.std.proofs.Math.ListN.{get_elem?}
use Rattle.std.proofs.Math.Seq.{paste}
use Rattle.borrowed.specs.Slices.{Words, Floats, Change}
use Rattle.model.specs.Lists.{pick, is_some, and_then}
use Rattle.model.specs.Scene.{Track, node_count}
use Rattle.model.specs.Sampling.{sample}
use Rattle.model.specs.Pose.{Pose, at_rest, drive, poses}
use Rattle.model.specs.Refusals.{pose_number}
use Rattle.tables.specs.Decoded.{Lent, scene_of}
use Rattle.checks.specs.Drawn.{tables_number}
use Rattle.pose_slots.specs.Slots.{room, pose_in, words_of, floats_of}

-- the first n rows, one after the other
unfoldable pub rows_of : {A : Type 0} → ℕ → (ℕ → List A) → List A
rows_of zero f = []
rows_of (suc n) f = rows_of n f ++ f n

-- ---- the weights

abbrev pub gives_weights : Float → Track → Bool
gives_weights time t = is_some (drive time at_rest t).weights

unfoldable pub standing_from : Float → ℕ → ℕ → ℕ → List Track → ℕ
standing_from time i k w [] = w
standing_from time i k w (t ∷ ts) =
    standing_from time i (suc k) (pick (eqb t.target i && gives_weights time t) (suc k) w) ts

-- 1 + the index of the last channel that is aimed at node i and gives it weights, or 0
abbrev pub standing : Float → ℕ → List Track → ℕ
standing time i tracks = standing_from time i 0 0 tracks

-- the weights that such a word stands for
abbrev pub weights_by : Float → List Track → ℕ → Option (List Float)
weights_by time tracks zero = none
weights_by time tracks (suc k) = and_then (get_elem? tracks k) (λ t. sample t time)

-- ---- all nodes: four words and ten floats each, the rest as lent

unfoldable pub encoded_words : Float → ℕ → List Track → List ℕ → List ℕ
encoded_words time n tracks lent =
    rows_of n (λ i. words_of (get_or (poses time n tracks) i at_rest) (standing time i tracks)) ++ drop (n * 4) lent

unfoldable pub encoded_floats : Float → ℕ → List Track → List Float → List Float
encoded_floats time n tracks lent = rows_of n (λ i. floats_of (get_or (poses time n tracks) i at_rest)) ++ drop (n * 10) lent

-- both slices after channels have driven n nodes
abbrev pub Encoded : List Track → Float → ℕ → Words → Floats → Type 0
Encoded tracks time n marks slots =
    (marks.exit.now ≡ encoded_words time n tracks marks.entry.now)
    × (slots.exit.now ≡ encoded_floats time n tracks slots.entry.now)

-- slots for n nodes in which nothing is posed
abbrev pub cleared_words : ℕ → List ℕ → List ℕ
cleared_words n lent = rows_of n (λ i. words_of at_rest 0) ++ drop (n * 4) lent

abbrev pub cleared_floats : ℕ → List Float → List Float
cleared_floats n lent = rows_of n (λ i. floats_of at_rest) ++ drop (n * 10) lent

abbrev pub Cleared : ℕ → Words → Floats → Type 0
Cleared n marks slots =
    (marks.exit.now ≡ cleared_words n marks.entry.now)
    × (slots.exit.now ≡ cleared_floats n slots.entry.now)

-- ---- one channel, number k

abbrev pub driven : Float → Track → List ℕ → List Float → Pose
driven time t marks slots = drive time (pose_in marks slots t.target) t

abbrev pub driven_word : Float → Track → ℕ → List ℕ → ℕ
driven_word time t k marks = pick (gives_weights time t) (k + 1) (get_or marks (t.target * 4 + 3) 0)

-- the slices after it
pub record Driven (time : Float) (n k : ℕ) (t : Track) (marks : List ℕ) (slots : List Float) (marks' : List ℕ)
    (slots' : List Float) : Type 0 where
  pub words :
      marks'
      ≡ pick (ltb t.target n)
      (paste marks (t.target * 4) (words_of (driven time t marks slots) (driven_word time t k marks)) 4) marks
  pub floats :
      slots'
      ≡ pick (ltb t.target n) (paste slots (t.target * 10) (floats_of (driven time t marks slots)) 10) slots

abbrev pub DrivenIn : Float → ℕ → ℕ → Track → Words → Floats → Type 0
DrivenIn time n k t marks slots =
    Driven time n k t marks.entry.now slots.entry.now marks.exit.now slots.exit.now

-- ---- the call: its number, and the slices that it leaves, as lent where it is refused

abbrev pub when_accepted : {A : Type 0} → ℕ → A → A → A
when_accepted zero new lent = new
when_accepted (suc n) new lent = lent

abbrev pub pose_number_for : Lent → Float → ℕ → ℕ
pose_number_for l time slots = pose_number (tables_number l) (scene_of l) time slots

pub record Posed (l : Lent) (time : Float) (marks : Change (List ℕ)) (slots : Change (List Float)) (number : ℕ)
    : Type 0 where
  pub told : number ≡ pose_number_for l time (room marks.from slots.from)
  pub words :
      marks.to
      ≡ when_accepted number (encoded_words time (node_count (scene_of l)) (scene_of l).tracks marks.from) marks.from
  pub floats :
      slots.to
      ≡ when_accepted number (encoded_floats time (node_count (scene_of l)) (scene_of l).tracks slots.from) slots.from
