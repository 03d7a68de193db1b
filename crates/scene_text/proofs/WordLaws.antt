-- How many words the records of a scene take. Assumes nothing.
use mathlib.Core.Path.{◌≡◌, refl, sym, ap, ◌∙◌}
use mathlib.Core.Bool.{Bool, true, false}
use mathlib.Core.List.{List}
use Prim.Native.Nat.{ℕ, zero, ◌+◌, ◌-◌, ◌*◌, ◌/◌, ◌≤◌, ◌<◌, min}
use native.Mathlib.Nat.{mul-zero, mul-le-mul_right, div-mul-le_self, div-lt_iff_lt-mul}
use native.Mathlib.Numerals.{add-one}
use native.Mathlib.Omega.{arith}
use borrow.Author.Tests.{lt-ltb, le-ltb, ltb-true, ltb-false}
use lib.Dec.{ltb}
use lib.ListN.{length, get_or, drop, drop_of_length-le}
use lib.Seq.{drop-cons}
use Rattle.scene_marks.specs.Marks.{stride_of}
use Rattle.spelling.specs.Pushed.{farthest}
use Rattle.scene_text.specs.Scanned.{words_of_counts, room_in}

-- ---- so many records more

-- records of no words
pub none_more : (sum count stride : ℕ) → stride ≡ 0 → sum ≤ farthest → sum ≡ min (sum + count * stride) farthest
none_more sum count stride e h =
    let z : count * stride ≡ 0 = ap (λ (s : ℕ). count * s) e ∙ mul-zero count in omega arith

-- as many as there is room for
pub in_reach : (sum count stride : ℕ) → sum ≤ farthest → count ≤ (farthest - sum) / stride
    → sum + count * stride ≤ farthest
in_reach sum count stride h l = omega (arith, mul-le-mul_right stride l, div-mul-le_self (farthest - sum) stride)

pub out-of-reach : (sum count stride : ℕ) → (stride ≡ 0 → ⊥) → sum ≤ farthest → (farthest - sum) / stride < count
    → farthest < sum + count * stride
out-of-reach sum count stride s h l =
    let q : zero < stride = omega arith in
    let m = (div-lt_iff_lt-mul {k = stride} {x = farthest - sum} {y = count} q).0 l in omega arith

-- ---- one kind of records after the other

-- the records of a kind, and those of the kinds behind it
pub kind-words : (k : ℕ) (ns : List ℕ) → k < length ns
    → words_of_counts k (drop k ns) ≡ get_or ns k 0 * stride_of k + words_of_counts (k + 1) (drop (k + 1) ns)
unfolding words_of_counts
kind-words k ns h = rw (add-one, drop-cons ns k 0)

-- a sum that stops at a number too large stops there however it goes on
pub stops : (sum n more r all : ℕ) → r ≡ min (sum + n) farthest → min (sum + (n + more)) farthest ≡ all
    → min (r + more) farthest ≡ all
stops sum n more r all e h = omega arith

pub no-kind-left : (k : ℕ) (ns : List ℕ) → length ns ≤ k → words_of_counts k (drop k ns) ≡ 0
unfolding words_of_counts
no-kind-left k ns h = rw (drop_of_length-le ns h)

-- each kind has its stride, and the first none
pub nine-kinds : (n : List ℕ) → length n ≡ 9
    → get_or n 1 0 * 16 + get_or n 2 0 * 8 + get_or n 3 0 * 4 + get_or n 4 0 * 16 + get_or n 5 0 * 12 + get_or n 6 0 * 8
    + get_or n 7 0 * 4 + get_or n 8 0 * 4 ≤ words_of_counts 0 n
nine-kinds n l =
    omega (
      arith,
      kind-words 0 n (omega arith),
      kind-words 1 n (omega arith),
      kind-words 2 n (omega arith),
      kind-words 3 n (omega arith),
      kind-words 4 n (omega arith),
      kind-words 5 n (omega arith),
      kind-words 6 n (omega arith),
      kind-words 7 n (omega arith),
      kind-words 8 n (omega arith),
    )

-- ---- what is short

-- of so few entries that their places are words, a slice is short by its length alone
pub few-short : (len n : ℕ) → n ≤ 0xffff_ffff → ltb len n ≡ ltb (room_in len) n
few-short len n h = go (ltb len n) refl
  where
    go : (t : Bool) → ltb len n ≡ t → t ≡ ltb (room_in len) n
    go true e = sym (lt-ltb (room_in len) n (let l = ltb-true len n e in omega arith))
    go false e = sym (le-ltb (room_in len) n (let l = ltb-false len n e in omega arith))
