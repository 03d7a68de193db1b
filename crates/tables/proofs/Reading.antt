-- Where a word of a record lies, and that past the words there is none. Assumes nothing.
use mathlib.Core.Path.{◌≡◌, sym, ap}
use mathlib.Core.List.{List}
use Prim.Native.Nat.{ℕ, ◌+◌, ◌-◌, ◌*◌, ◌/◌, ◌≤◌, ◌<◌}
use native.Mathlib.Nat.{le-div_iff_mul-le, div-lt_iff_lt-mul, add-mul}
use native.Mathlib.Omega.{arith}
use lib.ListN.{length, take, drop, get_or-eq_default}
use Rattle.tracks.specs.declared.Part.{Part}
use Rattle.tables.specs.Records.{word_of}

-- the record starts inside a table's words, or past them
pub starts-inside : (len at stride i : ℕ) → 0 < stride → at ≤ len → i ≤ (len - at) / stride → at + i * stride ≤ len
starts-inside len at stride i p h g = let e : i * stride ≤ len - at = (le-div_iff_mul-le p).0 g in omega arith

pub starts-past : (len at stride i : ℕ) → 0 < stride → at ≤ len → (len - at) / stride < i → len < at + i * stride
starts-past len at stride i p h g = let e : len - at < i * stride = (div-lt_iff_lt-mul p).0 g in omega arith

-- the record lies whole in the words
pub lies_whole : (len at stride i : ℕ) → 0 < stride → at ≤ len → i < (len - at) / stride → at + i * stride + stride ≤ len
lies_whole len at stride i p h g =
    let n : i + 1 ≤ (len - at) / stride = omega arith in
    let e : (i + 1) * stride ≤ len - at = (le-div_iff_mul-le p).0 n in
    omega (arith, add-mul i 1 stride)

pub cut : (words : List ℕ) (start stride : ℕ) → take (start + stride - start) (drop start words) ≡ take stride (drop start words)
cut words start stride = let e : start + stride - start ≡ stride = omega arith in ap (λ (n : ℕ). take n (drop start words)) e

pub no_word : (words : List ℕ) (t : Part) (stride i k : ℕ) → length words ≤ t.at + i * stride + k → 0 ≡ word_of words t stride i k
unfolding word_of
no_word words t stride i k h = sym (get_or-eq_default words 0 h)
