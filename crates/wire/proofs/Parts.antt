-- The words or floats of a part of a list of bytes are a part of those of the list. Assumes nothing.
use mathlib.Core.Path.{◌≡◌, sym, ap, ◌∙◌}
use mathlib.Core.List.{List}
use Prim.Native.Nat.{ℕ, ◌+◌, ◌*◌, ◌≤◌, ◌<◌}
use native.Mathlib.Omega.{arith}
use lib.ListN.{length, get_or, drop, length-take, length-drop}
use lib.Seq.{get_or-take, get_or-drop, ext_get_or}
use Rattle.model.specs.Lists.{part}
use Rattle.wire.specs.Bytes.{word_at, read_as}
use Rattle.wire.proofs.Reading.{count, entry}

module _ {A : Type 0} (f : ℕ → A) (bytes : List ℕ) (at n : ℕ) (inside : at * 4 + n * 4 ≤ length bytes) where
  abbrev own : List ℕ
  own = part bytes (at * 4) (n * 4)

  own-length : length own ≡ n * 4
  own-length = omega (arith, length-take (n * 4) (drop (at * 4) bytes), length-drop (at * 4) bytes)

  byte : (i j : ℕ) → i * 4 + j < n * 4 → get_or own (i * 4 + j) 0 ≡ get_or bytes ((at + i) * 4 + j) 0
  byte i j h =
      let e : at * 4 + (i * 4 + j) ≡ (at + i) * 4 + j = omega arith in
      get_or-take (n * 4) (drop (at * 4) bytes) (i * 4 + j) 0 h
      ∙ get_or-drop (at * 4) bytes (i * 4 + j) 0
      ∙ ap (λ (k : ℕ). get_or bytes k 0) e

  first_byte : (i : ℕ) → i < n → get_or own (i * 4) 0 ≡ get_or bytes ((at + i) * 4) 0
  first_byte i h =
      let e : at * 4 + i * 4 ≡ (at + i) * 4 = omega arith in
      get_or-take (n * 4) (drop (at * 4) bytes) (i * 4) 0 (omega arith)
      ∙ get_or-drop (at * 4) bytes (i * 4) 0
      ∙ ap (λ (k : ℕ). get_or bytes k 0) e

  word : (i : ℕ) → i < n → word_at own (i * 4) ≡ word_at bytes ((at + i) * 4)
  word i h = λ j.
      first_byte i h j
      + byte i 1 (omega arith) j * 256
      + byte i 2 (omega arith) j * 65536
      + byte i 3 (omega arith) j * 16777216

  pub part-read : read_as f own ≡ part (read_as f bytes) at n
  part-read =
      let few : length (read_as f own) ≡ n = omega (arith, count f own, own-length) in
      ext_get_or (f 0) (read_as f own) (part (read_as f bytes) at n)
      (omega (arith, few, length-take n (drop at (read_as f bytes)), length-drop at (read_as f bytes), count f bytes))
      (λ i h.
      entry f own i (f 0) (omega (arith, count f own))
      ∙ ap f (word i (omega (arith, few)))
      ∙ sym (entry f bytes (at + i) (f 0) (omega (arith, few)))
      ∙ sym (get_or-drop at (read_as f bytes) i (f 0))
      ∙ sym (get_or-take n (drop at (read_as f bytes)) i (f 0) (omega (arith, few))))
