-- One output of a bake, in floats and in bytes. Assumes nothing.
use mathlib.Core.Path.{◌≡◌, sym, ap, ◌∙◌}
use mathlib.Core.List.{List, ◌++◌, append_assoc}
use Prim.Native.Nat.{ℕ, ◌/◌, ◌≤◌, min}
use native.Mathlib.Omega.{arith}
use lib.Ieee.{Float, binary32, to_bits}
use lib.ListN.{length, take, drop, length-append, length-drop, take-append-drop}
use lib.Seq.{length-take-le, take_at, drop-append-le}
use Rattle.model.specs.Bake.{written}
use Rattle.wire.specs.Bytes.{WroteBytes, bytes_of}
use Rattle.wire.proofs.Writing.{bytes-length, all-written}
use Rattle.byte_baking.specs.Output.{with_floats, Fits}

-- the first n floats, written to bytes that have room for them
pub start-written : (n : ℕ) (floats : List Float) (lent left : List ℕ) (count : ℕ) → Fits n floats lent
    → WroteBytes (take n floats) lent left count → left ≡ with_floats (take n floats) lent
start-written n floats lent left count f w =
    (all-written (take n floats) lent left count w (omega (arith, length-take-le n floats f.there, f.room))).1
    ∙ (λ j. bytes_of (take n floats) ++ drop (sym (bytes-length (to_bits binary32) (take n floats)) j) lent)

-- a result in the first p floats of an output, p as many as both floats and bytes have
module _ (lent left : List Float) (bytes : List ℕ) (p : ℕ) (result : List Float) (n : ℕ) (e : p ≡ min (length lent) (length bytes / 4)) (w : left ≡ written result (take p lent)) (k : length left ≡ length (take p lent)) (m : n ≡ length result) where
  long : length (take p lent) ≡ p
  long = length-take-le p lent (omega (arith, e))

  few : length result ≤ p
  few = omega (arith, ap length w, length-append result (drop (length result) (take p lent)), length-drop (length result) (take p lent), k, long)

  pub whole : left ++ drop p lent ≡ written result lent
  whole =
      ap (λ (x : List Float). x ++ drop p lent) w
      ∙ append_assoc result (drop (length result) (take p lent)) (drop p lent)
      ∙ ap (λ (x : List Float). result ++ x)
      (sym (drop-append-le (length result) (take p lent) (drop p lent) (omega (arith, few, long))) ∙ ap (drop (length result)) (take-append-drop p lent))

  pub fits : Fits n (left ++ drop p lent) bytes
  fits = record {
    there = omega (arith, m, few, k, long, length-append left (drop p lent));
    room = omega (arith, m, few, e);
  }

  pub start : take n (left ++ drop p lent) ≡ result
  start = ap (take n) whole ∙ take_at result (drop (length result) lent) n (sym m)
