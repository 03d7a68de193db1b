-- A matrix in a flat slice, where it fits and where it does not. Assumes nothing.
use mathlib.Core.Path.{◌≡◌, sym, ap, ◌∙◌}
use mathlib.Core.Bool.{Bool, true, false}
use mathlib.Core.List.{List}
use Prim.Native.Nat.{ℕ, ◌+◌, ◌≤◌, ◌<◌}
use borrow.Author.Tests.{le-leb, lt-leb}
use lib.Ieee.{Float}
use lib.ListN.{length, replicate}
use lib.Seq.{paste}
use Rattle.float.specs.F32.{zero32}
use Rattle.model.specs.Lists.{pick, part}
use Rattle.model.specs.Matrix.{Matrix}
use Rattle.scene.specs.Slots.{matrix_in, Stored}

module _ (s : List Float) (at : ℕ) where
  pub lies_in : at + 16 ≤ length s → part s at 16 ≡ matrix_in s at
  unfolding matrix_in
  lies_in h = sym (ap (λ (b : Bool). pick b (part s at 16) (replicate 16 zero32)) (le-leb (at + 16) (length s) h))

  pub lies_out : length s < at + 16 → replicate 16 zero32 ≡ matrix_in s at
  unfolding matrix_in
  lies_out h = sym (ap (λ (b : Bool). pick b (part s at 16) (replicate 16 zero32)) (lt-leb (at + 16) (length s) h))

  pub stored : (m : Matrix) (left : List Float) → at + 16 ≤ length s → left ≡ paste s at m 16 → Stored s at m left true
  stored m left h e =
      let b = le-leb (at + 16) (length s) h in
      record { told = sym b; slice = e ∙ sym (ap (λ (t : Bool). pick t (paste s at m 16) s) b) }

  pub not-stored : (m : Matrix) → length s < at + 16 → Stored s at m s false
  not-stored m h =
      let b = lt-leb (at + 16) (length s) h in
      record { told = sym b; slice = sym (ap (λ (t : Bool). pick t (paste s at m 16) s) b) }
