-- The bits of a float, read and written, are the bits. Assumes nothing.
use mathlib.Core.Path.{◌≡◌, refl, sym, ap, subst, ◌∙◌}
use mathlib.Core.Bool.{Bool, true, false, not, ◌||◌}
use mathlib.Core.List.{List, [], ◌∷◌}
use Prim.Native.Nat.{ℕ, ◌%◌, ◌<◌}
use borrow.Author.Tests.{leb-true, leb-false}
use lib.Dec.{T, leb, eqb, eqb→eq}
use lib.Ieee.{binary32, of_bits, to_bits}
use lib.Ieee.Bits.{to_bits-of_bits, nan_bits_is}
use Rattle.float.proofs.Classes.{nan_pattern, number-pattern, nan-bits}
use Rattle.model.specs.Lists.{every}
use Rattle.grammar.specs.Forms.{Small}
use Rattle.grammar.specs.Shape.{is_float}
use Rattle.grammar.proofs.Words.{both}
use Rattle.scene_forms.specs.Filled.{reals_of}
use Rattle.scene_spelling.specs.Written.{bits_of}

pub float-kept : (w : ℕ) → w < 0x1_0000_0000 → T (is_float w) → to_bits binary32 (of_bits binary32 w) ≡ w
float-kept w small = go (leb (w % 0x8000_0000) 0x7f80_0000) refl
  where
    go : (b : Bool) → leb (w % 0x8000_0000) 0x7f80_0000 ≡ b → T (b || eqb w 0x7fc0_0000)
        → to_bits binary32 (of_bits binary32 w) ≡ w
    go true e h =
        to_bits-of_bits binary32 w small
        (subst (λ (b : Bool). T (not b)) (nan_bits_is binary32 w)
        (number-pattern binary32 w (leb-true (w % 0x8000_0000) 0x7f80_0000 e)))
    go false e h =
        ap (to_bits binary32) (nan_pattern binary32 w (leb-false (w % 0x8000_0000) 0x7f80_0000 e))
        ∙ nan-bits
        ∙ sym (eqb→eq w 0x7fc0_0000 h)

pub floats-kept : (xs : List ℕ) → Small xs → T (every is_float xs) → bits_of (reals_of xs) ≡ xs
unfolding every
floats-kept [] s h = refl
floats-kept (x ∷ xs) s h =
    let t = both (is_float x) (every is_float xs) h in
    λ i. float-kept x s.0 t.0 i ∷ floats-kept xs s.1 t.1 i
