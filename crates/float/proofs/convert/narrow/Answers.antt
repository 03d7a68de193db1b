use Rattle.std.proofs.Common.{◌≡◌, ℕ, ◌+◌, ◌-◌, ◌*◌, ◌/◌, ◌%◌, ◌^◌, ◌<◌, ◌≤◌, T, sym, refl, ap, ◌∙◌, subst, arith}
use lib.Bits.{bit_and, and_mask}
use lib.Ieee.{Float, nan, binary32, binary64, fits, to_bits, of_bits}
use lib.Ieee.Bits.{of_bits-to_bits, to_bits-lt}
use Rattle.float.specs.Narrow.{narrow_of}
use Rattle.float.specs.Patterns.{Narrows}
use Rattle.float.proofs.Classes.{is-nan, no_nan, made-nan}
use Rattle.float.proofs.Signs.{mag-le, pattern-ok, sign, sign-parts}
use Rattle.float.proofs.convert.narrow.Lts
use Rattle.float.proofs.convert.narrow.Reads
use Rattle.float.proofs.convert.narrow.Tie
use Rattle.float.proofs.convert.narrow.Goals as goal

abbrev Start : Type 0
Start = Lts.Start Tie.the-claims Reads.Pre Reads.Post

nan-narrowed : nan ≡ narrow_of nan
unfolding narrow_of
nan-narrowed = refl

held : (c : Start) → T (fits binary64 c.args.x)
held c = subst T (sym c.well_formed.0.1) tt

pub returns-then-x : goal.returns-then-x
returns-then-x c = made-nan binary32 ∙ nan-narrowed ∙ ap narrow_of (sym (is-nan c.args.x c.if-x.true))

pub float_to_bits-b : goal.float_to_bits-b
float_to_bits-b c = no_nan c.args.x c.if-x.false

-- the pattern of the argument, and that of the result without its sign
module _ (c : goal.After-narrow_bits-n) where
  x : Float
  x = c.args.x

  b : ℕ
  b = to_bits binary64 x

  r : ℕ
  r = c.narrow_bits-n.result

  b_lt : b < 2 ^ 64
  unfolding b x
  b_lt = to_bits-lt binary64 x (held c.before.before)

  same : bit_and b (2 ^ 63 - 1) ≡ b % 2 ^ 63
  same = and_mask b 63

  fact : Narrows (b % 2 ^ 63) r
  unfolding b x r
  fact = subst (λ (a : ℕ). Narrows a r) same c.narrow_bits-n.ensures

pub narrow_bits-n-requires : goal.narrow_bits-n-requires
narrow_bits-n-requires c =
    let x = c.args.x in
    subst (λ (a : ℕ). a ≤ 2047 * 2 ^ 52) (sym (and_mask (to_bits binary64 x) 63)) (mag-le binary64 x (held c.before) (no_nan x c.if-x.false))

pub overflow_mul-result : goal.overflow_mul-result
unfolding b x r
overflow_mul-result c = omega (arith, b_lt c)

pub overflow_add-result : goal.overflow_add-result
unfolding b x r
overflow_add-result c = omega (arith, b_lt c, (fact c).0)

pub overflow_cast-result : goal.overflow_cast-result
unfolding b x r
overflow_cast-result c = omega (arith, b_lt c, (fact c).0)

pub float_from_bits-result : goal.float_from_bits-result
unfolding b x r
float_from_bits-result c = pattern-ok (b c / 2 ^ 63 * 2 ^ 31 + r c) (r c) (rest (b c / 2 ^ 63) (r c) (fact c).0) (fact c).0
  where
    rest : (y z : ℕ) → z ≤ 255 * 2 ^ 23 → (y * 2 ^ 31 + z) % 2 ^ 31 ≡ z
    rest y z h = omega arith

pub returns : goal.returns
unfolding b x r
returns c =
    let p = sign-parts (b c) (b_lt c) in
    ap (λ (y : ℕ). of_bits binary32 (y + r c)) p.1
    ∙ (fact c).1 (sign (b c))
    ∙ ap (λ (y : ℕ). narrow_of (of_bits binary64 y)) p.0
    ∙ ap narrow_of (of_bits-to_bits binary64 (x c) (held c.before.before))
