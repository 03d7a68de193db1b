use Rattle.std.proofs.Common.{◌≡◌, ℕ, ◌*◌, ◌%◌, ◌^◌, ◌≤◌, T, sym, refl, ap, ◌∙◌, subst}
use lib.Ieee.{Float, binary32, fits, to_bits, of_bits}
use lib.Ieee.Bits.{of_bits-to_bits, to_bits-lt}
use Rattle.float.specs.Sqrt.{sqrt_of}
use Rattle.float.proofs.Classes.{is-nan, no_nan, made-nan}
use Rattle.float.proofs.Signs.{mag-le, number_ok}
use Rattle.square_root.proofs.Rooting.{nan-root, zero-root, own_root, no-root}
use Rattle.square_root.proofs.root.any_root.Lts
use Rattle.square_root.proofs.root.any_root.Reads
use Rattle.square_root.proofs.root.any_root.Tie
use Rattle.square_root.proofs.root.any_root.Goals as goal

abbrev Start : Type 0
Start = Lts.Start Tie.the-claims Reads.Pre Reads.Post

held : (c : Start) → T (fits binary32 c.args.x)
held c = subst T (sym c.well_formed.0.1) tt

bits : (c : Start) → of_bits binary32 (to_bits binary32 c.args.x) ≡ c.args.x
bits c = of_bits-to_bits binary32 c.args.x (held c)

-- what holds of the bits is said of the float
own : (c : Start) (b : ℕ) → to_bits binary32 c.args.x ≡ b → of_bits binary32 b ≡ sqrt_of binary32 (of_bits binary32 b) → c.args.x ≡ sqrt_of binary32 c.args.x
own c b e h = subst (λ (v : Float). v ≡ sqrt_of binary32 v) (ap (of_bits binary32) (sym e) ∙ bits c) h

pub returns-then-x : goal.returns-then-x
returns-then-x c = let e = is-nan c.args.x c.if-x.true in subst (λ (v : Float). v ≡ sqrt_of binary32 v) (sym e) (sym nan-root)

pub float_to_bits-b : goal.float_to_bits-b
float_to_bits-b c = no_nan c.args.x c.if-x.false

pub returns-then-b-eq0 : goal.returns-then-b-eq0
returns-then-b-eq0 c = own c.before.before.before 0 c.if-b-eq0.true (sym zero-root)

pub float_from_bits-result : goal.float_from_bits-result
float_from_bits-result c = number_ok c.sqrt_bits-n.result c.sqrt_bits-n.ensures.0

pub returns-then-b-lt2139095040 : goal.returns-then-b-lt2139095040
returns-then-b-lt2139095040 c = c.sqrt_bits-n.ensures.1 ∙ ap (sqrt_of binary32) (bits c.before.before.before.before)

mag : (c : goal.Else-x) → to_bits binary32 c.args.x % 2 ^ 31 ≤ 255 * 2 ^ 23
mag c = mag-le binary32 c.args.x (held c.before) (no_nan c.args.x c.if-x.false)

pub returns-then-b-le2147483648 : goal.returns-then-b-le2147483648
returns-then-b-le2147483648 c = own c.before.before.before (to_bits binary32 c.args.x) refl (own_root (to_bits binary32 c.args.x) c.if-b-lt2139095040.false c.if-b-le2147483648.true (mag c.before.before))

pub returns : goal.returns
returns c =
    let s = c.before.before.before in
    made-nan binary32 ∙ sym (ap (sqrt_of binary32) (sym (bits s)) ∙ no-root (to_bits binary32 s.args.x) c.if-b-le2147483648.false (to_bits-lt binary32 s.args.x (held s)) (mag c.before.before))
