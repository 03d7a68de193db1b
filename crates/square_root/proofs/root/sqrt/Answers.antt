use Rattle.std.proofs.Common.{◌≡◌, ℕ, ◌+◌, ◌*◌, ◌/◌, ◌^◌, ◌<◌, ◌≤◌, T, sym, ap, ◌∙◌, subst, le_of_lt, mul-le-mul, arith}
use lib.Ieee.{Float, binary32, to_bits, of_bits}
use lib.Ieee.Bits.{of_bits-to_bits}
use Rattle.float.specs.Sqrt.{sqrt_of}
use Rattle.float.specs.Patterns.{Rooted}
use Rattle.float.proofs.Classes.{is-nan, no_nan}
use Rattle.float.proofs.Signs.{number_ok}
use Rattle.square_root.proofs.Rooting.{nan-root}
use Rattle.square_root.proofs.Quick.{quick}
use Rattle.square_root.proofs.root.sqrt.Lts
use Rattle.square_root.proofs.root.sqrt.Reads
use Rattle.square_root.proofs.root.sqrt.Tie
use Rattle.square_root.proofs.root.sqrt.Goals as goal

abbrev Start : Type 0
Start = Lts.Start Tie.the-claims Reads.Pre Reads.Post

bits : (c : Start) → of_bits binary32 (to_bits binary32 c.args.x) ≡ c.args.x
bits c = of_bits-to_bits binary32 c.args.x (subst T (sym c.well_formed.0.1) tt)

pub returns-then-x : goal.returns-then-x
returns-then-x c = let e = is-nan c.args.x c.if-x.true in subst (λ (v : Float). v ≡ sqrt_of binary32 v) (sym e) (sym nan-root)

pub float_to_bits-b : goal.float_to_bits-b
float_to_bits-b c = no_nan c.args.x c.if-x.false

pub overflow_mul-s : goal.overflow_mul-s
overflow_mul-s c =
    let h = c.near-q.ensures in
    let k : c.near-q.result * c.near-q.result ≤ 2 ^ 25 * 2 ^ 25 = mul-le-mul (le_of_lt h) (le_of_lt h) in
    omega (arith, k)

-- what the two tests show
rooted : (c : goal.Then-n-s) → Rooted (to_bits binary32 c.args.x) ((to_bits binary32 c.args.x + 1048576000) / 2 ^ 24 * 2 ^ 23 + c.near-q.result)
rooted c =
    let q = c.near-q.result in
    quick (to_bits binary32 c.args.x) q c.if-b-ge8388608.true c.if-b-lt2139095040.true
    (subst (λ (n : ℕ). q * q < n + q) c.number-n.ensures.0 c.if-s-n.true)
    (subst (λ (n : ℕ). n ≤ q * q + q) c.number-n.ensures.0 c.if-n-s.true)

pub float_from_bits-result : goal.float_from_bits-result
float_from_bits-result c = number_ok _ (rooted c).0

pub returns-then-n-s : goal.returns-then-n-s
returns-then-n-s c = (rooted c).1 ∙ ap (sqrt_of binary32) (bits c.before.before.before.before.before.before.before)
