use mathlib.Core.Path.{refl, sym, ap, ◌∙◌, subst}
use mathlib.Core.Bool.{◌&&◌}
use Prim.Native.Nat.{◌-◌, ◌+◌}
use native.Mathlib.Omega.{arith}
use lib.Ieee.{Float, binary32, of_bits, lt}
use lib.Ieee.Scale.{finite}
use Rattle.wire.specs.Bytes.{floats_in}
use Rattle.wire.proofs.Reading as reading
use Rattle.tracks.proofs.Ascent.{Tested, no_key, first_key, next-key, last-key}
use Rattle.byte_tracks.proofs.keys_in_line.Goals as goal

pub returns-then-count-eq0 : goal.returns-then-count-eq0
returns-then-count-eq0 c =
    let bytes = c.args.keys.now in
    no_key (floats_in bytes) (omega (arith, reading.count (of_bits binary32) bytes, c.if-count-eq0.true))

pub loop-i-init : goal.loop-i-init
loop-i-init c =
    let bytes = c.args.keys.now in
    let told = c.float_at-last.ensures in
    let all = reading.count (of_bits binary32) bytes in (
      refl,
      subst (λ (x : Float). Tested (floats_in bytes) x c.is_finite-rising.result 1) (sym told)
          (first_key (floats_in bytes) _ (omega (arith, all, c.if-count-eq0.false)) (c.is_finite-rising.ensures ∙ ap finite told)),
    )

pub loop-i-preserved : goal.loop-i-preserved
loop-i-preserved c =
    let bytes = c.args.keys.now in
    let floats = floats_in bytes in
    let o = c.loop-i in
    let all = reading.count (of_bits binary32) bytes in (
      o.invariant.0,
      subst (λ (x : Float). Tested floats x (o.rising && lt o.last x) (o.i + 1)) (sym c.float_at-key.ensures)
          (next-key floats o.last o.rising o.i o.invariant.1
          (omega (arith, all, c.loop-i-test.true, o.invariant.0))),
    )

pub returns : goal.returns
returns c =
    let bytes = c.args.keys.now in
    let o = c.loop-i in
    let all = reading.count (of_bits binary32) bytes in
    last-key (floats_in bytes) o.last o.rising o.i o.invariant.1 _
    (omega (arith, all, c.loop-i-test.false, o.invariant.0)) c.is_finite.ensures
