use mathlib.Core.Path.{◌≡◌, sym, ap, ◌∙◌}
use mathlib.Core.Bool.{◌&&◌}
use mathlib.Core.List.{List}
use Prim.Native.Nat.{ℕ}
use lib.Dec.{ltb}
use lib.Ieee.{Float}
use lib.ListN.{length}
use Rattle.model.specs.Limits.{weight_limit}
use Rattle.model.specs.Refusals.{is_scalars}
use Rattle.model.specs.Sampling.{factor}
use Rattle.tracks.specs.Values.{interpolation_of, kind_of}
use Rattle.tracks.specs.Tracks.{keys_fit, values_fit, even_stride}
use Rattle.tracks.proofs.Drawn.{drawn-out, drawn-keys, drawn-weights}
use Rattle.tracks.proofs.numbers.check_in.Lts
use Rattle.tracks.proofs.numbers.check_in.Reads
use Rattle.tracks.proofs.numbers.check_in.Tie
use Rattle.tracks.proofs.numbers.check_in.Goals as goal

abbrev After-lies_in : Type 0
After-lies_in = Lts.After-lies_in Tie.the-claims Reads.Pre Reads.Post

abbrev After-weights_over : Type 0
After-weights_over = Lts.After-weights_over Tie.the-claims Reads.Pre Reads.Post

-- what `lies_in` told, of a table of that length
told : (c : After-lies_in) (floats : List Float)
    → let a = c.args in
    length floats ≡ a.len → (keys_fit (length floats) a.t && values_fit (length floats) a.t) ≡ c.lies_in.result
told c floats e =
    let t = c.args.t in
    ap (λ (n : ℕ). keys_fit n t && values_fit n t) e ∙ sym c.lies_in.ensures

pub returns-then-keys-gt-KEY_LIMIT : goal.returns-then-keys-gt-KEY_LIMIT
returns-then-keys-gt-KEY_LIMIT c floats e =
    drawn-keys floats c.args.t (told c.before.before.before.before floats e ∙ c.if-lies_in.true) c.if-keys-gt-KEY_LIMIT.true

-- what `weights_over` told, in the track's own numbers
over : (c : After-weights_over)
    → let t = c.args.t in
    (is_scalars (kind_of t.kind)
    && ltb weight_limit (even_stride t.keys.count t.values.count (factor (interpolation_of t.interpolation))))
    ≡ c.weights_over.result
over c =
    let t = c.args.t in
    ap (λ (n : ℕ). is_scalars (kind_of t.kind) && ltb weight_limit n) (sym c.track_stride.ensures)
    ∙ sym c.weights_over.ensures

pub returns-then-weights_over : goal.returns-then-weights_over
returns-then-weights_over c floats e =
    drawn-weights floats c.args.t (told c.before.before.before.before.before.before.before floats e ∙ c.if-lies_in.true) _ c.if-keys-gt-KEY_LIMIT.false
    (over c.before ∙ c.if-weights_over.true)

pub returns-then-lies_in : goal.returns-then-lies_in
returns-then-lies_in c floats e =
    drawn-weights floats c.args.t (told c.before.before.before.before.before.before.before floats e ∙ c.if-lies_in.true) _ c.if-keys-gt-KEY_LIMIT.false
    (over c.before ∙ c.if-weights_over.false)

pub returns : goal.returns
returns c floats e = drawn-out floats c.args.t (told c.before floats e ∙ c.if-lies_in.false)
