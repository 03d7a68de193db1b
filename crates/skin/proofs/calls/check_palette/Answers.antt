use mathlib.Core.Path.{◌≡◌, sym, ap, ◌∙◌, subst}
use mathlib.Core.List.{List}
use Prim.Native.Nat.{ℕ}
use mathlib.Core.Option.{some}
use Prim.Native.Nat.{◌*◌, ◌≤◌, ◌<◌}
use native.Mathlib.Omega.{arith}
use lib.Ieee.{Float}
use lib.ListN.{length}
use Rattle.model.specs.Lists.{map_some}
use Rattle.std.proofs.Common.{Result}
use Rattle.refusals.specs.declared.Refusal.{Refusal}
use Rattle.refusals.proofs.Told.{not-none, passed-on}
use Rattle.tables.specs.Decoded.{lent_of}
use Rattle.checks.specs.Drawn.{tables_number}
use Rattle.tables.specs.Tags.{option_of}
use Rattle.skin.specs.Calls.{palette_at, answer_of, Judged}
use Rattle.skin.proofs.Answering.{refusal, drawn-first, few-slots, no_node, no-palette, no_room, fits, floats}
use Rattle.skin.proofs.calls.check_palette.Goals as goal

pub returns-in_err-check_tables : goal.returns-in_err-check_tables
returns-in_err-check_tables c =
    let a = c.args in
    let l = lent_of a.lent in
    let e = c.in_err-check_tables.field-0.0 in
    subst (λ (r : Result ℕ Refusal). Judged l a.node a.places.now a.slots a.room (answer_of r)) (sym (passed-on _ e c.from_residual.ensures.1))
    (refusal l a.node a.places.now a.slots a.room _ (not-none e)
    (λ slots. drawn-first l a.node a.slots a.room (palette_at l a.node a.places.now slots) _ c.in_err-check_tables.ensures (not-none e)))

pub returns-then-slots-n : goal.returns-then-slots-n
returns-then-slots-n c =
    let a = c.args in
    let l = lent_of a.lent in
    let z : tables_number l ≡ 0 = sym c.in_ok-check_tables.ensures in
    refusal l a.node a.places.now a.slots a.room 6 (λ e. omega (arith, e))
    (λ slots. few-slots l a.node a.slots a.room (palette_at l a.node a.places.now slots) z c.if-slots-n.true)

pub returns-then-n-node : goal.returns-then-n-node
returns-then-n-node c =
    let a = c.args in
    let l = lent_of a.lent in
    let z : tables_number l ≡ 0 = sym c.in_ok-check_tables.ensures in
    let past : a.lent.header.graph.nodes.count ≤ a.node = c.if-n-node.true in
    refusal l a.node a.places.now a.slots a.room 7 (λ e. omega (arith, e))
    (λ slots. no_node l a.node a.slots a.room (palette_at l a.node a.places.now slots) z c.if-slots-n.false past)

pub returns-in_default : goal.returns-in_default
returns-in_default c =
    let a = c.args in
    let l = lent_of a.lent in
    let z : tables_number l ≡ 0 = sym c.in_ok-check_tables.ensures in
    let there : a.node < a.lent.header.graph.nodes.count = omega (arith, c.if-n-node.false) in
    let n = c.node_count.ensures in
    refusal l a.node a.places.now a.slots a.room 9 (λ e. omega (arith, e))
    (λ slots. no-palette l a.node a.slots a.room (palette_at l a.node a.places.now slots) z c.if-slots-n.false there (sym (ap option_of c.in_default.is) ∙ n.count _ _ slots))

pub returns-then-room-k : goal.returns-then-room-k
returns-then-room-k c =
    let a = c.args in
    let l = lent_of a.lent in
    let z : tables_number l ≡ 0 = sym c.in_ok-check_tables.ensures in
    let there : a.node < a.lent.header.graph.nodes.count = omega (arith, c.if-n-node.false) in
    let n = c.node_count.ensures in
    let over : a.room < c.in-Some.k * 16 = omega (arith, c.if-room-k.true) in
    refusal l a.node a.places.now a.slots a.room 10 (λ e. omega (arith, e))
    (λ slots. no_room l a.node a.slots a.room (palette_at l a.node a.places.now slots) z c.if-slots-n.false there c.in-Some.k (sym (ap option_of c.in-Some.is) ∙ n.count _ _ slots) over)

pub returns : goal.returns
returns c =
    let a = c.args in
    let l = lent_of a.lent in
    let z : tables_number l ≡ 0 = sym c.in_ok-check_tables.ensures in
    let there : a.node < a.lent.header.graph.nodes.count = omega (arith, c.if-n-node.false) in
    let n = c.node_count.ensures in
    let room : c.in-Some.k * 16 ≤ a.room = omega (arith, c.if-room-k.false) in
    let many : (slots : List Float) → some c.in-Some.k ≡ map_some length (palette_at l a.node a.places.now slots) = λ slots. sym (ap option_of c.in-Some.is) ∙ n.count a.lent.node_weights.now a.lent.mesh_weights.now slots in
    record {
      number = λ slots. fits l a.node a.slots a.room (palette_at l a.node a.places.now slots) z c.if-slots-n.false there c.in-Some.k (many slots) room;
      floats = λ slots. floats l a.node a.slots a.room (palette_at l a.node a.places.now slots) z c.if-slots-n.false there c.in-Some.k (many slots);
    }
