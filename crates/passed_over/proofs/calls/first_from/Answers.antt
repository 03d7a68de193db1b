use mathlib.Core.Path.{◌≡◌, refl, sym, ap, ◌∙◌, subst}
use mathlib.Core.Bool.{false}
use Prim.Native.Nat.{ℕ}
use native.Mathlib.Omega.{arith}
use Rattle.model.specs.Scene.{Track}
use Rattle.tracks.specs.Tracks.{table_number}
use Rattle.tables.specs.declared.ChannelRow.{ChannelRow}
use Rattle.tables.specs.Records.{channel_row}
use Rattle.tables.specs.Tags.{track_for}
use Rattle.pose_slots.specs.Channels.{channel_in}
use Rattle.pose.specs.Lines.{out_of_line}
use Rattle.passed_over.specs.Reasons.{reason_for}
use Rattle.passed_over.specs.Passed.{channel_told}
use Rattle.passed_over.proofs.FirstLaws.{next, found, ended}
use Rattle.passed_over.specs.Told.{code_told}
use Rattle.passed_over.proofs.Codes.{some-code}
use Rattle.passed_over.proofs.calls.first_from.Goals as goal

pub loop-k-init : goal.loop-k-init
loop-k-init c = refl

pub reason_at-requires : goal.reason_at-requires
reason_at-requires c =
    let l = c.loop-k in
    let a = c.args in
    let n = a.lent.header.graph.nodes.count in
    let e = sym c.channel_row-row.ensures in (
      subst (λ (r : ChannelRow). table_number a.lent.floats.now (track_for r) ≡ 0) e (c.requires.0 l.k (omega arith)),
      c.requires.1,
      subst (λ (r : ChannelRow). out_of_line n (channel_in a.lent.floats.now r) ≡ false) e
          (c.requires.2 l.k (omega arith)),
    )

pub returns-in-Some : goal.returns-in-Some
returns-in-Some c =
    let l = c.loop-k in
    let a = c.args in
    let n = a.lent.header.graph.nodes.count in
    let g : ℕ → Track = λ i. channel_in a.lent.floats.now (channel_row a.lent.words.now a.lent.header.channels i) in
    let e = c.in-Some.ensures
    ∙ ap (λ (x : ChannelRow). reason_for a.time n (channel_in a.lent.floats.now x)) c.channel_row-row.ensures in
    ap (λ (m : ℕ). channel_told m l.k) e
    ∙ sym (found (reason_for a.time n) a.lent.header.channels.count g l.k (omega arith) (λ z. some-code c.in-Some.reason (e ∙ z)))
    ∙ l.invariant

pub loop-k-preserved : goal.loop-k-preserved
loop-k-preserved c =
    let l = c.loop-k in
    let a = c.args in
    let n = a.lent.header.graph.nodes.count in
    let g : ℕ → Track = λ i. channel_in a.lent.floats.now (channel_row a.lent.words.now a.lent.header.channels i) in
    let e = c.reason_at.ensures
    ∙ ap (λ (x : ChannelRow). reason_for a.time n (channel_in a.lent.floats.now x)) c.channel_row-row.ensures in
    sym (next (reason_for a.time n) a.lent.header.channels.count g l.k (omega arith) (sym e ∙ ap code_told c.in_default.is))
    ∙ l.invariant

pub returns : goal.returns
returns c =
    let l = c.loop-k in
    let a = c.args in
    let n = a.lent.header.graph.nodes.count in
    let g : ℕ → Track = λ i. channel_in a.lent.floats.now (channel_row a.lent.words.now a.lent.header.channels i) in
    sym (ended (reason_for a.time n) a.lent.header.channels.count g l.k (omega arith)) ∙ l.invariant
