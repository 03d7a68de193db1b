use mathlib.Core.Path.{◌≡◌, refl, ap, ◌∙◌}
use Prim.Native.Nat.{ℕ}
use native.Mathlib.Omega.{arith}
use borrow.Author.Rules.{rules}
use Rattle.model.specs.Lists.{tabulate}
use Rattle.model.specs.Scene.{Track}
use Rattle.tables.specs.Records.{channel_row}
use Rattle.pose_slots.specs.Channels.{channel_in}
use Rattle.pose.specs.Encoded.{encoded_words, encoded_floats}
use Rattle.pose.proofs.ClearLaws.{first-words, first-floats}
use Rattle.pose.proofs.StepLaws.{channel-more}
use Rattle.pose.proofs.sampler.drive_all.Goals as goal

pub loop-k-init : goal.loop-k-init
loop-k-init c =
    let a = c.args in
    let h = a.lent.header in
    let g : ℕ → Track = λ i. channel_in a.lent.floats.now (channel_row a.lent.words.now h.channels i) in (
      search rules,
      refl,
      refl,
      c.requires.marks_value.0 ∙ first-words a.time h.graph.nodes.count g a.marks.now,
      c.requires.marks_value.1 ∙ first-floats a.time h.graph.nodes.count g a.slots.now,
    )

pub drive-requires : goal.drive-requires
drive-requires c =
    let d = c.requires.drivable in
    record { drivable = (d.0, d.1, d.2, omega (arith, d.3), d.4); in_table = omega arith }

pub loop-k-preserved : goal.loop-k-preserved
loop-k-preserved c =
    let a = c.args in
    let h = a.lent.header in
    let g : ℕ → Track = λ i. channel_in a.lent.floats.now (channel_row a.lent.words.now h.channels i) in
    let m = channel-more a.time h.graph.nodes.count c.loop-k.k g a.marks.now a.slots.now c.requires.drivable.3 _ _ _ _ _
    refl c.loop-k.invariant.3 c.loop-k.invariant.4 c.drive.ensures in
    (omega arith, search rules, search rules, m.0, m.1)

pub returns : goal.returns
returns c =
    let l = c.loop-k in
    let a = c.args in
    let h = a.lent.header in
    let g : ℕ → Track = λ i. channel_in a.lent.floats.now (channel_row a.lent.words.now h.channels i) in
    let e : l.k ≡ h.channels.count = omega arith in (
      l.invariant.3 ∙ ap (λ (k : ℕ). encoded_words a.time h.graph.nodes.count (tabulate k g) a.marks.now) e,
      l.invariant.4 ∙ ap (λ (k : ℕ). encoded_floats a.time h.graph.nodes.count (tabulate k g) a.slots.now) e,
    )
