-- The tests of one channel of the tables. Assumes nothing.
use mathlib.Core.Path.{◌≡◌, sym, ap, ◌∙◌, subst}
use mathlib.Core.Bool.{Bool, false, not, ◌&&◌}
use mathlib.Core.List.{List}
use Prim.Native.Nat.{ℕ, ◌≤◌, ◌<◌}
use borrow.Author.Tests.{lt-ltb}
use lib.Ieee.{Float}
use Rattle.model.specs.Limits.{key_limit}
use Rattle.model.specs.Sampling.{factor, even, in_line}
use Rattle.tracks.specs.declared.Track.{Track}
use Rattle.tracks.specs.Values.{interpolation_of, kind_of}
use Rattle.tracks.specs.Tracks.{table_number, even_stride, stride_in}
use Rattle.tracks.proofs.Drawn.{stride-is, clear}
use Rattle.tables.specs.declared.ChannelRow.{ChannelRow}
use Rattle.tables.specs.declared.Property.{Property}
use Rattle.tables.specs.Tags.{track_for, property_for, property_of}
use Rattle.pose_slots.specs.Channels.{channel_in}
use Rattle.pose.specs.Lines.{out_of_line}
use Rattle.passed_over.specs.Reasons.{fits}

module _ (floats : List Float) (row : ChannelRow) where
  module _ (z : table_number floats (track_for row) ≡ 0) (x : Track) (e : x ≡ track_for row) where
    pub few-keys : x.keys.count ≤ key_limit
    few-keys = subst (λ (y : Track). y.keys.count ≤ key_limit) (sym e) (clear floats (track_for row) z).few

    abbrev stride_by : Track → ℕ
    stride_by y = even_stride y.keys.count y.values.count (factor (interpolation_of y.interpolation))

    pub stride-told : (m : ℕ) → m ≡ stride_by x → m ≡ stride_in (channel_in floats row)
    stride-told m h =
        h ∙ ap stride_by e ∙ stride-is floats (track_for row) (clear floats (track_for row) z).inside

  pub fit-told : (x : Track) → x ≡ track_for row → (p : Property) → property_of p ≡ property_for row.property
      → (b : Bool) → b ≡ fits (property_of p) (kind_of x.kind)
      → fits (channel_in floats row).property (channel_in floats row).kind ≡ b
  fit-told x e p q b h = sym (h ∙ (λ j. fits (q j) (kind_of (e j).kind)))

  -- keys are in line where the channel is aimed at a node
  pub in-line : (n : ℕ) → out_of_line n (channel_in floats row) ≡ false → row.target < n
      → (even (channel_in floats row) && not (in_line (channel_in floats row).keys)) ≡ false
  in-line n h a =
      let t = channel_in floats row in
      ap (λ (b : Bool). b && even t && not (in_line t.keys)) (sym (lt-ltb t.target n a)) ∙ h
