-- The first channel that a pose passes over. Definitions only.
use Rattle.std.specs.Prelude.{◌≡◌, false, List, [], ◌∷◌, ℕ, suc, eqb, Float, drop}
use Rattle.std.specs.Float.Ieee.{is_nan}
use Rattle.model.specs.Lists.{pick}
use Rattle.model.specs.Scene.{Track, node_count}
use Rattle.tracks.specs.declared.Part.{Part}
use Rattle.tables.specs.Decoded.{Lent, scene_of}
use Rattle.pose.specs.Lines.{NoneDrawn, AllInLine}
use Rattle.pose.specs.Encoded.{pose_number_for, when_accepted}
use Rattle.passed_over.specs.declared.PassedOver.{PassedOver}
use Rattle.passed_over.specs.Reasons.{reason_for}

-- no channel is told, with the number of the pose
abbrev pub no_channel : ℕ → PassedOver
no_channel m = record { number = m; reason = 0; channel = 0 }

-- channel k is passed over for a reason
abbrev pub channel_told : ℕ → ℕ → PassedOver
channel_told r k = record { number = 0; reason = r; channel = k }

-- the first channel with a reason, where the channels are counted from k
unfoldable pub first_with : (Track → ℕ) → ℕ → List Track → PassedOver
first_with reason k [] = no_channel 0
first_with reason k (t ∷ ts) = pick (eqb (reason t) 0) (first_with reason (suc k) ts) (channel_told (reason t) k)

-- the first channel, from the channel `from` on, that the pose at a time passes over; where the pose is refused, its
-- number alone
unfoldable pub passed_over_from : Lent → Float → ℕ → PassedOver
passed_over_from l time from =
    let n = node_count (scene_of l) in
    let number = pose_number_for l time n in
    when_accepted number (first_with (reason_for time n) from (drop from (scene_of l).tracks)) (no_channel number)

-- ---- the stages

-- channels that a search can go through: a pose of n nodes at this time, with slots enough, is not refused
abbrev pub Searchable : List ℕ → List Float → Part → ℕ → Float → Type 0
Searchable words floats channels n time =
    NoneDrawn words floats channels × (is_nan time ≡ false) × AllInLine words floats channels n
