-- What the calls on a single track answer, and what they leave in a lent slice: scope, "The sampled value" and "Numbers
-- when a piece is turned down". Definitions only.
use Rattle.std.specs.Prelude.{Bool, List, [], ◌++◌, ℕ, zero, suc, Float, length, drop}
use Rattle.model.specs.Lists.{pick}
use Rattle.model.specs.Vector.{Vector}
use Rattle.model.specs.Scene.{Kind, vec3s, quats, scalars, Track}
use Rattle.model.specs.Sampling.{even, stride, locate, value_at, frame, cubic_frame}
use Rattle.model.specs.Refusals.{is_scalars, sample_number, frame_number}

-- the refusal number or 0; a Vec3 or Quat that is answered; how many weights of a scalar track were written, and the
-- slice that they were written to
pub record Sampled : Type 0 where
  pub number : ℕ
  pub value : Vector
  pub weights : ℕ
  pub slice : List Float

-- a Vec3 or Quat is answered, and the slice is as lent; weights are written to its start
abbrev pub delivered : Kind → ℕ → Vector → List Float → Sampled
delivered vec3s n v lent = record { number = 0; value = v; weights = 0; slice = lent }
delivered quats n v lent = record { number = 0; value = v; weights = 0; slice = lent }
delivered scalars n v lent = record { number = 0; value = []; weights = n; slice = v ++ drop n lent }

abbrev pub sampled_or : ℕ → Track → Float → List Float → Sampled
sampled_or zero t time lent = delivered t.kind (stride t) (value_at t time (locate t.keys time)) lent
sampled_or (suc n) t time lent = record { number = suc n; value = []; weights = 0; slice = lent }

-- a track sampled at a time; the first argument is what the tables drew, 0, 1 or 2
unfoldable pub sampled : ℕ → Track → Float → List Float → Sampled
sampled tables t time lent = sampled_or (sample_number tables t time (length lent)) t time lent

-- ---- frames: a part of the values, empty where the call is refused

abbrev pub frame_or : ℕ → List Float → List Float
frame_or zero l = l
frame_or (suc n) l = []

unfoldable pub frame_of : ℕ → Track → Bool → ℕ → List Float
frame_of tables t rows k = frame_or (frame_number tables t rows k) (pick rows (cubic_frame t k) (frame t k))

-- weights per frame of an even scalar track, and 0 where there are none
abbrev pub stride_or : ℕ → ℕ → ℕ
stride_or zero n = n
stride_or (suc g) n = 0

unfoldable pub stride_of : ℕ → Track → ℕ
stride_of tables t = stride_or tables (pick (is_scalars t.kind) (pick (even t) (stride t) 0) 0)
