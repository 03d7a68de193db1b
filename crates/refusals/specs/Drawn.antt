-- What a call draws: a refusal of the scope's table by the code's name for it, or none.
-- Definitions only.
use Rattle.std.specs.Prelude.{ℕ, Result, Ok, Err}
use Rattle.model.specs.Refusals as model
use Rattle.refusals.specs.declared.Refusal.{Refusal}
use Rattle.refusals.specs.declared.Refusal.TheVariants as code

abbrev pub refusal_of : Refusal → model.Refusal
refusal_of code.OutOfTable = model.out_of_table
refusal_of code.OverLimit = model.over_limit
refusal_of code.NoTime = model.no_time
refusal_of code.UnevenTrack = model.uneven_track
refusal_of code.KeysOutOfLine = model.keys_out_of_line
refusal_of code.ShortScratch = model.short_scratch
refusal_of code.NoSuchNode = model.no_such_node
refusal_of code.UnplacedNode = model.unplaced_node
refusal_of code.NoPalette = model.no_palette
refusal_of code.ShortOutput = model.short_output
refusal_of code.NoCommonRoot = model.no_common_root
refusal_of code.NoSuchFrame = model.no_such_frame
refusal_of code.BadForm = model.bad_form

-- the number of a refusal in the table
abbrev pub number_of : Refusal → ℕ
number_of r = model.number (refusal_of r)

-- the number that a call draws; 0 where it is accepted
abbrev pub number_drawn : {A : Type 0} → Result A Refusal → ℕ
number_drawn (Ok _) = 0
number_drawn (Err r) = number_of r

-- the count that a call answers; 0 where it is refused
abbrev pub count_of : Result ℕ Refusal → ℕ
count_of (Ok n) = n
count_of (Err _) = 0
