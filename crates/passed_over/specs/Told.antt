-- What the code's reasons say. Definitions only.
use Rattle.std.specs.Prelude.{ℕ, Option, Some, None, Result, Ok, Err}
use Rattle.refusals.specs.declared.Refusal.{Refusal}
use Rattle.refusals.specs.Drawn.{number_of}
use Rattle.passed_over.specs.Reasons as model
use Rattle.passed_over.specs.declared.Reason.{Reason}
use Rattle.passed_over.specs.declared.Passed.{Passed}
use Rattle.passed_over.specs.declared.PassedOver.{PassedOver}
use Rattle.passed_over.specs.Passed.{channel_told, no_channel}
use Rattle.passed_over.specs.declared.Reason.TheVariants as code

abbrev pub reason_of : Reason → model.Reason
reason_of code.NoNode = model.no_node
reason_of code.UnevenLayout = model.uneven_layout
reason_of code.UnfitKind = model.unfit_kind
reason_of code.NoLength = model.no_length

-- a reason's number
abbrev pub code_of : Reason → ℕ
code_of r = model.code (reason_of r)

-- and 0 where there is none
abbrev pub code_told : Option Reason → ℕ
code_told (Some r) = code_of r
code_told None = 0

-- what C is told of an answer
abbrev pub passed_told : Result (Option Passed) Refusal → PassedOver
passed_told (Ok (Some p)) = channel_told (code_of p.reason) p.channel
passed_told (Ok None) = no_channel 0
passed_told (Err r) = no_channel (number_of r)
