-- The refusals' numbers, and what the rules say of an answer.
use Rattle.std.specs.Prelude.{ℕ, Ok, Err, Result}
use Rattle.answers.specs.declared.answer.Concerned.{Concerned}
use Rattle.answers.specs.declared.refusal.Refusal.{Refusal}
use Rattle.answers.specs.declared.refusal.Refusal.TheVariants.{NotWithinCapacity, SlotTaken, NotFound, BeyondMaxCapacity, NoMemory, LimitBelowSlots, NotHeld, NoRoomForReport, NotAScript, UnknownCall, UnfitField}
use Rattle.lines.specs.declared.error.LineError.{LineError}
use Rattle.lines.specs.declared.error.LineError.TheVariants.{Unknown, Unfit}
use Rattle.outcome.specs.Outcome.{Outcome, done, refused}

abbrev pub number_of : Refusal → ℕ
number_of NotWithinCapacity = 1
number_of SlotTaken = 2
number_of NotFound = 3
number_of BeyondMaxCapacity = 6
number_of NoMemory = 7
number_of LimitBelowSlots = 8
number_of NotHeld = 9
number_of NoRoomForReport = 10
number_of NotAScript = 11
number_of UnknownCall = 12
number_of UnfitField = 13

-- the refusal of a line that asks for no call
abbrev pub line_number : LineError → ℕ
line_number Unknown = 12
line_number Unfit = 13

-- carried out with what it concerned, or refused under a number
abbrev pub of_verdict : Result Concerned Refusal → Outcome Concerned
of_verdict (Ok c) = done c
of_verdict (Err r) = refused (number_of r)
