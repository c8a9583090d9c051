-- What an answer with one of the errors of this crate means.
use Rattle.std.specs.Prelude.{Ok, Err, Result}
use Rattle.outcome.specs.Outcome.{Outcome, done, refused}
use Rattle.stack.specs.declared.error.NotWithinCapacityError.{NotWithinCapacityError}
use Rattle.stack.specs.declared.error.ReallocationError.{ReallocationError}
use Rattle.stack.specs.declared.error.ReallocationError.TheVariants as realloc
use Rattle.stack.specs.declared.error.MaxCapacityReductionError.{MaxCapacityReductionError}

-- a push that finds no room is refusal 1
abbrev pub of_push : Result (Unit {0}) NotWithinCapacityError → Outcome (Unit {0})
of_push (Ok u) = done u
of_push (Err e) = refused 1

-- beyond the maximum 6, no memory 7
abbrev pub of_reallocation : Result (Unit {0}) ReallocationError → Outcome (Unit {0})
of_reallocation (Ok u) = done u
of_reallocation (Err realloc.BeyondMaxCapacity) = refused 6
of_reallocation (Err realloc.AllocError) = refused 7

-- a limit below the slots 8
abbrev pub of_limit : Result (Unit {0}) MaxCapacityReductionError → Outcome (Unit {0})
of_limit (Ok u) = done u
of_limit (Err e) = refused 8
