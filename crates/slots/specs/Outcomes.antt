-- What an answer with the error of this crate means.
use Rattle.std.specs.Prelude.{Ok, Err, Result}
use Rattle.outcome.specs.Outcome.{Outcome, done, refused}
use Rattle.slots.specs.declared.error.DirectInsertionError.{DirectInsertionError}
use Rattle.slots.specs.declared.error.DirectInsertionError.TheVariants as insertion

-- beyond the capacity 1, taken 2
abbrev pub of_insertion : Result (Unit {0}) DirectInsertionError → Outcome (Unit {0})
of_insertion (Ok u) = done u
of_insertion (Err insertion.NotWithinCapacity) = refused 1
of_insertion (Err insertion.ExistingElementAtIndex) = refused 2
