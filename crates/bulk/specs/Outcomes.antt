-- What an answer with the error of this crate means.
use Rattle.std.specs.Prelude.{Ok, Err, Result}
use Rattle.outcome.specs.Outcome.{Outcome, done, refused}
use Rattle.bulk.specs.declared.error.GetDisjointMutError.{GetDisjointMutError}
use Rattle.bulk.specs.declared.error.GetDisjointMutError.TheVariants as disjoint

-- a record that is not there 4, a slot named twice 5
abbrev pub of_disjoint : Result (Unit {0}) GetDisjointMutError → Outcome (Unit {0})
of_disjoint (Ok u) = done u
of_disjoint (Err disjoint.IndexOutOfBounds) = refused 4
of_disjoint (Err disjoint.OverlappingIndices) = refused 5
