-- What an answer with the error of this crate means.
use Rattle.std.specs.Prelude.{Some, None, Ok, Err, Option, Result}
use Rattle.outcome.specs.Outcome.{Outcome, done, refused}
use Rattle.mapper.specs.declared.error.NotHeldError.{NotHeldError}

-- a pointer that is not held 9
abbrev pub of_recast : {X V : Type 0} → Result X (NotHeldError V) → Outcome X
of_recast (Ok x) = done x
of_recast (Err e) = refused 9

-- the pointer that was not held
abbrev pub lost : {X V : Type 0} → Result X (NotHeldError V) → Option V
lost (Ok x) = None
lost (Err e) = Some e.pointer
