-- What is answered for a value that a recaster holds, or does not hold.
use Rattle.std.specs.Prelude.{Some, None, Ok, Err, Option, Result}
use Rattle.mapper.specs.declared.error.NotHeldError.{NotHeldError}

abbrev pub recast_answer : {V : Type 0} → V → Option V → Result V (NotHeldError V)
recast_answer v None = Err (record { pointer = v })
recast_answer v (Some u) = Ok u
