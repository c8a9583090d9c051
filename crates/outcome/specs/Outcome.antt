-- What the rules say of an answer, whatever its type in the code: done with these values, done with a generation
-- counter used up, or refused under this number.
use Rattle.std.specs.Prelude.{ℕ, Some, None, Option}
use Rattle.outcome.specs.declared.answer.InvalidationOption.{InvalidationOption}
use Rattle.outcome.specs.declared.answer.InvalidationOption.TheVariants as option
use Rattle.outcome.specs.declared.answer.InvalidationResult.{InvalidationResult}
use Rattle.outcome.specs.declared.answer.InvalidationResult.TheVariants as result

pub data Outcome (X : Type 0) : Type 0 where
  done : X → Outcome X
  overflowed : X → Outcome X
  refused : ℕ → Outcome X

-- not found 3
abbrev pub of_found : {X : Type 0} → Option X → Outcome X
of_found (Some x) = done x
of_found None = refused 3

abbrev pub of_invalidation : {X : Type 0} → InvalidationResult X → Outcome X
of_invalidation (result.Success x) = done x
of_invalidation (result.GenerationOverflow x) = overflowed x
of_invalidation result.InvalidPtr = refused 3

abbrev pub of_clearing : {X : Type 0} → InvalidationOption X → Outcome X
of_clearing (option.Success x) = done x
of_clearing (option.GenerationOverflow x) = overflowed x
