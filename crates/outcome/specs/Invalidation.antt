-- What the methods of the two kinds of answer give.
use Rattle.std.specs.Prelude.{Bool, true, false, Some, None, Ok, Err, Option, Result}
use Rattle.outcome.specs.declared.answer.InvalidationOption.{InvalidationOption}
use Rattle.outcome.specs.declared.answer.InvalidationOption.TheVariants as option
use Rattle.outcome.specs.declared.answer.InvalidationResult.{InvalidationResult}
use Rattle.outcome.specs.declared.answer.InvalidationResult.TheVariants as result

abbrev pub succeeded : {T : Type 0} → InvalidationOption T → Bool
succeeded (option.Success t) = true
succeeded (option.GenerationOverflow t) = false

abbrev pub overflowed_in : {T : Type 0} → InvalidationOption T → Bool
overflowed_in (option.Success t) = false
overflowed_in (option.GenerationOverflow t) = true

abbrev pub value : {T : Type 0} → InvalidationOption T → T
value (option.Success t) = t
value (option.GenerationOverflow t) = t

abbrev pub strictly : {T : Type 0} → InvalidationOption T → Result T T
strictly (option.Success t) = Ok t
strictly (option.GenerationOverflow t) = Err t

abbrev pub flagged : {T : Type 0} → InvalidationOption T → T × Bool
flagged (option.Success t) = (t, false)
flagged (option.GenerationOverflow t) = (t, true)

abbrev pub went_well : {T : Type 0} → InvalidationResult T → Bool
went_well (result.Success t) = true
went_well (result.GenerationOverflow t) = false
went_well result.InvalidPtr = false

abbrev pub went_over : {T : Type 0} → InvalidationResult T → Bool
went_over (result.Success t) = false
went_over (result.GenerationOverflow t) = true
went_over result.InvalidPtr = false

abbrev pub went_nowhere : {T : Type 0} → InvalidationResult T → Bool
went_nowhere (result.Success t) = false
went_nowhere (result.GenerationOverflow t) = false
went_nowhere result.InvalidPtr = true

abbrev pub value_in : {T : Type 0} → InvalidationResult T → Option T
value_in (result.Success t) = Some t
value_in (result.GenerationOverflow t) = Some t
value_in result.InvalidPtr = None

abbrev pub strictly_in : {T : Type 0} → InvalidationResult T → Result T (Option T)
strictly_in (result.Success t) = Ok t
strictly_in (result.GenerationOverflow t) = Err (Some t)
strictly_in result.InvalidPtr = Err None

abbrev pub flagged_in : {T : Type 0} → InvalidationResult T → Option T × Bool
flagged_in (result.Success t) = (Some t, false)
flagged_in (result.GenerationOverflow t) = (Some t, true)
flagged_in result.InvalidPtr = (None, false)

-- an answer that always succeeds, as one that may not
abbrev pub settled : {T : Type 0} → InvalidationOption T → InvalidationResult T
settled (option.Success t) = result.Success t
settled (option.GenerationOverflow t) = result.GenerationOverflow t
