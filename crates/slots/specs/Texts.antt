-- What is written of the error.
use Rattle.std.specs.Prelude.{ℕ, List, codes}
use Rattle.slots.specs.declared.error.DirectInsertionError.{DirectInsertionError}
use Rattle.slots.specs.declared.error.DirectInsertionError.TheVariants as insertion

abbrev pub insertion_text : DirectInsertionError → List ℕ
insertion_text insertion.NotWithinCapacity = codes "a direct insertion index points to an internal slot that does not fit within existing capacity"
insertion_text insertion.ExistingElementAtIndex = codes "a direct insertion index points to an internal slot where there is already an existing element"
