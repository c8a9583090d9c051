-- What is written of each error.
use Rattle.std.specs.Prelude.{ℕ, List, codes}
use Rattle.stack.specs.declared.error.ReallocationError.{ReallocationError}
use Rattle.stack.specs.declared.error.ReallocationError.TheVariants as realloc

abbrev pub within_text : List ℕ
within_text = codes "an operation would not be within existing capacity"

abbrev pub reallocation_text : ReallocationError → List ℕ
reallocation_text realloc.BeyondMaxCapacity = codes "a max capacity limit prevents growing the capacity"
reallocation_text realloc.AllocError = codes "a memory reallocation failed"

abbrev pub reduction_text : List ℕ
reduction_text = codes "the max capacity limit could not be reduced, because the capacity would also need to be reduced to equal it, and the capacity could not be reduced in this case"
