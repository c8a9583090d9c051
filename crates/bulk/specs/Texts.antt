-- What is written of the error.
use Rattle.std.specs.Prelude.{ℕ, List, codes}
use Rattle.bulk.specs.declared.error.GetDisjointMutError.{GetDisjointMutError}
use Rattle.bulk.specs.declared.error.GetDisjointMutError.TheVariants as disjoint

abbrev pub disjoint_text : GetDisjointMutError → List ℕ
disjoint_text disjoint.IndexOutOfBounds = codes "an index is out of bounds"
disjoint_text disjoint.OverlappingIndices = codes "there were overlapping indices"
