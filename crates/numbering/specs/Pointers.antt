-- The pointers of short indices and seasons.
use Rattle.std.specs.Prelude.{ℕ}
use Rattle.kinds.specs.declared.pointer.PtrOf.{PtrOf}
use Rattle.numbering.specs.declared.index.ShortInx.{ShortInx}
use Rattle.numbering.specs.declared.generation.SeasonGen.{SeasonGen}

abbrev pub Pointer : Type 0
Pointer = PtrOf ShortInx SeasonGen

-- the pointer of a slot's number and a season
abbrev pub pointer : ℕ → SeasonGen → Pointer
pointer n g = record { inx = record { raw = n }; generation = g }

-- of a slot field and a generation field
abbrev pub pointer_at : ℕ → ℕ → Pointer
pointer_at slot season = pointer slot (record { season = season })
