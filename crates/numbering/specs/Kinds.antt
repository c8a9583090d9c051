-- The numbering of short indices, and the test of seasons.
use Rattle.std.specs.Prelude.{ℕ, Bool, cond, Some, None, Option, ◌==◌}
use Rattle.kinds.specs.Places.{in_range}
use Rattle.numbering.specs.declared.index.ShortInx.{ShortInx}
use Rattle.numbering.specs.declared.generation.SeasonGen.{SeasonGen}

abbrev pub short_number : ShortInx → Option ℕ
short_number i = cond (in_range i.raw 65535) (Some i.raw) None

abbrev pub season_alike : SeasonGen → SeasonGen → Bool
season_alike a b = a.season == b.season
