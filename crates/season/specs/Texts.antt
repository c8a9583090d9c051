-- The one text of a call.
use Rattle.std.specs.Prelude.{ℕ, ◌≤◌, List, codes, decimal}
use Rattle.lines.specs.Texts.{row, blank}
use Rattle.season.specs.declared.call.Call.{Call}
use Rattle.season.specs.declared.call.Call.TheVariants.{Insert, Remove, Edit, Compress, Cite}

abbrev pub call_text : Call → List ℕ
call_text (Insert s g v) = row (codes "insert") (decimal s) (decimal g) (decimal v)
call_text (Remove s g) = row (codes "remove") (decimal s) (decimal g) blank
call_text (Edit s g v) = row (codes "edit") (decimal s) (decimal g) (decimal v)
call_text Compress = row (codes "compress") blank blank blank
call_text (Cite s g) = row (codes "cite") (decimal s) (decimal g) blank

-- slots have 16 bits, generations and values 32
abbrev pub InRange : Call → Type 0
InRange (Insert s g v) = (s ≤ 65535) × (g ≤ 4294967295) × (v ≤ 4294967295)
InRange (Remove s g) = (s ≤ 65535) × (g ≤ 4294967295)
InRange (Edit s g v) = (s ≤ 65535) × (g ≤ 4294967295) × (v ≤ 4294967295)
InRange Compress = Unit {0}
InRange (Cite s g) = (s ≤ 65535) × (g ≤ 4294967295)
